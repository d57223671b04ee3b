use Rattle.std.proofs.Common.{arith}
use Rattle.builder.proofs.Items.{one_long}
use Rattle.builder.proofs.room.Goals as goal

pub returns : goal.returns
returns c = let long = one_long c.args.s.now in (omega (arith, long), omega arith)
