-- One bit of one column.
use Rattle.std.proofs.Common.{arith}
use Rattle.tiny.proofs.SummedHalves.{mark_columns}
use Rattle.tiny.proofs.mark.Goals as goal

pub returns : goal.returns
returns c = mark_columns c.args.n (omega arith)
