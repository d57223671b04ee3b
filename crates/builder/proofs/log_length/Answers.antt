use Rattle.std.proofs.Common.{arith}
use Rattle.builder.proofs.Items.{log_long}
use Rattle.builder.proofs.log_length.Goals as goal

pub returns : goal.returns
returns c = let a = c.args in omega (arith, log_long a.nonce.now a.host.now a.collector.now a.locale.now)
