-- `groups::xor`: a turn sums one block more.
use Rattle.std.proofs.Common.{refl, arith}
use Rattle.laws.proofs.Made.{filled_none, filled_more, filled_all}
use Rattle.groups.proofs.xor.Goals as goal

pub loop-i-init : goal.loop-i-init
loop-i-init c = filled_none refl

pub loop-i-preserved : goal.loop-i-preserved
loop-i-preserved c = filled_more c.xor.result c.loop-i.invariant (omega arith) c.xor.ensures

pub returns : goal.returns
returns c = filled_all c.loop-i.invariant (omega arith)
