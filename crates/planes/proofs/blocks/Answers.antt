-- `planes::blocks`: a turn puts one block more in place.
use Rattle.std.proofs.Common.{refl, arith}
use Rattle.laws.proofs.Made.{filled_none, filled_more, filled_all}
use Rattle.planes.specs.Planes.{group_of}
use Rattle.planes.proofs.blocks.Goals as goal

pub loop-b-init : goal.loop-b-init
loop-b-init c = filled_none refl

pub loop-b-preserved : goal.loop-b-preserved
loop-b-preserved c = filled_more c.columns_in.result c.loop-b.invariant (omega arith) c.columns_in.ensures

pub returns : goal.returns
unfolding group_of
returns c = filled_all c.loop-b.invariant (omega arith)
