-- The last key is zero, and zeros stay zeros when they are crossed.
use Rattle.std.proofs.Common.{refl}
use Rattle.circuit.specs.Planes.{lane}
use Rattle.sub_bytes.specs.Planes.{plane_bytes, crossed_bytes}
use Rattle.tbc.proofs.keys1.Goals as goal

pub returns : goal.returns
unfolding crossed_bytes plane_bytes lane
returns c = refl
