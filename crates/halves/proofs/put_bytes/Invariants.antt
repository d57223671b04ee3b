-- The first i bytes are those of the half-bytes.
use Rattle.laws.proofs.Fronts.{Front}
use Rattle.halves.specs.HalfBytes.{whole_bytes}
use Rattle.halves.proofs.put_bytes.Given as goal

abbrev pub invariant-loop-i : goal.invariant-loop-i
invariant-loop-i l = Front (whole_bytes l.h) l.s l.i
