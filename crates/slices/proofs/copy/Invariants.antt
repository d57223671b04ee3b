-- The first i bytes stand in their place.
use Rattle.std.proofs.Common.{◌≡◌, length}
use lib.Seq.{paste}
use Rattle.slices.proofs.copy.Given as goal

abbrev pub invariant-loop-i : goal.invariant-loop-i
invariant-loop-i l = record {
  long : length l.s ≡ length l.fn.s;
  copied : l.s ≡ paste l.fn.s l.at l.t l.i;
}
