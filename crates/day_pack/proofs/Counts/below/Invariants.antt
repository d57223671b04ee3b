-- r is the count of the bits before i, which starts with the group's.
use Rattle.std.proofs.Common.{◌≡◌}
use Rattle.day_pack.specs.Bits.{bits_below}
use Rattle.day_pack.proofs.Counts.below.Given as goal

abbrev pub invariant-loop-i : goal.invariant-loop-i
invariant-loop-i l = l.r ≡ bits_below l.self.table.now l.i
