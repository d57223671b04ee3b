-- `planes::words`: the first 4 i words are those of the blocks.
use Rattle.std.proofs.Common.{◌*◌}
use Rattle.laws.proofs.Fronts.{Front}
use Rattle.planes.specs.Planes.{group_words}
use Rattle.planes.proofs.words.Given as goal

abbrev pub invariant-loop-i : goal.invariant-loop-i
invariant-loop-i l = Front (group_words l.g) l.r (4 * l.i)
