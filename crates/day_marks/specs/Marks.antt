-- The marks over the headers of a file that reads.
use Rattle.std.specs.Prelude.{List, ℕ, ◌*◌}
use Rattle.std.proofs.Math.Option.{Option}
use Rattle.paper.specs.Strings.{tab}
use Rattle.paper.specs.DayFile.{Day}
use Rattle.day_find.specs.Finds.{length_place}

-- entry i is the place of the length bytes of header 64·i; past the last header, the place after all of them
unfoldable pub marks_of : Option Day → List ℕ
marks_of o = tab 205 (λ i. length_place o (64 * i))
