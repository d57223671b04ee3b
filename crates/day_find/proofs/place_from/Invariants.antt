-- The place is that of the length bytes of the header that is next.
use Rattle.std.proofs.Common.{◌≡◌}
use Rattle.paper.specs.DayFile.{read_day}
use Rattle.day_find.specs.Finds.{length_place}
use Rattle.day_find.proofs.place_from.Given as goal

abbrev pub invariant-loop : goal.invariant-loop
invariant-loop l = l.place ≡ length_place (read_day l.file) l.counter
