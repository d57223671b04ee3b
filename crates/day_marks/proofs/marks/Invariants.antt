-- The first i marks are made, and the place is that of the next one.
use Rattle.std.proofs.Common.{◌≡◌, ◌*◌}
use Rattle.paper.specs.DayFile.{read_day}
use Rattle.laws.proofs.Fronts.{Front}
use Rattle.day_find.specs.Finds.{length_place}
use Rattle.day_marks.specs.Marks.{marks_of}
use Rattle.day_marks.proofs.marks.Given as goal

abbrev pub invariant-loop-i : goal.invariant-loop-i
invariant-loop-i l = record {
  next : l.at ≡ length_place (read_day l.file) (64 * l.i);
  made : Front (marks_of (read_day l.file)) l.mark-items l.i;
}
