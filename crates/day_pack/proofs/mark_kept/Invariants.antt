-- The bits are those of the headers that the kept records passed name.
use Rattle.std.proofs.Common.{◌≡◌, ◌+◌, length}
use Rattle.paper.specs.DayEdits.{count_below, keeps}
use Rattle.day_place.specs.Walked.{end_of}
use Rattle.day_pack.specs.Kept.{MarksOf}
use Rattle.day_pack.proofs.Beside.{Beside}
use Rattle.day_pack.proofs.mark_kept.Given as goal

abbrev pub invariant-loop-k : goal.invariant-loop-k
invariant-loop-k l = record {
  here : l.at ≡ end_of l.file l.first l.k;
  beside : Beside l.dropped l.records l.j l.k;
  counted : l.j + count_below (keeps l.dropped) l.k ≡ l.k;
  long : length l.table ≡ 1638;
  marks : MarksOf l.table l.file l.dropped l.first l.k;
}
