-- Whether the records and the index are right is what is still to be seen of both.
use Rattle.std.proofs.Common.{◌≡◌, ◌+◌, ◌-◌, ◌*◌, ◌≤◌, length, drop}
use Rattle.paper.specs.DayFile.{read_records}
use Rattle.day.specs.Checks.{right_index}
use Rattle.day.proofs.Index.{pending}
use Rattle.day.proofs.records_right.Given as goal

abbrev pub invariant-loop-k : goal.invariant-loop-k
invariant-loop-k l = record {
  inside : l.at ≤ length l.file;
  seen : right_index l.first (read_records l.headers l.records (drop l.first l.file))
      ≡ pending l.file l.records l.at (length l.file - 4 * l.records + 4 * l.k) (read_records l.headers (l.records - l.k) (drop l.at l.file));
}
