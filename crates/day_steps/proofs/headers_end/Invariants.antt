-- What the definition reads is the headers passed, and what it reads of the rest.
use Rattle.std.proofs.Common.{◌≡◌, ◌-◌, ◌≤◌, List, length, drop}
use Rattle.paper.specs.Strings.{Bytes}
use Rattle.paper.specs.DayFile.{read_headers}
use Rattle.day_steps.proofs.Sections.{ahead}
use Rattle.day_steps.proofs.headers_end.Given as goal

abbrev pub invariant-loop : goal.invariant-loop
invariant-loop l = record {
  inside : l.at ≤ length l.file;
  read : (ps : List Bytes) × (read_headers l.headers (drop 4 l.file) ≡ ahead ps (read_headers (l.headers - l.counter) (drop l.at l.file)));
}
