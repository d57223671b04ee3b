-- The places of the records passed are put, and the others are to be put.
use Rattle.std.proofs.Common.{◌+◌, ◌*◌, ◌≤◌, drop}
use Rattle.paper.specs.DayFile.{write_places}
use Rattle.day_put.specs.Written.{total, places_by}
use Rattle.day_put.proofs.Puts.{Put}
use Rattle.day_put.proofs.put_places.Given as goal

abbrev pub invariant-loop-i : goal.invariant-loop-i
invariant-loop-i l = record {
  put : Put (write_places (places_by l.first l.sizes)) (write_places (places_by l.place (drop l.i l.sizes))) l.start (l.start + 4 * l.i) l.fn.out l.out;
  below : l.place + total (drop l.i l.sizes) ≤ 65536;
}
