-- The places of the records passed stand where they go, and the next record is the one after these.
use Rattle.std.proofs.Common.{◌≡◌, ◌+◌, take}
use Rattle.paper.specs.DayFile.{write_places}
use Rattle.laws.specs.Placing.{placed}
use Rattle.day_place.specs.Walked.{end_of, places_of}
use Rattle.day_place.proofs.put_places.Given as goal

abbrev pub invariant-loop-i : goal.invariant-loop-i
invariant-loop-i l = record {
  next : l.place ≡ end_of (take l.at l.fn.out) l.first l.i;
  put : l.out ≡ placed (l.at + 4) (write_places (places_of (take l.at l.fn.out) l.first l.i)) l.fn.out;
}
