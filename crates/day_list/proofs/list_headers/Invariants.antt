-- The places of the headers passed stand first in the list.
use Rattle.std.proofs.Common.{◌≡◌}
use Rattle.paper.specs.DayFile.{read_day}
use Rattle.laws.specs.Placing.{placed}
use Rattle.day_find.specs.Finds.{length_place}
use Rattle.day_list.specs.Lists.{headers_listed}
use Rattle.day_list.proofs.list_headers.Given as goal

abbrev pub invariant-loop-i : goal.invariant-loop-i
invariant-loop-i l = record {
  next : l.at ≡ length_place (read_day l.file) l.i;
  put : l.places ≡ placed 0 (headers_listed (read_day l.file) l.i) l.initial.places;
}
