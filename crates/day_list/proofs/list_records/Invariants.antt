-- The places of the records passed stand from the base on in the list.
use Rattle.std.proofs.Common.{◌≡◌}
use Rattle.paper.specs.DayFile.{read_day}
use Rattle.laws.specs.Placing.{placed}
use Rattle.day_list.specs.Lists.{record_place, records_listed}
use Rattle.day_list.proofs.list_records.Given as goal

abbrev pub invariant-loop-i : goal.invariant-loop-i
invariant-loop-i l = record {
  next : l.at ≡ record_place (read_day l.file) l.i;
  put : l.places ≡ placed l.base (records_listed (read_day l.file) l.i) l.initial.places;
}
