-- The records passed are put, and the others are right and are to be put.
use Rattle.std.proofs.Common.{◌≡◌, ◌+◌, ◌-◌, ◌*◌, ◌≤◌, true, length, drop}
use Rattle.paper.specs.DayFile.{present, records_of}
use Rattle.day_put.specs.Written.{records_written}
use Rattle.day_put.proofs.Puts.{Put}
use Rattle.day_put.proofs.put_records.Given as goal

abbrev pub invariant-loop-i : goal.invariant-loop-i
invariant-loop-i l = record {
  put :
      Put (records_written (records_of l.headers l.numbers l.stretches l.sizes l.sealed))
      (records_written (records_of l.headers (drop l.i l.numbers) (drop l.i l.stretches) (drop l.i l.sizes) l.rest)) l.start l.at l.fn.out l.out;
  right : present (records_of l.headers (drop l.i l.numbers) (drop l.i l.stretches) (drop l.i l.sizes) l.rest) ≡ true;
  room : l.at + 7 * (length l.sizes - l.i) + length l.rest ≤ length l.fn.out;
}
