-- The headers passed are put, and the others are right and are to be put.
use Rattle.std.proofs.Common.{◌≡◌, ◌+◌, ◌-◌, ◌*◌, ◌≤◌, true, length, drop}
use Rattle.paper.specs.DayFile.{present, headers_of}
use Rattle.day_put.specs.Written.{headers_written}
use Rattle.day_put.proofs.Puts.{Put}
use Rattle.day_put.proofs.put_headers.Given as goal

abbrev pub invariant-loop-n : goal.invariant-loop-n
invariant-loop-n l = record {
  put : Put (headers_written (headers_of l.lengths l.headers)) (headers_written (headers_of (drop l.n-index l.lengths) l.rest)) l.start l.at l.fn.out l.out;
  right : present (headers_of (drop l.n-index l.lengths) l.rest) ≡ true;
  room : l.at + 2 * (length l.lengths - l.n-index) + length l.rest ≤ length l.fn.out;
}
