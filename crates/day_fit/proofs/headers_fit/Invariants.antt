-- The headers are right just where those that are left are.
use Rattle.std.proofs.Common.{◌≡◌, drop}
use Rattle.paper.specs.DayFile.{present, headers_of}
use Rattle.day_fit.proofs.headers_fit.Given as goal

abbrev pub invariant-loop-n : goal.invariant-loop-n
invariant-loop-n l = present (headers_of l.lengths l.headers) ≡ present (headers_of (drop l.n-index l.lengths) l.rest)
