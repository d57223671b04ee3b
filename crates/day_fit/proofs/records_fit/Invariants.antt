-- The records are right just where those that are left are.
use Rattle.std.proofs.Common.{◌≡◌, drop}
use Rattle.paper.specs.DayFile.{present, records_of}
use Rattle.day_fit.specs.Fits.{records_right}
use Rattle.day_fit.proofs.records_fit.Given as goal

abbrev pub invariant-loop-i : goal.invariant-loop-i
invariant-loop-i l =
    records_right l.headers l.numbers l.stretches l.sizes l.sealed
    ≡ present (records_of l.headers (drop l.i l.numbers) (drop l.i l.stretches) (drop l.i l.sizes) l.left)
