-- The whole list rises where what is left of it rises from the least that may come.
use Rattle.std.proofs.Common.{◌≡◌, drop}
use Rattle.paper.specs.DayEdits.{rising_from}
use Rattle.day_clear.proofs.rising.Given as goal

abbrev pub invariant-loop-n : goal.invariant-loop-n
invariant-loop-n l = rising_from 0 l.records l.dropped ≡ rising_from l.low l.records (drop l.n-index l.dropped)
