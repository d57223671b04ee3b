use Rattle.paper.specs.DayFile.{read_day}
use Rattle.ledger.specs.Pauses.{pauses_in}
use Rattle.ledger.proofs.Sums.{Added}
use Rattle.ledger.proofs.totals.Given as goal

-- the totals of the pauses passed, and what the definitions give for the rest, are those of all
abbrev pub invariant-loop-k : goal.invariant-loop-k
invariant-loop-k l = Added (pauses_in l.key (read_day l.file)) l.k l.t
