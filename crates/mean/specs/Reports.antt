-- What a report stands for in the definitions.
use Rattle.paper.specs.Ledger as paper
use Rattle.paper.specs.Ledger.{mean_over, mean_under}
use Rattle.std.specs.Prelude.{ℕ}
use Rattle.mean.specs.declared.Totals.{Totals}
use Rattle.mean.specs.declared.Report.{Report}

-- some totals beside a fraction, as the definition has them
abbrev pub beside : Totals → ℕ → ℕ → paper.Report
beside t over under = record { read = t.read; refused = t.refused; sum = t.sum; longest = t.longest; over = over; under = under }

-- a report as the definition has it
abbrev pub meaning : Report → paper.Report
meaning r = beside r.totals r.over r.under

-- the totals with their mean
abbrev pub with_mean : Totals → paper.Report
with_mean t = beside t (mean_over t.sum t.read) (mean_under t.sum t.read)
