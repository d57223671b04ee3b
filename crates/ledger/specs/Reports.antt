-- What the report of a file is, before it is put anywhere.
use Rattle.std.specs.Prelude.{Result, Ok, Err, not, eqb, length, if◌then◌else◌}
use Rattle.std.proofs.Math.Option.{Option, none, some}
use Rattle.paper.specs.Strings.{Bytes}
use Rattle.paper.specs.DayFile.{Day}
use Rattle.paper.specs.Ledger as paper
use Rattle.paper.specs.Ledger.{pauses_of, report_of}
use Rattle.mean.specs.declared.Report.{Report}
use Rattle.answer.specs.declared.Refusal.{Refusal}
use Rattle.answer.specs.declared.Refusal.TheVariants.{KeyLength, NoRecord}

-- the definition's report as `line` has it
abbrev pub report_as : paper.Report → Report
report_as r = record {
  totals = record { read = r.read; refused = r.refused; sum = r.sum; longest = r.longest };
  over = r.over;
  under = r.under;
}

-- 9, then 1, then the report
abbrev pub reported_as : Bytes → Option Day → Result Report Refusal
reported_as key none = Err NoRecord
reported_as key (some day) = if not (eqb (length key) 48) then Err KeyLength else Ok (report_as (report_of (pauses_of key day)))
