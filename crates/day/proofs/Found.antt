-- What the check found in a file that reads.
use Rattle.std.proofs.Common.{◌≡◌, ℕ, ap, length}
use Rattle.std.specs.Prelude.{Some}
use Rattle.std.proofs.Math.Option.{some}
use Rattle.paper.specs.DayFile.{Day, first_place}
use Rattle.day.specs.declared.Day.{Day as Counts}
use Rattle.day.specs.Checks.{checked_as, checked_day}

pub counts_are : (day : Day) (headers records first : ℕ) → Some (checked_day headers records first) ≡ checked_as (some day)
    → (headers ≡ length day.headers) × (records ≡ length day.records) × (first ≡ first_place day.headers)
counts_are day headers records first e =
    let same : checked_day headers records first ≡ checked_day (length day.headers) (length day.records) (first_place day.headers) = cc in
    (ap (λ (x : Counts). x.headers) same, ap (λ (x : Counts). x.records) same, ap (λ (x : Counts). x.first) same)
