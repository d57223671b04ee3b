-- The answers of the report, in the order in which they are tested: what a file's report is, and from it what is put, for the line and for the
-- six numbers.
use mathlib.Core.Bool.{Bool, true, false, not}
use mathlib.Core.List.{List, ◌++◌}
use mathlib.Core.Option.{Option, none, some}
use mathlib.Core.Path.{◌≡◌, refl, ap, sym, ◌∙◌}
use Prim.Native.Nat.{ℕ, ◌+◌, ◌≤◌, ◌<◌}
use native.Mathlib.Omega.{arith}
use borrow.Author.Tests.{eq-eqb, ne_eqb, lt-ltb, le-ltb}
use lib.Dec.{eqb}
use lib.ListN.{length, drop}
use Rattle.std.specs.Prelude.{if◌then◌else◌}
use Rattle.paper.specs.Strings.{Bytes}
use Rattle.paper.specs.Document01.{Outcome, refused, done}
use Rattle.paper.specs.DayFile.{Day, read_day}
use Rattle.paper.specs.Ledger as paper
use Rattle.paper.specs.Ledger.{pauses_of, report_of, figures_of, put, report_in, reporting_figures}
use Rattle.answer.specs.declared.Refusal.{Refusal}
use Rattle.answer.specs.declared.Refusal.TheVariants.{KeyLength, NoRecord}
use Rattle.answer.specs.Outcomes.{number_of, outcome}
use Rattle.laws.specs.Placing.{placed}
use Rattle.std.specs.Prelude.{None, Some, Result, Ok, Err}
use Rattle.day.specs.Checks.{checked_as, checked_day}
use Rattle.day.proofs.Found.{counts_are}
use Rattle.day_find.specs.Finds.{headers_in}
use Rattle.mean.specs.declared.Report.{Report}
use Rattle.mean.specs.Reports.{meaning}
use Rattle.ledger.specs.Pauses.{pauses_in}
use Rattle.ledger.specs.Reports.{report_as, reported_as}

-- the number of headers that the check found
pub checked_headers : (o : Option Day) (headers records first : ℕ) → Some (checked_day headers records first) ≡ checked_as o → headers ≡ headers_in o
checked_headers none headers records first e = cc
checked_headers (some day) headers records first e = (counts_are day headers records first e).0

-- ---- What the report is

module _ (key : Bytes) where
  -- 9
  pub unread : (o : Option Day) → None ≡ checked_as o → Err NoRecord ≡ reported_as key o
  unread none e = refl
  unread (some day) e = cc

  module _ (o : Option Day) (headers records first : ℕ) (reads : Some (checked_day headers records first) ≡ checked_as o) where
    by_key : (b : Bool) → eqb (length key) 48 ≡ b → reported_as key o ≡ (if not b then Err KeyLength else Ok (report_as (report_of (pauses_in key o))))
    by_key b e = go o reads
      where
        go : (o : Option Day) → Some (checked_day headers records first) ≡ checked_as o → reported_as key o ≡ (if not b then Err KeyLength else Ok (report_as (report_of (pauses_in key o))))
        go none r = cc
        go (some day) r = ap (λ (t : Bool). if not t then Err KeyLength else Ok (report_as (report_of (pauses_of key day)))) e

    -- 1
    pub no_key : (length key ≡ 48 → ⊥) → Err KeyLength ≡ reported_as key o
    no_key p = sym (by_key false (ne_eqb (length key) 48 p))

    pub is_report : length key ≡ 48 → (r : Report) → meaning r ≡ report_of (pauses_in key o) → Ok r ≡ reported_as key o
    is_report p r e = ap (λ (x : paper.Report). Ok (report_as x)) e ∙ sym (by_key true (eq-eqb (length key) 48 p))

-- ---- What is put

module _ (F : paper.Report → List ℕ) (key : Bytes) (out : List ℕ) (o : Option Day) where
  -- what is answered for it
  abbrev answered : Result Report Refusal → Outcome
  answered (Err x) = refused (number_of x) out
  answered (Ok r) = put (F (meaning r)) out

  by_told : (t : Result Report Refusal) → t ≡ reported_as key o → answered t ≡ report_in F key o out
  by_told t e = ap answered e ∙ go o
    where
      go : (o : Option Day) → answered (reported_as key o) ≡ report_in F key o out
      go none = refl
      go (some day) = pick (eqb (length key) 48)
        where
          pick : (b : Bool) → answered (if not b then Err KeyLength else Ok (report_as (report_of (pauses_of key day)))) ≡ (if not b then refused 1 out else put (F (report_of (pauses_of key day))) out)
          pick true = refl
          pick false = refl

  -- 9, 1
  pub refusal : (x : Refusal) → Err x ≡ reported_as key o → refused (number_of x) out ≡ report_in F key o out
  refusal x e = by_told (Err x) e

  module _ (r : Report) (is : Ok r ≡ reported_as key o) where
    abbrev by_room : Bool → Outcome
    by_room t = if t then refused 6 out else done (length (F (meaning r))) (F (meaning r)) out

    -- 6
    pub no_room : length out < length (F (meaning r)) → refused 6 out ≡ report_in F key o out
    no_room p = sym (ap by_room (lt-ltb (length out) (length (F (meaning r))) p)) ∙ by_told (Ok r) is

    -- 0
    pub written : (n : ℕ) (last : List ℕ) → n ≡ length (F (meaning r)) → length (F (meaning r)) ≤ length out → last ≡ placed 0 (F (meaning r)) out
        → outcome (Ok n) last ≡ report_in F key o out
    written n last e p q =
        let all : 0 + length (F (meaning r)) ≡ length (F (meaning r)) = omega arith in
        let there : last ≡ F (meaning r) ++ drop (length (F (meaning r))) out = q ∙ ap (λ (k : ℕ). F (meaning r) ++ drop k out) all in
        (λ i. record { number = 0; size = e i; output = there i })
        ∙ sym (ap by_room (le-ltb (length out) (length (F (meaning r))) p))
        ∙ by_told (Ok r) is

-- 6, for the six numbers
pub few_figures : (key file : Bytes) (out : List ℕ) (r : Report) → Ok r ≡ reported_as key (read_day file) → length out < 6
    → refused 6 out ≡ reporting_figures key file out
unfolding reporting_figures figures_of
few_figures key file out r is p = no_room figures_of key out (read_day file) r is p
