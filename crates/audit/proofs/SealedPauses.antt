-- A DAY OF PAUSES (request E12), for the calls. Where a call of sealing that answered 0 wrote each record of a day, from a text that is a pause under
-- the record's header, a report on the day's file has exactly the figures of these pauses.
use mathlib.Core.Bool.{Bool, true, not}
use mathlib.Core.List.{List, [], ◌∷◌, ◌++◌, map, append_assoc}
use mathlib.Core.Option.{Option, some}
use mathlib.Core.Path.{◌≡◌, refl, ap, ap₂, sym, subst, ◌∙◌}
use Prim.Native.Nat.{ℕ, suc, ◌+◌, ◌≤◌, max}
use native.Mathlib.Omega.{arith}
use borrow.Author.Tests.{eq-eqb, le-ltb}
use lib.ListN.{length, take, drop, replicate, length-replicate}
use lib.Seq.{take-append_seam}
use Rattle.std.specs.Prelude.{if◌then◌else◌}
use Rattle.paper.specs.Strings.{Bytes, Below}
use Rattle.paper.specs.Document01.{Outcome, OutcomeAt, refused, done, opening}
use Rattle.paper.specs.DayFile.{Record, Day, header_of, header_place, record_fits, read_day}
use Rattle.paper.specs.Pause.{Pause, no_pause, pausing}
use Rattle.paper.specs.Ledger.{Report, opened_pause, pause_of, pauses_of, read_count, refused_count, sum_of, longest_of, mean_over, mean_under, report_of, line_of, figures_of, put, report_in, reporting, reporting_figures}
use Rattle.laws.proofs.Digits.{below_take, below_drop}
use Rattle.laws.proofs.Demand3.{Fixed}
use Rattle.laws.proofs.DayWritten.{RecordsFit}
use Rattle.laws.proofs.DayReading.{read_write, record_fits_lem}
use Rattle.laws.proofs.DayPlaces.{header_stands}
use Rattle.answer.specs.Outcomes.{AnswerAt}
use Rattle.aez.proofs.aez_report.Reads as exported-report
use Rattle.aez.proofs.aez_report_figures.Reads as exported-figures
use Rattle.audit.proofs.Demands.{Sealed, written_long, open_after_seal}
use Rattle.audit.proofs.DayFiles.{sealed_passes}

-- ---- What is assumed of the day, and what its figures are

-- a call of sealing under the record's header and stretch answered 0 and wrote the record's sealed bytes, from a text that is a pause of so many
-- microseconds under that header
pub record OfPause (key : Bytes) (day : Day) (r : Record) (microseconds : ℕ) : Type 0 where
  pub text : Bytes
  pub bytes : Below 256 text
  pub room : Bytes
  pub answer : AnswerAt
  pub left : Bytes
  pub call : Sealed key (header_of day r) r.stretch text room answer left
  pub answer_0 : answer.number ≡ 0
  pub wrote : take answer.length left ≡ r.sealed
  pub pause : pausing (header_of day r) text ≡ record { number = 0; microseconds = microseconds }

-- the records one by one beside their microseconds
abbrev pub AllOfPauses : Bytes → Day → List Record → List ℕ → Type 0
AllOfPauses key day [] [] = Unit {0}
AllOfPauses key day [] (u ∷ us) = ⊥
AllOfPauses key day (r ∷ rs) [] = ⊥
AllOfPauses key day (r ∷ rs) (u ∷ us) = OfPause key day r u × AllOfPauses key day rs us

abbrev pub total : List ℕ → ℕ
total [] = 0
total (u ∷ us) = u + total us

abbrev pub greatest : List ℕ → ℕ
greatest [] = 0
greatest (u ∷ us) = max u (greatest us)

-- all were read and none was refused
abbrev pub exactly : List ℕ → Report
exactly us = record {
  read = length us;
  refused = 0;
  sum = total us;
  longest = greatest us;
  over = mean_over (total us) (length us);
  under = mean_under (total us) (length us);
}

-- ---- The figures of pauses that were all read

abbrev pub read : ℕ → Pause
read u = record { number = 0; microseconds = u }

all_read : (us : List ℕ) → read_count (map read us) ≡ length us
unfolding read_count
all_read [] = refl
all_read (u ∷ us) = ap suc (all_read us)

none_refused : (us : List ℕ) → refused_count (map read us) ≡ 0
unfolding refused_count
none_refused [] = refl
none_refused (u ∷ us) = none_refused us

all_summed : (us : List ℕ) → sum_of (map read us) ≡ total us
unfolding sum_of
all_summed [] = refl
all_summed (u ∷ us) = ap (λ (n : ℕ). u + n) (all_summed us)

longest_of_all : (us : List ℕ) → longest_of (map read us) ≡ greatest us
unfolding longest_of
longest_of_all [] = refl
longest_of_all (u ∷ us) = ap (max u) (longest_of_all us)

report_exactly : (us : List ℕ) → report_of (map read us) ≡ exactly us
unfolding report_of
report_exactly us =
    λ i. record {
      read = all_read us i;
      refused = none_refused us i;
      sum = all_summed us i;
      longest = longest_of_all us i;
      over = mean_over (all_summed us i) (all_read us i);
      under = mean_under (all_summed us i) (all_read us i);
    }

-- ---- The pause of a record

module _ (key : Bytes) (day : Day) (r : Record) (u : ℕ) (p : OfPause key day r u) (key_low : Below 256 key) (header_low : Below 256 (header_of day r)) where
  abbrev h : Bytes
  h = header_of day r

  abbrev t : ℕ
  t = r.stretch

  abbrev M : Bytes
  M = p.text

  -- opened into an output of zeros of the sealed string's length
  abbrev zeros : Bytes
  zeros = replicate (length r.sealed) 0

  abbrev o : OutcomeAt
  o = opening key h t r.sealed zeros

  opened : (o.number ≡ 0) × (o.size ≡ length M) × (o.output ≡ M ++ replicate t 0 ++ drop (length M + t) zeros)
  opened =
      let passed = (sealed_passes key h t M p.room p.answer p.left p.call p.answer_0).common in
      let fixed : Fixed key h passed.strings t =
      record { key_bytes = record { len = passed.key_long; low = key_low }; header_bytes = header_low; reads = passed.reads; short = passed.short } in
      let long : length M + t ≤ length zeros =
      omega
      (arith, ap length p.wrote, written_long key h passed.strings t fixed M p.room p.bytes p.answer p.left p.call p.answer_0, length-replicate {A = ℕ} (length r.sealed) 0) in
      open_after_seal key h passed.strings t fixed M p.room p.bytes p.answer p.left p.call p.answer_0 zeros
      (record { number = o.number; length = o.size; place = o.place }) o.output long (ap (λ (C : Bytes). opening key h t C zeros) (sym p.wrote))

  pause_of_record : pause_of key day r ≡ read u
  unfolding opened_pause
  pause_of_record =
      ap (λ (b : Bool). if b then pausing h (take o.size o.output) else no_pause o.number) (eq-eqb o.number 0 opened.0)
      ∙ ap (pausing h) ((λ i. take (opened.1 i) (opened.2 i)) ∙ ap (take (length M)) (append_assoc M (replicate t 0) (drop (length M + t) zeros)) ∙ take-append_seam M (replicate t 0 ++ drop (length M + t) zeros))
      ∙ p.pause

-- ---- The report on the file

module _ (key file : Bytes) (day : Day) (key_low : Below 256 key) (low : Below 256 file) (reads : read_day file ≡ some day) where
  header_low : (r : Record) → record_fits (length day.headers) r ≡ true → Below 256 (header_of day r)
  header_low r fits =
      subst (Below 256) (header_stands file day low reads r.header (record_fits_lem (length day.headers) r fits).1)
      (below_take 256 (length (header_of day r)) (drop (header_place day.headers r.header) file) (below_drop 256 (header_place day.headers r.header) file low))

  pauses_are : (rs : List Record) (us : List ℕ) → RecordsFit (length day.headers) rs → AllOfPauses key day rs us → map (pause_of key day) rs ≡ map read us
  pauses_are [] [] fit all = refl
  pauses_are [] (u ∷ us) fit all = absurd all
  pauses_are (r ∷ rs) [] fit all = absurd all
  pauses_are (r ∷ rs) (u ∷ us) fit all =
      ap₂ (λ (p : Pause) (ps : List Pause). p ∷ ps) (pause_of_record key day r u all.0 key_low (header_low r fit.0)) (pauses_are rs us fit.1 all.1)

  module _ (us : List ℕ) (all : AllOfPauses key day day.records us) where
    pub day_exactly : report_of (pauses_of key day) ≡ exactly us
    unfolding pauses_of
    day_exactly = ap report_of (pauses_are day.records us (read_write file day low reads).within.records_fit all) ∙ report_exactly us

    reports : length key ≡ 48 → (F : Report → List ℕ) (out : List ℕ) → length (F (exactly us)) ≤ length out
        → report_in F key (read_day file) out ≡ done (length (F (exactly us))) (F (exactly us)) out
    reports key_long F out room =
        ap (λ (o : Option Day). report_in F key o out) reads
        ∙ ap (λ (b : Bool). if not b then refused 1 out else put (F (report_of (pauses_of key day))) out) (eq-eqb (length key) 48 key_long)
        ∙ ap (λ (x : Report). put (F x) out) day_exactly
        ∙ ap (λ (b : Bool). if b then refused 6 out else done (length (F (exactly us))) (F (exactly us)) out) (le-ltb (length out) (length (F (exactly us))) room)

-- a call that reports on such a file, with room, answers 0 and puts the line of exactly these figures first in its output
pub exact_line : (κs : _) (a : _) (n : _) (e : _) → exported-report.Learnt κs a n e
    → (day : Day) → Below 256 a.0.now → Below 256 a.1.0.now → read_day a.1.0.now ≡ some day → length a.0.now ≡ 48
    → (us : List ℕ) → AllOfPauses a.0.now day day.records us → length (line_of (exactly us)) ≤ length a.1.1.0.now
    → (n ≡ 0) × (e.1.1.0.now ≡ line_of (exactly us) ++ drop (length (line_of (exactly us))) a.1.1.0.now)
unfolding reporting
exact_line κs a n e p day key_low low reads key_long us all room =
    let is = reports a.0.now a.1.0.now day key_low low reads us all key_long line_of a.1.1.0.now room in
    (p.0 ∙ ap (λ (o : Outcome). o.number) is, p.2 ∙ ap (λ (o : Outcome). o.output) is)

-- and so with the six numbers
pub exact_figures : (κs : _) (a : _) (n : _) (e : _) → exported-figures.Learnt κs a n e
    → (day : Day) → Below 256 a.0.now → Below 256 a.1.0.now → read_day a.1.0.now ≡ some day → length a.0.now ≡ 48
    → (us : List ℕ) → AllOfPauses a.0.now day day.records us → 6 ≤ length a.1.1.0.now
    → (n ≡ 0) × (e.1.1.0.now ≡ figures_of (exactly us) ++ drop 6 a.1.1.0.now)
unfolding reporting_figures figures_of
exact_figures κs a n e p day key_low low reads key_long us all room =
    let is = reports a.0.now a.1.0.now day key_low low reads us all key_long figures_of a.1.1.0.now room in
    (p.0 ∙ ap (λ (o : Outcome). o.number) is, p.1 ∙ ap (λ (o : Outcome). o.output) is)
