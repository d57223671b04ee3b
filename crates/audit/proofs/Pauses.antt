-- PAUSES AND THE LEDGER (request E12), for the calls. What each returns and writes follows from its arguments alone, and is one of its numbers;
-- one text never has two values under a comma locale and under en.
use mathlib.Core.Bool.{true≢false, Bool, true, false, not}
use mathlib.Core.List.{List, [], ◌∷◌}
use mathlib.Core.Option.{Option, none, some}
use mathlib.Core.Path.{◌≡◌, refl, ap, sym, ◌∙◌}
use Prim.Native.Nat.{ℕ}
use native.Mathlib.Omega.{arith}
use lib.Dec.{eqb, ltb}
use lib.ListN.{length}
use Rattle.std.specs.Prelude.{if◌then◌else◌}
use Rattle.paper.specs.Strings.{Bytes}
use Rattle.paper.specs.Document01.{Outcome, refused, done, read_header}
use Rattle.paper.specs.DayFile.{Day, read_day}
use Rattle.paper.specs.Pause.{Pause, comma, point, header_mark, read_pause, pause_read, pause_under, pause_with, pausing}
use Rattle.paper.specs.Ledger.{Report, pauses_of, report_of, line_of, figures_of, report_in, reporting, reporting_figures}
use Rattle.laws.proofs.PauseParts.{comma_mark, point_mark, never_two_values}
use Rattle.pause.specs.Fields.{field_of}
use Rattle.answer.proofs.Refusals.{one_answer}
use Rattle.audit.proofs.Numbers.{among}
use Rattle.audit.proofs.Determined.{one_outcome}
use Rattle.pause_unit.proofs.is_rest.Reads as pause-is-rest
use Rattle.pause_unit.proofs.with_unit.Reads as pause-with-unit
use Rattle.pause_mark.proofs.header_mark.Reads as pause-header-mark
use Rattle.pause_text.proofs.read_text.Reads as pause-read-text
use Rattle.pause.proofs.read_field.Reads as pause-read-field
use Rattle.mean.proofs.with_mean.Reads as mean-with-mean
use Rattle.line.proofs.line_length.Reads as line-line-length
use Rattle.line.proofs.put_line.Reads as line-put-line
use Rattle.mean.proofs.Report.figures.Reads as mean-figures
use Rattle.mean.proofs.put_figures.Reads as mean-put-figures
use Rattle.pause_sum.proofs.added.Reads as pause-added
use Rattle.ledger.proofs.report.Reads as ledger-report
use Rattle.ledger.proofs.figures.Reads as ledger-figures
use Rattle.aez.proofs.aez_pause.Reads as exported-pause
use Rattle.aez.proofs.aez_report.Reads as exported-report
use Rattle.aez.proofs.aez_report_figures.Reads as exported-figures

-- ---- One result

pub pause_is_rest_determined : (κs : _) (a : _) (z w : _) (e f : _) → pause-is-rest.Learnt κs a z e → pause-is-rest.Learnt κs a w f → z ≡ w
pause_is_rest_determined κs a z w e f p q = p ∙ sym q

pub pause_with_unit_determined : (κs : _) (a : _) (z w : _) (e f : _) → pause-with-unit.Learnt κs a z e → pause-with-unit.Learnt κs a w f → z ≡ w
pause_with_unit_determined κs a z w e f p q = p ∙ sym q

pub pause_header_mark_determined : (κs : _) (a : _) (z w : _) (e f : _) → pause-header-mark.Learnt κs a z e → pause-header-mark.Learnt κs a w f → z ≡ w
pause_header_mark_determined κs a z w e f p q = p ∙ sym q

pub pause_read_text_determined : (κs : _) (a : _) (z w : _) (e f : _) → pause-read-text.Learnt κs a z e → pause-read-text.Learnt κs a w f → z ≡ w
pause_read_text_determined κs a z w e f p q = p ∙ sym q

pub pause_read_field_determined : (κs : _) (a : _) (z w : _) (e f : _) → pause-read-field.Learnt κs a z e → pause-read-field.Learnt κs a w f → z ≡ w
pause_read_field_determined κs a z w e f p q =
    let same : field_of z ≡ field_of w = p.0 ∙ sym q.0 in
    one_answer z w (ap (λ (x : Pause). x.number) same) (ap (λ (x : Pause). x.microseconds) same) (p.1 ∙ sym q.1)

pub exported_pause_determined : (κs : _) (a : _) (z w : _) (e f : _) → exported-pause.Learnt κs a z e → exported-pause.Learnt κs a w f
    → (z ≡ w) × (e.1.1.0.now ≡ f.1.1.0.now)
exported_pause_determined κs a z w e f p q = (p.0 ∙ sym q.0, p.1 ∙ sym q.1)

pub pause_added_determined : (κs : _) (a : _) (z w : _) (e f : _) → pause-added.Learnt κs a z e → pause-added.Learnt κs a w f → z ≡ w
pause_added_determined κs a z w e f p q = p ∙ sym q

pub mean_with_mean_determined : (κs : _) (a : _) (z w : _) (e f : _) → mean-with-mean.Learnt κs a z e → mean-with-mean.Learnt κs a w f → z ≡ w
mean_with_mean_determined κs a z w e f p q =
    ap
    (λ (r : Report). record { totals = record { read = r.read; refused = r.refused; sum = r.sum; longest = r.longest }; over = r.over; under = r.under })
    (p ∙ sym q)

pub line_line_length_determined : (κs : _) (a : _) (z w : _) (e f : _) → line-line-length.Learnt κs a z e → line-line-length.Learnt κs a w f → z ≡ w
line_line_length_determined κs a z w e f p q = p ∙ sym q

pub line_put_line_determined : (κs : _) (a : _) (z w : _) (e f : _) → line-put-line.Learnt κs a z e → line-put-line.Learnt κs a w f → e.1.0.now ≡ f.1.0.now
line_put_line_determined κs a z w e f p q = p ∙ sym q

pub mean_figures_determined : (κs : _) (a : _) (z w : _) (e f : _) → mean-figures.Learnt κs a z e → mean-figures.Learnt κs a w f → z ≡ w
mean_figures_determined κs a z w e f p q = p ∙ sym q

pub mean_put_figures_determined : (κs : _) (a : _) (z w : _) (e f : _) → mean-put-figures.Learnt κs a z e → mean-put-figures.Learnt κs a w f → e.1.0.now ≡ f.1.0.now
mean_put_figures_determined κs a z w e f p q = p ∙ sym q

pub exported_report_determined : (κs : _) (a : _) (z w : _) (e f : _) → exported-report.Learnt κs a z e → exported-report.Learnt κs a w f
    → (z ≡ w) × (e.1.1.1.0.now ≡ f.1.1.1.0.now) × (e.1.1.0.now ≡ f.1.1.0.now)
exported_report_determined κs a z w e f p q = (p.0 ∙ sym q.0, p.1 ∙ sym q.1, p.2 ∙ sym q.2)

pub exported_figures_determined : (κs : _) (a : _) (z w : _) (e f : _) → exported-figures.Learnt κs a z e → exported-figures.Learnt κs a w f
    → (z ≡ w) × (e.1.1.0.now ≡ f.1.1.0.now)
exported_figures_determined κs a z w e f p q = (p.0 ∙ sym q.0, p.1 ∙ sym q.1)

-- ---- The numbers

abbrev pub of_pausing : List ℕ
of_pausing = 0 ∷ 3 ∷ 15 ∷ 16 ∷ []

abbrev Gives : Pause → Type 0
Gives p = among of_pausing p.number ≡ true

pausing_gives : (header text : Bytes) → Gives (pausing header text)
unfolding pausing
pausing_gives header text = with_header (read_header header)
  where
    read : (o : Option ℕ) → Gives (pause_read o)
    read none = refl
    read (some n) = refl

    under : (o : Option ℕ) → Gives (pause_under o text)
    under none = refl
    under (some mark) = read (read_pause mark text)

    with_header : (o : Option (List Bytes)) → Gives (pause_with o text)
    with_header none = refl
    with_header (some ss) = under (header_mark ss)

pub pause_number : (κs : _) (a : _) (n : _) (e : _) → exported-pause.Learnt κs a n e → among of_pausing n ≡ true
pause_number κs a n e p = ap (among of_pausing) p.0 ∙ pausing_gives a.0.now a.1.0.now

abbrev pub of_reporting : List ℕ
of_reporting = 0 ∷ 1 ∷ 6 ∷ 9 ∷ []

report_gives : (F : Report → List ℕ) (key : Bytes) (o : Option Day) (out : List ℕ) → among of_reporting (report_in F key o out).number ≡ true
report_gives F key none out = refl
report_gives F key (some day) out = go (eqb (length key) 48) (ltb (length out) (length w))
  where
    w : List ℕ
    w = F (report_of (pauses_of key day))

    go : (a b : Bool) → among of_reporting (if not a then refused 1 out else if b then refused 6 out else done (length w) w out).number ≡ true
    go true true = refl
    go true false = refl
    go false b = refl

reporting_no_3 : (F : Report → List ℕ) (key : Bytes) (o : Option Day) (out : List ℕ) → (report_in F key o out).number ≡ 3 → ⊥
reporting_no_3 F key o out e = true≢false (sym (report_gives F key o out) ∙ ap (among of_reporting) e)

pub ledger_report_determined : (κs : _) (a : _) (z w : _) (e f : _) → ledger-report.Learnt κs a z e → ledger-report.Learnt κs a w f
    → (z ≡ w) × (e.1.1.0.now ≡ f.1.1.0.now)
unfolding reporting
ledger_report_determined κs a z w e f p q =
    one_outcome z w e.1.1.0.now f.1.1.0.now _ (reporting_no_3 line_of a.0.now (read_day a.1.0.now) a.1.1.0.now) p q

pub ledger_figures_determined : (κs : _) (a : _) (z w : _) (e f : _) → ledger-figures.Learnt κs a z e → ledger-figures.Learnt κs a w f
    → (z ≡ w) × (e.1.1.0.now ≡ f.1.1.0.now)
unfolding reporting_figures
ledger_figures_determined κs a z w e f p q =
    one_outcome z w e.1.1.0.now f.1.1.0.now _ (reporting_no_3 figures_of a.0.now (read_day a.1.0.now) a.1.1.0.now) p q

pub report_number : (κs : _) (a : _) (n : _) (e : _) → exported-report.Learnt κs a n e → among of_reporting n ≡ true
unfolding reporting
report_number κs a n e p = ap (among of_reporting) p.0 ∙ report_gives line_of a.0.now (read_day a.1.0.now) a.1.1.0.now

pub figures_number : (κs : _) (a : _) (n : _) (e : _) → exported-figures.Learnt κs a n e → among of_reporting n ≡ true
unfolding reporting_figures
figures_number κs a n e p = ap (among of_reporting) p.0 ∙ report_gives figures_of a.0.now (read_day a.1.0.now) a.1.1.0.now

-- ---- What the customer asked

-- a header of four items with this mark
pub record Under (header : Bytes) (mark : ℕ) : Type 0 where
  pub strings : List Bytes
  pub reads : read_header header ≡ some strings
  pub marked : header_mark strings ≡ some mark

read_as_lem : (header text : Bytes) (mark : ℕ) → Under header mark → pausing header text ≡ pause_read (read_pause mark text)
unfolding pausing
read_as_lem header text mark u = ap (λ (o : Option (List Bytes)). pause_with o text) u.reads ∙ ap (λ (o : Option ℕ). pause_under o text) u.marked

-- two calls on one text, one under a comma locale and one under en, that both answer 0 hand back the same microseconds
pub never_twenty_minutes : (κs : _) (a : _) (n : _) (e : _) (κs' : _) (a' : _) (n' : _) (e' : _) → exported-pause.Learnt κs a n e → exported-pause.Learnt κs' a' n' e'
    → a.1.0.now ≡ a'.1.0.now → Under a.0.now comma → Under a'.0.now point → n ≡ 0 → n' ≡ 0
    → e.1.1.0.now ≡ e'.1.1.0.now
never_twenty_minutes κs a n e κs' a' n' e' p p' same u u' z z' =
    let text = a.1.0.now in
    let here = read_as_lem a.0.now text comma u in
    let there = ap (pausing a'.0.now) (sym same) ∙ read_as_lem a'.0.now text point u' in
    p.1
    ∙ ap (λ (r : Pause). r.microseconds) here
    ∙ go (read_pause comma text) refl (read_pause point text) refl (sym (ap (λ (r : Pause). r.number) here) ∙ sym p.0 ∙ z) (sym (ap (λ (r : Pause). r.number) there) ∙ sym p'.0 ∙ z')
    ∙ sym (p'.1 ∙ ap (λ (r : Pause). r.microseconds) there)
  where
    go : (x : Option ℕ) → read_pause comma a.1.0.now ≡ x → (y : Option ℕ) → read_pause point a.1.0.now ≡ y
        → (pause_read x).number ≡ 0 → (pause_read y).number ≡ 0 → (pause_read x).microseconds ≡ (pause_read y).microseconds
    go none q y r f g = absurd (omega arith)
    go (some k) q none r f g = absurd (omega arith)
    go (some k) q (some j) r f g = never_two_values comma point comma_mark point_mark (λ h. omega arith) a.1.0.now k j q r
