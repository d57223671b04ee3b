-- A record's pause as it was taken: by the mark of its header and by the text that it opened to; and the pause of record k of a file.
use mathlib.Core.Bool.{Bool, true}
use mathlib.Core.List.{List, [], ◌∷◌, map}
use mathlib.Core.Option.{Option, none, some}
use mathlib.Core.Path.{◌≡◌, refl, ap, sym, ◌∙◌}
use Prim.Native.Nat.{ℕ, zero, suc, ◌-◌, ◌≤◌}
use native.Mathlib.Omega.{arith}
use borrow.Author.Tests.{eq-eqb, ne_eqb}
use lib.ListN.{length, get_or, take, drop, replicate, get_elem?}
use Rattle.paper.specs.Strings.{Bytes, Below}
use Rattle.paper.specs.Document01.{OutcomeAt, reading, opening}
use Rattle.paper.specs.DayFile.{Record, Day, read_day}
use Rattle.paper.specs.Pause.{Pause, no_pause, read_pause, pause_read, pausing}
use Rattle.paper.specs.Ledger.{opened_pause, pause_of, pauses_of}
use Rattle.answer.specs.Outcomes.{AnswerAt, outcome_of, number_of}
use Rattle.std.specs.Prelude.{if◌then◌else◌, None, Some, Result, Ok, Err}
use Rattle.std.specs.Result.{result_ok}
use Rattle.answer.specs.declared.Refusal.{Refusal}
use Rattle.answer.proofs.Refusals.{refuses}
use Rattle.pause_unit.specs.Answers.{read_as}
use Rattle.pause_mark.specs.Marks.{mark_as}
use Rattle.pause.proofs.Fields.{by_mark}
use Rattle.day_find.specs.declared.Found.{Found}
use Rattle.day_find.specs.Finds.{found_in}
use Rattle.day_find.proofs.Finding.{Stands}
use Rattle.day_open.proofs.Opens.{header_part, sealed_part, stretch_is}
use Rattle.ledger.specs.Pauses.{taken_as, pause_at}
use Rattle.ledger.proofs.OpenedTexts.{by_opened, unopened, either_way}

-- ---- By the mark and the text

taken_text : (x : Option ℕ) → taken_as (pause_read x) ≡ read_as x
taken_text none = refl
taken_text (some n) = refl

module _ (key header : Bytes) (t : ℕ) (C : Bytes) where
  pub no_locale : (r : Refusal) → Err r ≡ mark_as (reading header) → None ≡ taken_as (opened_pause key header t C)
  no_locale r e =
      either_way key header t C
      (λ text z f. sym (ap taken_as (by_mark header text (Err r) e) ∙ ap (λ (b : Bool). if b then Some 0 else None) (ne_eqb (number_of r) 0 (refuses r))))

  -- an answer over an output of zeros, of just the string's length
  module _ (a : AnswerAt) (last out : Bytes) (zeros : out ≡ replicate (length C) 0) (call : outcome_of a last ≡ opening key header t C out) where
    is_opening : outcome_of a last ≡ opening key header t C (replicate (length C) 0)
    is_opening = call ∙ ap (opening key header t C) zeros

    pub no_text : (a.number ≡ 0 → ⊥) → None ≡ taken_as (opened_pause key header t C)
    no_text p = unopened key header t C (λ e. p (ap (λ (o : OutcomeAt). o.number) is_opening ∙ e))

    pub by_text : a.number ≡ 0 → (m : ℕ) → Ok m ≡ mark_as (reading header) → (text : Bytes) → text ≡ take a.length last
        → read_as (read_pause m text) ≡ taken_as (opened_pause key header t C)
    by_text z m k text e =
        let o = opening key header t C (replicate (length C) 0) in
        let front : text ≡ take o.size o.output = e ∙ (λ i. take (is_opening i).size (is_opening i).output) in
        sym (taken_text (read_pause m text))
        ∙ ap taken_as (sym (by_mark header text (Ok m) k))
        ∙ ap (λ (X : Bytes). taken_as (pausing header X)) front
        ∙ sym (by_opened key header t C true (eq-eqb o.number 0 (sym (ap (λ (x : OutcomeAt). x.number) is_opening) ∙ z)))

-- by whether the header has a mark
module _ (key header : Bytes) (t : ℕ) (C : Bytes) where
  pub none_marked : (r : Result ℕ Refusal) → r ≡ mark_as (reading header) → result_ok r ≡ None → None ≡ taken_as (opened_pause key header t C)
  none_marked (Err n) e f = no_locale key header t C n e
  none_marked (Ok m) e f = cc

pub some_marked : (header : Bytes) (m : ℕ) (r : Result ℕ Refusal) → r ≡ mark_as (reading header) → result_ok r ≡ Some m → Ok m ≡ mark_as (reading header)
some_marked header m (Err n) e f = cc
some_marked header m (Ok k) e f = let same : k ≡ m = cc in ap (λ (n : ℕ). ok n) (sym same) ∙ e
  where
    ok : ℕ → Result ℕ Refusal
    ok n = Ok n

-- ---- Record k of a file

elem_map : (f : Record → Pause) (rs : List Record) (k : ℕ) (r : Record) (d : Pause) → get_elem? rs k ≡ some r → get_or (map f rs) k d ≡ f r
elem_map f [] k r d e = cc
elem_map f (x ∷ rs) zero r d e = let is : x ≡ r = cc in ap f is
elem_map f (x ∷ rs) (suc k) r d e = elem_map f rs k r d e

pub found_pause : (key f : Bytes) → Below 256 f → (records k : ℕ) (s : Stands f records k) (found : Found) → found ≡ found_in (read_day f) k
    → opened_pause key (take (found.header_end - found.header_start) (drop found.header_start f)) found.stretch (take (found.end - found.start) (drop found.start f))
    ≡ pause_at key (read_day f) k
unfolding pauses_of
found_pause key f low records k s found e =
    (λ i. opened_pause key (header_part key f low records k s found e i) (stretch_is key f low records k s found e i) (sealed_part key f low records k s found e i))
    ∙ sym (ap (λ (x : Option Day). pause_at key x k) s.reads ∙ elem_map (pause_of key s.day) s.day.records k s.own (no_pause 9) s.elem)

-- ---- The buffer

pub take_zeros : (n m : ℕ) → n ≤ m → ◌≡◌ {A = Bytes} (take n (replicate m 0)) (replicate n 0)
take_zeros zero m p = refl
take_zeros (suc n) zero p = absurd (omega arith)
take_zeros (suc n) (suc m) p = ap (λ (X : Bytes). 0 ∷ X) (take_zeros n m (omega arith))
