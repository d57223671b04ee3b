-- A text by its parts: what the code finds of the whole number, the fraction and the unit is what the definition reads.
use Rattle.std.proofs.Common.{Bool, true, false, ◌≡◌, refl, ap, sym, ◌∙◌, ℕ, zero, suc, ◌+◌, ◌-◌, ◌≤◌, eqb, [], ◌++◌, length, get_or, take, drop, replicate, arith, add-zero, eqb-true}
use Rattle.std.proofs.lemmas.Bool.{eqb-false}
use Rattle.std.proofs.Math.Option.{none}
use Rattle.std.proofs.Math.Seq.{drop-drop, get_or-drop, length-take-le}
use Rattle.std.proofs.Math.ListN.{drop_of_length-le}
use Rattle.paper.specs.Strings.{Bytes}
use Rattle.paper.specs.Pause.{digits_first, decimal_after, thousandths, unit_of, times, after_mark, after_whole, read_pause}
use Rattle.laws.proofs.PauseSteps as steps

-- the whole number, then the fraction, then the zeros
in_steps : (W F : Bytes) → thousandths W F ≡ decimal_after (decimal_after (decimal_after 0 W) F) (replicate (3 - length F) 48)
unfolding thousandths
in_steps W F =
    steps.decimal_append 0 (W ++ F) (replicate (3 - length F) 48)
    ∙ ap (λ (n : ℕ). decimal_after n (replicate (3 - length F) 48)) (steps.decimal_append 0 W F)

-- what follows the mark, by its k digits
module _ (W X : Bytes) (k : ℕ) (e : k ≡ digits_first X) where
  pub no_fraction : (1 ≤ k → k ≤ 3 → ⊥) → after_mark W X ≡ none
  no_fraction p = go k refl
    where
      go : (j : ℕ) → k ≡ j → after_mark W X ≡ none
      go zero f = steps.no_fraction W X k e (omega arith)
      go (suc j) f = steps.long_fraction W X k e (omega arith)

  pub fraction : 1 ≤ k → k ≤ 3
      → after_mark W X ≡ times (decimal_after (decimal_after (decimal_after 0 W) (take k X)) (replicate (3 - k) 48)) (unit_of (drop k X))
  fraction p q =
      let long : length (take k X) ≡ k = length-take-le k X (omega (arith, e, steps.digits_within X)) in
      steps.fraction_reads W X k e p q
      ∙ ap (λ (n : ℕ). times n (unit_of (drop k X))) (in_steps W (take k X) ∙ ap (λ (j : ℕ). decimal_after (decimal_after (decimal_after 0 W) (take k X)) (replicate (3 - j) 48)) long)

-- the whole text, by the k digits that it starts with
module _ (mark : ℕ) (text : Bytes) (k : ℕ) (e : k ≡ digits_first text) where
  abbrev W : Bytes
  W = take k text

  pub no_whole : (1 ≤ k → k ≤ 9 → ⊥) → read_pause mark text ≡ none
  no_whole p = go k refl
    where
      go : (j : ℕ) → k ≡ j → read_pause mark text ≡ none
      go zero f = steps.no_whole mark text k e (omega arith)
      go (suc j) f = steps.long_whole mark text k e (omega arith)

  module _ (least : 1 ≤ k) (most : k ≤ 9) where
    reads : read_pause mark text ≡ after_whole mark W (drop k text)
    reads = steps.whole_reads mark text k e least most

    first_is : get_or (drop k text) 0 0 ≡ get_or text k 0
    first_is = get_or-drop k text 0 0 ∙ ap (λ (j : ℕ). get_or text j 0) (add-zero k)

    -- nothing follows the digits
    pub nothing_after : length text ≤ k → read_pause mark text ≡ none
    nothing_after h = reads ∙ ap (after_whole mark W) (drop_of_length-le text h) ∙ go (eqb 0 mark) refl
      where
        go : (t : Bool) → eqb 0 mark ≡ t → after_whole mark W [] ≡ none
        go true f = steps.marked mark W [] (eqb-true 0 mark f) ∙ steps.no_fraction W [] 0 (sym steps.no_digits) (omega arith)
        go false f = steps.unmarked mark W [] (eqb-false 0 mark f) ∙ ap (times (thousandths W [])) (steps.no_unit [] (λ e. omega arith))

    pub mark_after : get_or text k 0 ≡ mark → read_pause mark text ≡ after_mark W (drop (k + 1) text)
    mark_after f = reads ∙ steps.marked mark W (drop k text) (first_is ∙ f) ∙ ap (after_mark W) (drop-drop 1 k text)

    pub no_mark_after : (get_or text k 0 ≡ mark → ⊥) → read_pause mark text ≡ times (decimal_after (decimal_after 0 W) (replicate 3 48)) (unit_of (drop k text))
    no_mark_after f =
        reads
        ∙ steps.unmarked mark W (drop k text) (λ g. f (sym first_is ∙ g))
        ∙ ap (λ (n : ℕ). times n (unit_of (drop k text))) (in_steps W [] ∙ ap (λ (n : ℕ). decimal_after n (replicate 3 48)) (steps.decimal_none (decimal_after 0 W)))
