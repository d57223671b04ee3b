-- What opening says it wrote lies in the output, whatever the answer.
use mathlib.Core.List.{◌++◌}
use mathlib.Core.Option.{Option, none, some}
use mathlib.Core.Path.{◌≡◌, refl, ap, sym, subst, ◌∙◌}
use Prim.Native.Nat.{ℕ, ◌-◌, ◌≤◌}
use native.Mathlib.Omega.{arith}
use lib.Seq.{length-take-le}
use lib.ListN.{length, take, drop, replicate, length-append}
use Rattle.paper.specs.Strings.{Bytes}
use Rattle.paper.specs.Figure6.{key_of, E}
use Rattle.paper.specs.Figure5.{decrypt}
use Rattle.paper.specs.Document01.{OutcomeAt, beside, opened, opening, opened_part}
use Rattle.answer.specs.Outcomes.{outcome_at, size_in}
use Rattle.answer.specs.declared.Refusal.{Refusal}
use Rattle.std.specs.Prelude.{Result, Ok, Err}
use Rattle.std.specs.Result.{result_unwrap_or}
use Rattle.settle.proofs.Settles.{opening_in}

abbrev Inside : OutcomeAt → Type 0
Inside o = o.size ≤ length o.output

opened_inside : (o : Option Bytes) (t n : ℕ) (out : Bytes) → Inside (beside 0 (opened o t n out))
unfolding opened
opened_inside none t n out = omega arith
opened_inside (some M) t n out = omega (arith, length-append (M ++ replicate t 0) (drop (length (M ++ replicate t 0)) out), length-append M (replicate t 0))

opening_inside : (key header : Bytes) (t : ℕ) (sealed out : Bytes) → Inside (opening key header t sealed out)
opening_inside key header t sealed out =
    opening_in key header t sealed out Inside (omega arith) (omega arith) (λ k e. omega arith) (omega arith) (omega arith) (omega arith)
    (λ strings. opened_inside (decrypt (E (key_of key)) strings t sealed) t (length sealed) out)

sized : (r : Result ℕ Refusal) → result_unwrap_or r 0 ≡ size_in r
sized (Ok n) = refl
sized (Err q) = refl

-- a call that answered r and left these bytes, of which n are handed back
module _ (key header : Bytes) (t : ℕ) (sealed out : Bytes) (r : Result ℕ Refusal) (last : Bytes) (e : outcome_at r last ≡ opening key header t sealed out)
    (n : ℕ) (is : n ≡ result_unwrap_or r 0) where
  pub part_fits : n ≤ length last
  part_fits = subst (λ (k : ℕ). k ≤ length last) (sym (is ∙ sized r)) (subst Inside (sym e) (opening_inside key header t sealed out))

  pub part_long : n ≡ length (take n last)
  part_long = sym (length-take-le n last part_fits)

  pub part_is : take n last ≡ opened_part key header t sealed out
  unfolding opened_part
  part_is = ap (λ (k : ℕ). take k last) (is ∙ sized r) ∙ ap (λ (o : OutcomeAt). take o.size o.output) e
