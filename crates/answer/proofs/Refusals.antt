-- An answer is told by its number, its length and its place.
use Rattle.std.proofs.Common.{◌≡◌, ◌∙◌, ℕ, nat_eq, if◌then◌else◌, Result, Ok, Err, refl, sym, ap, arith}
use Rattle.answer.specs.declared.Refusal.{Refusal}
use Rattle.answer.specs.declared.Refusal.TheVariants.{KeyLength, LongStretch, BadHeader, TooLong, ShortSealed, NoRoom, DoesNotOpen, LongItem, NoRecord, NoLocale, NoPause, BadList}
use Rattle.answer.specs.Outcomes.{number_of, place_of, number_in, place_in, size_in}

-- no refusal has the number 0
pub refuses : (r : Refusal) → number_of r ≡ 0 → ⊥
refuses KeyLength e = omega arith
refuses LongStretch e = omega arith
refuses (BadHeader bad) e = omega arith
refuses TooLong e = omega arith
refuses ShortSealed e = omega arith
refuses NoRoom e = omega arith
refuses DoesNotOpen e = omega arith
refuses LongItem e = omega arith
refuses NoRecord e = omega arith
refuses NoLocale e = omega arith
refuses NoPause e = omega arith
refuses BadList e = omega arith

-- the refusal of a number and a place
abbrev refusal_of : ℕ → ℕ → Refusal
refusal_of n k =
    if nat_eq n 1 then KeyLength else
    if nat_eq n 2 then LongStretch else
    if nat_eq n 3 then BadHeader (record { 0 = k }) else
    if nat_eq n 4 then TooLong else
    if nat_eq n 5 then ShortSealed else
    if nat_eq n 6 then NoRoom else
    if nat_eq n 7 then DoesNotOpen else
    if nat_eq n 8 then LongItem else
    if nat_eq n 9 then NoRecord else
    if nat_eq n 15 then NoLocale else
    if nat_eq n 16 then NoPause else
    BadList

abbrev answer_of : {A : Type 0} → A → ℕ → ℕ → Result A Refusal
answer_of a n k = if nat_eq n 0 then Ok a else Err (refusal_of n k)

module _ {A : Type 0} (d : A) where
  refused_again : (r : Refusal) → answer_of d (number_of r) (place_of r) ≡ Err r
  refused_again KeyLength = refl
  refused_again LongStretch = refl
  refused_again (BadHeader bad) = refl
  refused_again TooLong = refl
  refused_again ShortSealed = refl
  refused_again NoRoom = refl
  refused_again DoesNotOpen = refl
  refused_again LongItem = refl
  refused_again NoRecord = refl
  refused_again NoLocale = refl
  refused_again NoPause = refl
  refused_again BadList = refl

  one_refused : (r s : Refusal) → number_of r ≡ number_of s → place_of r ≡ place_of s → ◌≡◌ {A = Result A Refusal} (Err r) (Err s)
  one_refused r s e f = sym (refused_again r) ∙ (λ i. answer_of d (e i) (f i)) ∙ refused_again s

-- what an Ok keeps, with the number and the place, is the whole answer
pub one_kept : {A : Type 0} (kept : Result A Refusal → A) → ((a : A) → kept (Ok a) ≡ a) → (z w : Result A Refusal)
    → number_in z ≡ number_in w → kept z ≡ kept w → place_in z ≡ place_in w → z ≡ w
one_kept kept back (Ok a) (Ok b) e s p = ap Ok (sym (back a) ∙ s ∙ back b)
one_kept kept back (Ok a) (Err r) e s p = absurd (refuses r (sym e))
one_kept kept back (Err r) (Ok a) e s p = absurd (refuses r e)
one_kept kept back (Err r) (Err q) e s p = one_refused (kept (Err r)) r q e p

pub one_answer : (z w : Result ℕ Refusal) → number_in z ≡ number_in w → size_in z ≡ size_in w → place_in z ≡ place_in w → z ≡ w
one_answer = one_kept size_in (λ n. refl)

pub one_test : (z w : Result (Unit {0}) Refusal) → number_in z ≡ number_in w → place_in z ≡ place_in w → z ≡ w
one_test z w e p = one_kept (λ r. tt) (λ u. refl) z w e refl p
