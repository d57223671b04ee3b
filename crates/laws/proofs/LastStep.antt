-- The `if` of line 217, which changes the first bit of a short string: over any width of digits it gives digits again, and on bits it undoes
-- itself, since the first bit is set before the block function sees it.
use mathlib.Core.Bool.{Bool, true, false}
use mathlib.Core.List.{List, [], ◌∷◌, ◌++◌}
use mathlib.Core.Path.{◌≡◌, refl, ap, ap₂, ◌∙◌}
use Prim.Native.Nat.{ℕ, zero, suc, ◌-◌, ◌%◌, ◌≤◌, ◌<◌}
use native.Mathlib.Nat.{le_of_suc-le-suc, not-suc-le-zero}
use native.Mathlib.Omega.{arith}
use lib.Bits.{bit_xor, bit_or, bit_and, xor_zero_r, and_zero_r, and_lt, or_lt}
use lib.Dec.{ltb}
use borrow.Author.Tests.{ltb-true}
use lib.ListN.{length, replicate}
use Rattle.std.specs.Prelude.{if◌then◌else◌}
use Rattle.paper.specs.Strings.{Bytes, Bits, Below, Digits, zip, ◌⊕◌, ◌or◌, ◌and◌, zero_fill, bits0*, bits10*}
use Rattle.paper.specs.Figure6.{BlockFunction}
use Rattle.paper.specs.Figure5.{tiny_e, last_step}
use Rattle.laws.proofs.Strings.{⊕_cancel}
use Rattle.laws.proofs.Digits.{⊕_digits}
use Rattle.laws.proofs.Padding.{fill_digits, mark_digits}
use Rattle.laws.proofs.Bitwise.{zip_digits}

-- by a test on a number
pub by_test : (P : Bool → Type 0) (m k : ℕ) → (m < k → P true) → P false → P (ltb m k)
by_test P m k less other = go (ltb m k) refl
  where
    go : (b : Bool) → ltb m k ≡ b → P b
    go true e = less (ltb-true m k e)
    go false e = other

-- ---- on digits of b bits, G in the place of the block function and o in that of 10*

module _ (G : List ℕ → List ℕ) (o : List ℕ) (w : ℕ) where
  -- what is flip to C
  abbrev pub mask : List ℕ → List ℕ
  mask C = G (zero_fill w C or o) and o

module _
    (b w : ℕ) (G : List ℕ → List ℕ) (G-digits : (X : List ℕ) → Digits b w X → Digits b w (G X))
    {o : List ℕ} (o-digits : Digits b w o) {n : ℕ} {C : List ℕ} (some : 1 ≤ n) (few : n ≤ w) (p : Digits b n C) where
  pub under_digits : Digits b w (zero_fill w C or o)
  unfolding ◌or◌
  under_digits = zip_digits bit_or b (or_lt b) (fill_digits w some few p) o-digits

  mask_digits : Digits b w (mask G o w C)
  unfolding ◌and◌
  mask_digits = zip_digits bit_and b (and_lt b) (G-digits _ under_digits) o-digits

  pub masked_digits : Digits b n (C ⊕ mask G o w C)
  masked_digits = ⊕_digits p mask_digits few

-- ---- the first bit

-- no bits of Y are flip to X
pub ⊕_and_zeros : (k : ℕ) (X Y : Bits) → length X ≤ k → length X ≤ length Y → X ⊕ (Y and replicate k 0) ≡ X
unfolding ◌⊕◌ ◌and◌ zip
⊕_and_zeros k [] Y h g = refl
⊕_and_zeros k (x ∷ X) [] h g = absurd (not-suc-le-zero g)
⊕_and_zeros zero (x ∷ X) (y ∷ Y) h g = absurd (not-suc-le-zero h)
⊕_and_zeros (suc k) (x ∷ X) (y ∷ Y) h g =
    ap₂ (λ (a : ℕ) (l : Bits). a ∷ l) (ap (bit_xor x) (and_zero_r y) ∙ xor_zero_r x) (⊕_and_zeros k X Y (le_of_suc-le-suc h) (le_of_suc-le-suc g))

-- a bit that is set hides what was flip to it
or_one : (x t : ℕ) → x < 2 → t < 2 → bit_or (bit_xor x (bit_and t 1)) 1 ≡ bit_or x 1
or_one zero zero p q = refl
or_one zero (suc zero) p q = refl
or_one (suc zero) zero p q = refl
or_one (suc zero) (suc zero) p q = refl
or_one zero (suc (suc t)) p q = absurd (omega arith)
or_one (suc zero) (suc (suc t)) p q = absurd (omega arith)
or_one (suc (suc x)) t p q = absurd (omega arith)

-- and so the first bit of G, flip to C, is not seen where C's first bit is set
hidden : (C G : Bits) → length C ≤ 128 → Below 2 C → Digits 1 128 G → bits0* (C ⊕ (G and bits10* [])) or bits10* [] ≡ bits0* C or bits10* []
unfolding ◌⊕◌ ◌and◌ ◌or◌ zip bits10* zero_fill
hidden [] G h p q = refl
hidden (c ∷ C) [] h p q = absurd (omega arith)
hidden (c ∷ C) (t ∷ G) h p q =
    ap (λ (X : Bits). bits0* (bit_xor c (bit_and t 1) ∷ X) or bits10* []) (⊕_and_zeros 127 C G (omega arith) (omega arith))
    ∙ ap (λ (x : ℕ). x ∷ ((C ++ replicate ((128 - suc (length C) % 128) % 128) 0) or replicate 127 0)) (or_one c t p.0 q.low.0)

-- ---- on bits

module _
    (E : BlockFunction) (Δ : Bytes) (E-digits : (X : Bits) → Digits 1 128 X → Digits 1 128 (tiny_e E Δ 3 X))
    (m : ℕ) {C : Bits} (some : 1 ≤ m) (p : Digits 1 m C) where
  abbrev flip : Bits
  flip = mask (tiny_e E Δ 3) (bits10* []) 128 C

  one : Digits 1 128 (bits10* [])
  unfolding bits10*
  one = mark_digits {n = 0} {X = []} 128 1 (omega arith) (omega arith) (record { len = refl; low = tt })

  pub last_step_digits : Digits 1 m (last_step E Δ m C)
  unfolding last_step
  last_step_digits =
      by_test (λ (t : Bool). Digits 1 m (if t then C ⊕ flip else C)) m 128
      (λ h. masked_digits 1 128 (tiny_e E Δ 3) E-digits one some (omega arith) p)
      p

  pub last_step_last_step : last_step E Δ m (last_step E Δ m C) ≡ C
  unfolding last_step
  last_step_last_step =
      by_test (λ (t : Bool). (if t then (if t then C ⊕ flip else C) ⊕ mask (tiny_e E Δ 3) (bits10* []) 128 (if t then C ⊕ flip else C) else (if t then C ⊕ flip else C)) ≡ C) m 128 twice refl
    where
      twice : m < 128 → (C ⊕ flip) ⊕ mask (tiny_e E Δ 3) (bits10* []) 128 (C ⊕ flip) ≡ C
      twice h =
          let few : m ≤ 128 = omega arith in
          let over : Digits 1 128 (tiny_e E Δ 3 (bits0* C or bits10* [])) = E-digits _ (under_digits 1 128 (tiny_e E Δ 3) E-digits one some few p) in
          let long : Digits 1 128 flip = mask_digits 1 128 (tiny_e E Δ 3) E-digits one some few p in
          ap (λ (X : Bits). (C ⊕ flip) ⊕ (tiny_e E Δ 3 X and bits10* [])) (hidden C (tiny_e E Δ 3 (bits0* C or bits10* [])) (omega arith) p.low over)
          ∙ ⊕_cancel C flip (omega (arith, long.len))
