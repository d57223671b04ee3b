-- The last step of AEZ-tiny: strings that are changed in their first byte alone.
use mathlib.Core.Bool.{Bool}
use mathlib.Core.List.{[], ◌∷◌}
use mathlib.Core.Path.{◌≡◌, refl, ap, ap₂, sym, ◌∙◌}
use Prim.Native.Nat.{ℕ, zero, suc, ◌-◌, ◌*◌, ◌%◌, ◌≤◌, ◌<◌}
use native.Mathlib.Nat.{le_of_suc-le-suc, not-suc-le-zero}
use native.Mathlib.Omega.{arith}
use lib.Bits.{bit_xor, bit_or, bit_and, or_zero_r}
use borrow.Author.Tests.{lt-ltb, le-ltb}
use lib.ListN.{length, get_or, set, replicate, length-append, length-replicate}
use Rattle.std.specs.Prelude.{if◌then◌else◌}
use Rattle.paper.specs.Strings.{Bytes, zip, ◌⊕◌, ◌or◌, ◌and◌, zero_fill, pad10*}
use Rattle.paper.specs.Figure6.{row, BlockFunction}
use Rattle.laws.proofs.LastStep.{⊕_and_zeros}
use Rattle.tiny.specs.OnBytes.{last_bytes}

or_zeros : (k : ℕ) (X : Bytes) → length X ≤ k → X or replicate k 0 ≡ X
unfolding ◌or◌ zip
or_zeros k [] h = refl
or_zeros zero (x ∷ X) h = absurd (not-suc-le-zero h)
or_zeros (suc k) (x ∷ X) h = ap₂ (λ (a : ℕ) (l : Bytes). a ∷ l) (or_zero_r x) (or_zeros k X (le_of_suc-le-suc h))

-- the first bit set
first_set : (X : Bytes) → 1 ≤ length X → length X ≤ 16 → X or pad10* [] ≡ set X 0 (bit_or (get_or X 0 0) 128)
unfolding ◌or◌ zip pad10* zero_fill
first_set [] h g = absurd (not-suc-le-zero h)
first_set (x ∷ X) h g = ap (λ (l : Bytes). bit_or x 128 ∷ l) (or_zeros 15 X (le_of_suc-le-suc g))

-- the first bit of Y added to C
first_added : (C Y : Bytes) → 1 ≤ length C → length C ≤ 16 → length Y ≡ 16
    → C ⊕ (Y and pad10* []) ≡ set C 0 (bit_xor (get_or C 0 0) (bit_and (get_or Y 0 0) 128))
unfolding ◌⊕◌ ◌and◌ zip pad10* zero_fill
first_added [] Y h g e = absurd (not-suc-le-zero h)
first_added (c ∷ C) [] h g e = absurd (omega arith)
first_added (c ∷ C) (y ∷ Y) h g e = ap (λ (l : Bytes). bit_xor c (bit_and y 128) ∷ l) (⊕_and_zeros 15 C Y (omega arith) (omega arith))

filled_long : (C : Bytes) → 1 ≤ length C → length C ≤ 16 → length (zero_fill 16 C) ≡ 16
unfolding zero_fill
filled_long C h g =
    length-append C (replicate ((16 - length C % 16) % 16) 0) ∙ omega (arith, length-replicate {A = ℕ} ((16 - length C % 16) % 16) 0)

module _ (f : BlockFunction) (Δ C : Bytes) where
  -- what the `if` makes of a short string
  abbrev flipped : Bytes
  flipped = C ⊕ (f (row 0) 3 (Δ ⊕ (zero_fill 16 C or pad10* [])) and pad10* [])

  -- 16 bytes or more are kept
  pub last_long : 16 ≤ length C → C ≡ last_bytes f Δ C
  unfolding last_bytes
  last_long h = ap (λ (b : Bool). if b then flipped else C) (sym (le-ltb (8 * length C) 128 (omega arith)))

  -- X is the block under E, with its first bit set, and Y what E gives
  pub last_short : (X Y : Bytes) → 1 ≤ length C → length C < 16 → X ≡ zero_fill 16 C
      → Y ≡ f (row 0) 3 (Δ ⊕ set X 0 (bit_or (get_or X 0 0) 128)) → length Y ≡ 16
      → set C 0 (bit_xor (get_or C 0 0) (bit_and (get_or Y 0 0) 128)) ≡ last_bytes f Δ C
  unfolding last_bytes
  last_short X Y h g x y l =
      let long : length X ≡ 16 = ap length x ∙ filled_long C h (omega arith) in
      let e : Y ≡ f (row 0) 3 (Δ ⊕ (zero_fill 16 C or pad10* [])) =
      y ∙ ap (λ (Z : Bytes). f (row 0) 3 (Δ ⊕ Z)) (sym (first_set X (omega arith) (omega arith)) ∙ ap (λ (Z : Bytes). Z or pad10* []) x) in
      sym (first_added C Y h (omega arith) l)
      ∙ ap (λ (Z : Bytes). C ⊕ (Z and pad10* [])) e
      ∙ ap (λ (b : Bool). if b then flipped else C) (sym (lt-ltb (8 * length C) 128 (omega arith)))
