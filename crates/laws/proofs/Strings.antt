-- The exclusive or of strings, which drops the end of the longer one: associative and commutative with no condition, and its own
-- inverse where the second string is not the shorter one.
use mathlib.Core.List.{List, [], ◌∷◌, ◌++◌}
use mathlib.Core.Path.{◌≡◌, refl, ap, ap₂, sym, ◌∙◌}
use Prim.Native.Nat.{ℕ, zero, suc, ◌≤◌, ◌<◌}
use native.Mathlib.Nat.{le_of_suc-le-suc, not-suc-le-zero}
use native.Mathlib.Omega.{arith}
use lib.Bits.{bit_xor, xor_comm, xor_zero_r}
use lib.ListN.{length, get_or, set, replicate}
use Rattle.paper.specs.Strings.{zip, ◌⊕◌}
use Rattle.laws.proofs.Xor.{xor_assoc, xor_cancel}

pub ⊕_comm : (X Y : List ℕ) → X ⊕ Y ≡ Y ⊕ X
unfolding ◌⊕◌ zip
⊕_comm [] [] = refl
⊕_comm [] (y ∷ Y) = refl
⊕_comm (x ∷ X) [] = refl
⊕_comm (x ∷ X) (y ∷ Y) = ap₂ (λ (a : ℕ) (l : List ℕ). a ∷ l) (xor_comm x y) (⊕_comm X Y)

pub ⊕_assoc : (X Y Z : List ℕ) → (X ⊕ Y) ⊕ Z ≡ X ⊕ (Y ⊕ Z)
unfolding ◌⊕◌ zip
⊕_assoc [] Y Z = refl
⊕_assoc (x ∷ X) [] Z = refl
⊕_assoc (x ∷ X) (y ∷ Y) [] = refl
⊕_assoc (x ∷ X) (y ∷ Y) (z ∷ Z) = ap₂ (λ (a : ℕ) (l : List ℕ). a ∷ l) (xor_assoc x y z) (⊕_assoc X Y Z)

pub ⊕_left_comm : (X Y Z : List ℕ) → X ⊕ (Y ⊕ Z) ≡ Y ⊕ (X ⊕ Z)
⊕_left_comm X Y Z = sym (⊕_assoc X Y Z) ∙ ap (λ (l : List ℕ). l ⊕ Z) (⊕_comm X Y) ∙ ⊕_assoc Y X Z

pub ⊕_cancel : (X Y : List ℕ) → length X ≤ length Y → (X ⊕ Y) ⊕ Y ≡ X
unfolding ◌⊕◌ zip
⊕_cancel [] Y h = refl
⊕_cancel (x ∷ X) [] h = absurd (not-suc-le-zero h)
⊕_cancel (x ∷ X) (y ∷ Y) h = ap₂ (λ (a : ℕ) (l : List ℕ). a ∷ l) (xor_cancel x y) (⊕_cancel X Y (le_of_suc-le-suc h))

-- zeros added change nothing
pub ⊕_zeros : (n : ℕ) (X : List ℕ) → length X ≤ n → X ⊕ replicate n 0 ≡ X
unfolding ◌⊕◌ zip
⊕_zeros n [] h = refl
⊕_zeros zero (x ∷ X) h = absurd (omega arith)
⊕_zeros (suc n) (x ∷ X) h = ap₂ (λ (a : ℕ) (l : List ℕ). a ∷ l) (xor_zero_r x) (⊕_zeros n X (omega arith))

pub ⊕_length : (X Y : List ℕ) → length X ≤ length Y → length (X ⊕ Y) ≡ length X
unfolding ◌⊕◌ zip
⊕_length [] Y h = refl
⊕_length (x ∷ X) [] h = absurd (not-suc-le-zero h)
⊕_length (x ∷ X) (y ∷ Y) h = ap suc (⊕_length X Y (le_of_suc-le-suc h))

-- an xor is no longer than its first string
pub ⊕_short : (X Y : List ℕ) → length (X ⊕ Y) ≤ length X
unfolding ◌⊕◌ zip
⊕_short [] Y = omega arith
⊕_short (x ∷ X) [] = omega arith
⊕_short (x ∷ X) (y ∷ Y) = omega (arith, ⊕_short X Y)

-- zeros in front of one number change that entry alone
pub ⊕_last : (k n : ℕ) (X : List ℕ) → length X ≡ suc k → X ⊕ (replicate k 0 ++ n ∷ []) ≡ set X k (bit_xor (get_or X k 0) n)
unfolding ◌⊕◌ zip
⊕_last k n [] e = absurd (omega arith)
⊕_last zero n (x ∷ []) e = refl
⊕_last zero n (x ∷ y ∷ X) e = absurd (omega arith)
⊕_last (suc k) n (x ∷ X) e = ap₂ (λ (a : ℕ) (l : List ℕ). a ∷ l) (xor_zero_r x) (⊕_last k n X (omega arith))

-- an entry of an xor
pub get_or_⊕ : (X Y : List ℕ) (i : ℕ) → i < length X → i < length Y → get_or (X ⊕ Y) i 0 ≡ bit_xor (get_or X i 0) (get_or Y i 0)
unfolding ◌⊕◌ zip
get_or_⊕ [] Y i h g = absurd (not-suc-le-zero h)
get_or_⊕ (x ∷ X) [] i h g = absurd (not-suc-le-zero g)
get_or_⊕ (x ∷ X) (y ∷ Y) zero h g = refl
get_or_⊕ (x ∷ X) (y ∷ Y) (suc i) h g = get_or_⊕ X Y i (le_of_suc-le-suc h) (le_of_suc-le-suc g)
