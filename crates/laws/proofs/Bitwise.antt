-- Operations on numbers that work bit by bit: on strings of digits of t bits they are the same operation on the bits.
use mathlib.Core.List.{List, [], ◌∷◌, ◌++◌}
use mathlib.Core.Path.{◌≡◌, refl, ap, ap₂, sym, ◌∙◌}
use Prim.Native.Nat.{ℕ, zero, suc, ◌/◌, ◌%◌, ◌^◌, ◌<◌}
use native.Mathlib.Omega.{arith}
use lib.Bits.{bit_xor, bit_or, bit_and, xor_shr, xor_mod, or_shr, or_mod, and_shr, and_mod}
use lib.ListN.{length}
use Rattle.paper.specs.Strings.{Bytes, Digits, zip, ◌⊕◌, ◌or◌, ◌and◌, digits, bits}
use Rattle.laws.proofs.Digits.{as_digits}
use Rattle.laws.proofs.BitStrings.{length_digits, direct, digits_direct, in_bits, bits_in_bits}

-- ---- entry by entry

zip_none : (f : ℕ → ℕ → ℕ) (X : List ℕ) → zip f X [] ≡ []
unfolding zip
zip_none f [] = refl
zip_none f (x ∷ X) = refl

zip_append : (f : ℕ → ℕ → ℕ) (X Y U W : List ℕ) → length X ≡ length U → zip f (X ++ Y) (U ++ W) ≡ zip f X U ++ zip f Y W
unfolding zip
zip_append f [] Y [] W e = refl
zip_append f [] Y (v ∷ U) W e = absurd (omega arith)
zip_append f (x ∷ X) Y [] W e = absurd (omega arith)
zip_append f (x ∷ X) Y (v ∷ U) W e = ap (λ (l : List ℕ). f x v ∷ l) (zip_append f X Y U W (omega arith))

-- an operation that keeps digits of b bits, on two strings of the same length
module _ (f : ℕ → ℕ → ℕ) (b : ℕ) (keeps : (x y : ℕ) → x < 2 ^ b → y < 2 ^ b → f x y < 2 ^ b) where
  zip_all : (X Y : List ℕ) → Digits b (length X) X → Digits b (length X) Y → Digits b (length X) (zip f X Y)
  unfolding zip
  zip_all [] Y p q = p
  zip_all (x ∷ X) [] p q = absurd (omega arith)
  zip_all (x ∷ X) (y ∷ Y) p q =
      let r : Digits b (length X) (zip f X Y) = zip_all X Y (record { len = refl; low = p.low.1 }) (record { len = omega arith; low = q.low.1 }) in
      record { len = ap suc r.len; low = (keeps x y p.low.0 q.low.0, r.low) }

  pub zip_digits : {n : ℕ} {X Y : List ℕ} → Digits b n X → Digits b n Y → Digits b n (zip f X Y)
  zip_digits {X = X} {Y = Y} p q = as_digits p.len (zip_all X Y (as_digits (sym p.len) p) (as_digits (sym p.len) q))

-- ---- bit by bit

module _
    (f : ℕ → ℕ → ℕ)
    (shr : (x y k : ℕ) → f x y / 2 ^ k ≡ f (x / 2 ^ k) (y / 2 ^ k))
    (mod2 : (x y k : ℕ) → f x y % 2 ^ k ≡ f (x % 2 ^ k) (y % 2 ^ k))
    (t : ℕ) where
  direct_zip : (k x y : ℕ) → direct 2 k (f x y) ≡ zip f (direct 2 k x) (direct 2 k y)
  unfolding zip
  direct_zip zero x y = refl
  direct_zip (suc k) x y =
      ap₂ (λ (d : ℕ) (l : List ℕ). d ∷ l) (ap (λ (z : ℕ). z % 2) (shr x y k) ∙ mod2 (x / 2 ^ k) (y / 2 ^ k) 1) (direct_zip k x y)

  digits_zip : (x y : ℕ) → digits 2 t (f x y) ≡ zip f (digits 2 t x) (digits 2 t y)
  digits_zip x y = digits_direct 2 t (f x y) ∙ direct_zip t x y ∙ sym (ap₂ (zip f) (digits_direct 2 t x) (digits_direct 2 t y))

  in_bits_zip : (X Y : List ℕ) → in_bits t (zip f X Y) ≡ zip f (in_bits t X) (in_bits t Y)
  unfolding in_bits zip
  in_bits_zip [] Y = refl
  in_bits_zip (x ∷ X) [] = sym (zip_none f (digits 2 t x ++ in_bits t X))
  in_bits_zip (x ∷ X) (y ∷ Y) =
      ap₂ ◌++◌ (digits_zip x y) (in_bits_zip X Y)
      ∙ sym (zip_append f (digits 2 t x) (in_bits t X) (digits 2 t y) (in_bits t Y) (length_digits 2 t x ∙ sym (length_digits 2 t y)))

pub in_bits_⊕ : (t : ℕ) (X Y : List ℕ) → in_bits t (X ⊕ Y) ≡ in_bits t X ⊕ in_bits t Y
unfolding ◌⊕◌
in_bits_⊕ t X Y = in_bits_zip bit_xor xor_shr xor_mod t X Y

pub bits_⊕ : (X Y : Bytes) → bits (X ⊕ Y) ≡ bits X ⊕ bits Y
bits_⊕ X Y = bits_in_bits (X ⊕ Y) ∙ in_bits_⊕ 8 X Y ∙ sym (ap₂ ◌⊕◌ (bits_in_bits X) (bits_in_bits Y))

pub bits_or : (X Y : Bytes) → bits (X or Y) ≡ bits X or bits Y
unfolding ◌or◌
bits_or X Y = bits_in_bits (X or Y) ∙ in_bits_zip bit_or or_shr or_mod 8 X Y ∙ sym (ap₂ ◌or◌ (bits_in_bits X) (bits_in_bits Y))

pub bits_and : (X Y : Bytes) → bits (X and Y) ≡ bits X and bits Y
unfolding ◌and◌
bits_and X Y = bits_in_bits (X and Y) ∙ in_bits_zip bit_and and_shr and_mod 8 X Y ∙ sym (ap₂ ◌and◌ (bits_in_bits X) (bits_in_bits Y))
