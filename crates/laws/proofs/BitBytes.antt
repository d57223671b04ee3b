-- Bit strings as byte strings: a string of 8 n bits is the bits of its n bytes.
use mathlib.Core.List.{List, [], ◌∷◌, ◌++◌}
use mathlib.Core.Path.{◌≡◌, refl, ap, ap₂, sym, ◌∙◌}
use Prim.Native.Nat.{ℕ, zero, suc, ◌*◌, ◌/◌, ◌%◌, ◌+◌, ◌^◌, ◌<◌}
use native.Mathlib.Nat.{pow-suc, div-one, div-div-eq-div-mul, mod-lt, zero-lt-suc}
use native.Mathlib.Omega.{arith}
use lib.Arith.{digits_div, digits_mod}
use lib.ListN.{length, take, drop, take-append-drop}
use Rattle.paper.specs.Strings.{Bits, Bytes, Below, Digits, digits, bits, value_from, bytes_of, bytes}
use Rattle.laws.proofs.Digits.{append_digits, as_digits, take_digits, drop_digits}
use Rattle.laws.proofs.BitStrings.{digits_first_lem}

-- ---- the number that bits represent

-- without its lowest bits
value_div : (a : ℕ) (X : Bits) → Below 2 X → value_from a X / 2 ^ length X ≡ a
unfolding value_from
value_div a [] p = div-one a
value_div a (x ∷ X) p =
    ap (λ (m : ℕ). value_from (a * 2 + x) X / m) (pow-suc 2 (length X))
    ∙ sym (div-div-eq-div-mul (value_from (a * 2 + x) X) (2 ^ length X) 2)
    ∙ ap (λ (m : ℕ). m / 2) (value_div (a * 2 + x) X p.1)
    ∙ digits_div a p.0

-- its lowest bits
digits_value : (a : ℕ) (X : Bits) → Below 2 X → digits 2 (length X) (value_from a X) ≡ X
unfolding value_from digits
digits_value a [] p = refl
digits_value a (x ∷ X) p =
    digits_first_lem 2 (length X) (value_from (a * 2 + x) X)
    ∙ ap₂ (λ (d : ℕ) (l : List ℕ). d ∷ l)
    (ap (λ (m : ℕ). m % 2) (value_div (a * 2 + x) X p.1) ∙ digits_mod a p.0)
    (digits_value (a * 2 + x) X p.1)

module _ {X : Bits} (p : Digits 1 8 X) where
  -- eight bits are a byte
  value_lt : value_from 0 X < 256
  value_lt = let e : value_from 0 X / 2 ^ 8 ≡ 0 = rw p.len at (value_div 0 X p.low) in omega arith

  -- which has these bits
  digits_byte : digits 2 8 (value_from 0 X) ≡ X
  digits_byte = ap (λ (t : ℕ). digits 2 t (value_from 0 X)) (sym p.len) ∙ digits_value 0 X p.low

-- ---- strings

-- t digits to the base 2 are t bits
pub digits_bits : (t n : ℕ) → Digits 1 t (digits 2 t n)
unfolding digits
digits_bits zero n = record { len = refl; low = tt }
digits_bits (suc t) n =
    as_digits (omega arith) (append_digits (digits_bits t (n / 2)) (record { len = refl; low = (mod-lt n (zero-lt-suc 1), tt) }))

byte_bits : (X : Bytes) → Digits 1 (8 * length X) (bits X)
unfolding bits
byte_bits [] = record { len = refl; low = tt }
byte_bits (b ∷ X) = as_digits (omega arith) (append_digits (digits_bits 8 b) (byte_bits X))

-- the bits of n bytes
pub bits_digits : {n : ℕ} {X : Bytes} → Digits 8 n X → Digits 1 (8 * n) (bits X)
bits_digits {n} {X} p = as_digits (ap (λ (k : ℕ). 8 * k) p.len) (byte_bits X)

eight : (n : ℕ) {X : Bits} → Digits 1 (8 * suc n) X → Digits 1 8 (take 8 X)
eight n p = take_digits 8 (omega arith) p

others : (n : ℕ) {X : Bits} → Digits 1 (8 * suc n) X → Digits 1 (8 * n) (drop 8 X)
others n p = as_digits (omega arith) (drop_digits 8 p)

bytes_of_digits : (n : ℕ) (X : Bits) → Digits 1 (8 * n) X → Digits 8 n (bytes_of n X)
unfolding bytes_of
bytes_of_digits zero X p = record { len = refl; low = tt }
bytes_of_digits (suc n) X p =
    let q : Digits 8 n (bytes_of n (drop 8 X)) = bytes_of_digits n (drop 8 X) (others n p) in
    record { len = ap suc q.len; low = (value_lt (eight n p), q.low) }

bits_bytes_of : (n : ℕ) (X : Bits) → Digits 1 (8 * n) X → bits (bytes_of n X) ≡ X
unfolding bits bytes_of
bits_bytes_of zero [] p = refl
bits_bytes_of zero (x ∷ X) p = absurd (omega arith)
bits_bytes_of (suc n) X p =
    ap₂ (λ (u v : List ℕ). u ++ v) (digits_byte (eight n p)) (bits_bytes_of n (drop 8 X) (others n p)) ∙ take-append-drop 8 X

module _ (n : ℕ) {X : Bits} (p : Digits 1 (8 * n) X) where
  bytes_bytes_of : bytes X ≡ bytes_of n X
  unfolding bytes
  bytes_bytes_of = let e : length X / 8 ≡ n = omega arith in ap (λ (m : ℕ). bytes_of m X) e

  -- the bytes of 8 n bits
  pub bytes_digits : Digits 8 n (bytes X)
  bytes_digits = rw bytes_bytes_of (bytes_of_digits n X p)

  -- have these bits
  pub bits_bytes : bits (bytes X) ≡ X
  bits_bytes = ap bits bytes_bytes_of ∙ bits_bytes_of n X p
