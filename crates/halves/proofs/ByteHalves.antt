-- Bytes and their half-bytes: lengths and entries. A string of n bytes has n + n half-bytes.
use mathlib.Core.List.{List, [], ◌∷◌, ◌++◌}
use mathlib.Core.Path.{◌≡◌, refl, ap, ap₂, sym, ◌∙◌}
use Prim.Native.Nat.{ℕ, zero, suc, ◌+◌, ◌-◌, ◌*◌, ◌/◌, ◌%◌, ◌^◌, ◌<◌}
use native.Mathlib.Nat.{mod-lt, zero-lt-suc}
use native.Mathlib.Omega.{arith}
use lib.ListN.{length, get_or, replicate}
use Rattle.paper.specs.Strings.{Bytes, Below, Digits, zip}
use Rattle.halves.specs.HalfBytes.{half_bytes, byte_of, whole_bytes}

-- ---- lengths

pub length_half_bytes : (X : Bytes) → length (half_bytes X) ≡ length X + length X
unfolding half_bytes
length_half_bytes [] = refl
length_half_bytes (b ∷ X) = omega (arith, length_half_bytes X)

half_bytes_lem : (X : Bytes) → Digits 8 (length X) X → Digits 4 (length X + length X) (half_bytes X)
unfolding half_bytes
half_bytes_lem [] p = record { len = refl; low = tt }
half_bytes_lem (b ∷ X) p =
    let q : Digits 4 (length X + length X) (half_bytes X) = half_bytes_lem X (record { len = refl; low = p.low.1 }) in
    let small : b < 256 = p.low.0 in
    record { len = omega (arith, q.len); low = (omega arith, (omega arith, q.low)) }

pub half_bytes_digits : {n : ℕ} {X : Bytes} → Digits 8 n X → Digits 4 (n + n) (half_bytes X)
half_bytes_digits {n} {X} p =
    let q : Digits 4 (length X + length X) (half_bytes X) = half_bytes_lem X (record { len = refl; low = p.low }) in
    record { len = omega (arith, q.len, p.len); low = q.low }

pub whole_bytes_digits : (n : ℕ) (X : List ℕ) → length X ≡ n + n → Digits 8 n (whole_bytes X)
unfolding whole_bytes
whole_bytes_digits n [] e = record { len = omega arith; low = tt }
whole_bytes_digits n (h ∷ []) e = absurd (omega arith)
whole_bytes_digits n (h ∷ l ∷ X) e =
    let p : Digits 8 (n - 1) (whole_bytes X) = whole_bytes_digits (n - 1) X (omega arith) in
    let small : byte_of h l < 256 = omega arith in
    record { len = omega (arith, p.len); low = (small, p.low) }

-- ---- entries

pub half_bytes_even : (X : Bytes) (j : ℕ) → j % 2 ≡ 0 → get_or (half_bytes X) j 0 ≡ get_or X (j / 2) 0 / 16
unfolding half_bytes
half_bytes_even [] j e = refl
half_bytes_even (b ∷ X) zero e = refl
half_bytes_even (b ∷ X) (suc zero) e = absurd (omega arith)
half_bytes_even (b ∷ X) (suc (suc j)) e =
    let q : suc (j / 2) ≡ suc (suc j) / 2 = omega arith in
    half_bytes_even X j (omega arith) ∙ ap (λ (k : ℕ). get_or (b ∷ X) k 0 / 16) q

pub half_bytes_odd : (X : Bytes) (j : ℕ) → j % 2 ≡ 1 → get_or (half_bytes X) j 0 ≡ get_or X (j / 2) 0 % 16
unfolding half_bytes
half_bytes_odd [] j e = refl
half_bytes_odd (b ∷ X) zero e = absurd (omega arith)
half_bytes_odd (b ∷ X) (suc zero) e = refl
half_bytes_odd (b ∷ X) (suc (suc j)) e =
    let q : suc (j / 2) ≡ suc (suc j) / 2 = omega arith in
    half_bytes_odd X j (omega arith) ∙ ap (λ (k : ℕ). get_or (b ∷ X) k 0 % 16) q

pub whole_bytes_at : (X : List ℕ) (i : ℕ) → 2 * i + 1 < length X → get_or (whole_bytes X) i 0 ≡ byte_of (get_or X (2 * i) 0) (get_or X (2 * i + 1) 0)
unfolding whole_bytes
whole_bytes_at [] i h = absurd (omega arith)
whole_bytes_at (x ∷ []) i h = absurd (omega arith)
whole_bytes_at (x ∷ y ∷ X) zero h = refl
whole_bytes_at (x ∷ y ∷ X) (suc i) h =
    let a : suc (suc (2 * i)) ≡ 2 * suc i = omega arith in
    let b : suc (suc (2 * i + 1)) ≡ 2 * suc i + 1 = omega arith in
    whole_bytes_at X i (omega arith) ∙ ap₂ (λ (u v : ℕ). byte_of (get_or (x ∷ y ∷ X) u 0) (get_or (x ∷ y ∷ X) v 0)) a b

-- ---- there and back

pub whole_bytes_half_bytes : (X : Bytes) → Below 256 X → whole_bytes (half_bytes X) ≡ X
unfolding half_bytes whole_bytes
whole_bytes_half_bytes [] p = refl
whole_bytes_half_bytes (b ∷ X) p =
    let small : b < 256 = p.0 in
    let whole : byte_of (b / 16) (b % 16) ≡ b = omega arith in
    ap₂ (λ (x : ℕ) (l : Bytes). x ∷ l) whole (whole_bytes_half_bytes X p.1)

pub half_bytes_whole_bytes : (n : ℕ) (X : List ℕ) → length X ≡ n + n → Below 16 X → half_bytes (whole_bytes X) ≡ X
unfolding half_bytes whole_bytes
half_bytes_whole_bytes n [] e p = refl
half_bytes_whole_bytes n (h ∷ []) e p = absurd (omega arith)
half_bytes_whole_bytes n (h ∷ l ∷ X) e p =
    let high : h < 16 = p.0 in
    let low : l < 16 = p.1.0 in
    let first : byte_of h l / 16 ≡ h = omega arith in
    let second : byte_of h l % 16 ≡ l = omega arith in
    λ i. first i ∷ second i ∷ half_bytes_whole_bytes (n - 1) X (omega arith) p.1.1 i

-- ---- joined, and of zeros

pub half_bytes_append : (X Y : Bytes) → half_bytes (X ++ Y) ≡ half_bytes X ++ half_bytes Y
unfolding half_bytes
half_bytes_append [] Y = refl
half_bytes_append (b ∷ X) Y = ap (λ (l : List ℕ). b / 16 ∷ b % 16 ∷ l) (half_bytes_append X Y)

pub half_bytes_zeros : (n : ℕ) → half_bytes (replicate n 0) ≡ replicate (n + n) 0
unfolding half_bytes
half_bytes_zeros zero = refl
half_bytes_zeros (suc n) =
    let two : suc (suc (n + n)) ≡ suc n + suc n = omega arith in
    ap (λ (l : List ℕ). 0 ∷ 0 ∷ l) (half_bytes_zeros n) ∙ ap (λ (k : ℕ). replicate k 0) two

-- ---- an operation that works bit by bit

module _
    (f : ℕ → ℕ → ℕ)
    (mod2 : (x y k : ℕ) → f x y % 2 ^ k ≡ f (x % 2 ^ k) (y % 2 ^ k))
    (block : (k a b r s : ℕ) → r < 2 ^ k → s < 2 ^ k → f (a * 2 ^ k + r) (b * 2 ^ k + s) ≡ f a b * 2 ^ k + f r s) where
  byte_zip : (a b c d : ℕ) → byte_of (f a c) (f b d) ≡ f (byte_of a b) (byte_of c d)
  byte_zip a b c d =
      ap₂ (λ (x y : ℕ). x * 16 + y) (mod2 a c 4) (mod2 b d 4)
      ∙ sym (block 4 (a % 16) (c % 16) (b % 16) (d % 16) (mod-lt b (zero-lt-suc 15)) (mod-lt d (zero-lt-suc 15)))

  pub whole_bytes_zip : (X Y : List ℕ) → whole_bytes (zip f X Y) ≡ zip f (whole_bytes X) (whole_bytes Y)
  unfolding whole_bytes zip
  whole_bytes_zip [] Y = refl
  whole_bytes_zip (a ∷ []) [] = refl
  whole_bytes_zip (a ∷ []) (c ∷ Y) = refl
  whole_bytes_zip (a ∷ b ∷ X) [] = refl
  whole_bytes_zip (a ∷ b ∷ X) (c ∷ []) = refl
  whole_bytes_zip (a ∷ b ∷ X) (c ∷ d ∷ Y) = ap₂ (λ (x : ℕ) (l : Bytes). x ∷ l) (byte_zip a b c d) (whole_bytes_zip X Y)
