-- A half as a block: n half-bytes with zeros behind them. The halves of a string are such blocks.
use mathlib.Core.List.{List, [], ◌∷◌, ◌++◌}
use mathlib.Core.Path.{◌≡◌, refl, ap, ap₂, sym, ◌∙◌}
use Prim.Native.Nat.{ℕ, zero, suc, ◌+◌, ◌-◌, ◌≤◌, ◌<◌}
use native.Mathlib.Omega.{arith}
use lib.Bits.{bit_and, and_block, and_mod, and_mask, and_zero_r}
use lib.ListN.{length, take, drop, replicate, length-drop, length-replicate, replicate-append-replicate}
use lib.Seq.{length-take-le, take_at, drop_at, take-take, take-append-le, drop-append-le, take-append-add}
use Rattle.paper.specs.Strings.{Bytes, Below, Digits, Block, zip, ◌and◌}
use Rattle.laws.proofs.Digits.{below_replicate, append_digits, take_digits, drop_digits, zero_digits, as_digits}
use Rattle.halves.specs.HalfBytes.{half_bytes, whole_bytes}
use Rattle.halves.specs.Blocks.{packed, front}
use Rattle.halves.proofs.ByteHalves.{half_bytes_digits, half_bytes_append, half_bytes_zeros, whole_bytes_digits, whole_bytes_half_bytes, half_bytes_whole_bytes, whole_bytes_zip}

-- X and zeros up to 32
abbrev pub filled : List ℕ → List ℕ
filled X = X ++ replicate (32 - length X) 0

whole_bytes_and : (X Y : List ℕ) → whole_bytes (X and Y) ≡ whole_bytes X and whole_bytes Y
unfolding ◌and◌
whole_bytes_and X Y = whole_bytes_zip bit_and and_mod and_block X Y

pub zeros_long : (n : ℕ) → length {A = ℕ} (replicate n 0) ≡ n
zeros_long n = length-replicate n 0

module _ (n : ℕ) (few : n ≤ 32) {X : List ℕ} (p : Digits 4 n X) where
  pub filled_digits : Digits 4 32 (filled X)
  filled_digits = as_digits (omega (arith, p.len)) (append_digits p (zero_digits 4 (32 - length X)))

  pub packed_block : Block (packed X)
  unfolding packed
  packed_block = whole_bytes_digits 16 (filled X) filled_digits.len

pub front_block : (n : ℕ) → n ≤ 32 → Block (front n)
unfolding front
front_block n few = packed_block n few (record { len = length-replicate n 15; low = below_replicate 16 n 15 (omega arith) })

-- ones keep half-bytes, and zeros clear them
cleared : (m : ℕ) (H : List ℕ) → length H ≡ m → H and replicate m 0 ≡ replicate m 0
unfolding ◌and◌ zip
cleared zero [] e = refl
cleared zero (h ∷ H) e = absurd (omega arith)
cleared (suc m) [] e = absurd (omega arith)
cleared (suc m) (h ∷ H) e = ap₂ (λ (x : ℕ) (l : List ℕ). x ∷ l) (and_zero_r h) (cleared m H (omega arith))

kept : (n m : ℕ) (H : List ℕ) → Below 16 H → length H ≡ n + m → H and (replicate n 15 ++ replicate m 0) ≡ take n H ++ replicate m 0
unfolding ◌and◌ zip
kept zero m H p e = cleared m H (omega arith)
kept (suc n) m [] p e = absurd (omega arith)
kept (suc n) m (h ∷ H) p e =
    let small : h < 16 = p.0 in
    let whole : bit_and h 15 ≡ h = and_mask h 4 ∙ omega arith in
    ap₂ (λ (x : ℕ) (l : List ℕ). x ∷ l) whole (kept n m H p.1 (omega arith))

-- the first n half-bytes of a block, and zeros
pub packed_front : (n : ℕ) → n ≤ 32 → {Y : Bytes} → Block Y → Y and front n ≡ packed (take n (half_bytes Y))
unfolding packed front
packed_front n few {Y} p =
    let q : Digits 4 32 (half_bytes Y) = half_bytes_digits {n = 16} p in
    let ones : length {A = ℕ} (replicate n 15) ≡ n = length-replicate n 15 in
    let long : length (take n (half_bytes Y)) ≡ n = length-take-le n (half_bytes Y) (omega (arith, q.len)) in
    ap (λ (X : Bytes). X and whole_bytes (filled (replicate n 15))) (sym (whole_bytes_half_bytes Y p.low))
    ∙ sym (whole_bytes_and (half_bytes Y) (filled (replicate n 15)))
    ∙ ap (λ (m : ℕ). whole_bytes (half_bytes Y and (replicate n 15 ++ replicate (32 - m) 0))) ones
    ∙ ap whole_bytes (kept n (32 - n) (half_bytes Y) q.low (omega (arith, q.len)))
    ∙ ap (λ (m : ℕ). whole_bytes (take n (half_bytes Y) ++ replicate (32 - m) 0)) (sym long)

-- ---- the halves of s, from s and zeros

zeros_drop : (n k : ℕ) → drop {A = ℕ} n (replicate (n + k) 0) ≡ replicate k 0
zeros_drop n k = ap (drop n) (sym (replicate-append-replicate n k 0)) ∙ drop_at (replicate n 0) (replicate k 0) n (zeros_long n)

zeros_take : (n k : ℕ) → take {A = ℕ} n (replicate (n + k) 0) ≡ replicate n 0
zeros_take n k = ap (take n) (sym (replicate-append-replicate n k 0)) ∙ take_at (replicate n 0) (replicate k 0) n (zeros_long n)

-- s put over the front of 32 zeros
pub over_zeros : (n : ℕ) → n ≤ 32 → (s X : Bytes) → X ≡ s ++ drop n (replicate 32 0) → X ≡ s ++ replicate (32 - n) 0
over_zeros n h s X e =
    let all : n + (32 - n) ≡ 32 = omega arith in
    e ∙ ap (λ (l : Bytes). s ++ l) (ap (λ (k : ℕ). drop {A = ℕ} n (replicate k 0)) (sym all) ∙ zeros_drop n (32 - n))

module _ (n : ℕ) (few : n ≤ 31) {s X : Bytes} (p : Digits 8 n s) (x : X ≡ s ++ replicate (32 - n) 0) where
  abbrev H : List ℕ
  H = half_bytes s

  H_digits : Digits 4 (n + n) H
  H_digits = half_bytes_digits p

  abbrev Z : List ℕ
  Z = replicate ((32 - n) + (32 - n)) 0

  all : half_bytes X ≡ H ++ Z
  all = ap half_bytes x ∙ half_bytes_append s (replicate (32 - n) 0) ∙ ap (λ (l : List ℕ). H ++ l) (half_bytes_zeros (32 - n))

  all_digits : Digits 4 64 (half_bytes X)
  all_digits = rw all (as_digits (omega arith) (append_digits H_digits (zero_digits 4 ((32 - n) + (32 - n)))))

  pub part_block : (at : ℕ) → at ≤ 32 → Block (whole_bytes (take 32 (drop at (half_bytes X))))
  part_block at h = whole_bytes_digits 16 _ (take_digits 32 (omega arith) (drop_digits at all_digits)).len

  pub left_half : whole_bytes (take 32 (half_bytes X)) and front n ≡ packed (take n H)
  left_half =
      let q : Digits 4 32 (take 32 (half_bytes X)) = take_digits 32 (omega arith) all_digits in
      packed_front n (omega arith) (part_block 0 (omega arith))
      ∙ ap packed
      (ap (take n) (half_bytes_whole_bytes 16 (take 32 (half_bytes X)) q.len q.low)
      ∙ take-take n 32 (half_bytes X) (omega arith)
      ∙ ap (take n) all
      ∙ take-append-le n H Z (omega (arith, H_digits.len)))

  pub right_half : whole_bytes (take 32 (drop n (half_bytes X))) ≡ packed (drop n H)
  unfolding packed
  right_half =
      let D : List ℕ = drop n H in
      let long : length D ≡ n = length-drop n H ∙ omega (arith, H_digits.len) in
      let rest : length D + (32 - n) ≡ 32 = omega arith in
      ap (λ (l : List ℕ). whole_bytes (take 32 (drop n l))) all
      ∙ ap (λ (l : List ℕ). whole_bytes (take 32 l)) (drop-append-le n H Z (omega (arith, H_digits.len)))
      ∙ ap (λ (k : ℕ). whole_bytes (take k (D ++ Z))) (sym rest)
      ∙ ap whole_bytes (take-append-add D Z (32 - n) ∙ ap (λ (l : List ℕ). D ++ l) (zeros_take (32 - n) (32 - n)))
      ∙ ap (λ (k : ℕ). whole_bytes (D ++ replicate (32 - k) 0)) (sym long)
