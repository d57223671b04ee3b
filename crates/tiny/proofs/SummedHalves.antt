-- What a turn does to the half-bytes of a half it does to its block: sums, the mark, and the half-bytes that can be had again.
use mathlib.Core.List.{List, [], ◌∷◌, ◌++◌, append_assoc}
use mathlib.Core.Path.{◌≡◌, refl, ap, ap₂, sym, ◌∙◌}
use Prim.Native.Nat.{ℕ, suc, ◌+◌, ◌-◌, ◌*◌, ◌/◌, ◌%◌, ◌^◌, ◌≤◌, ◌<◌}
use native.Mathlib.Omega.{arith}
use lib.Bits.{bit_xor, xor_block, xor_mod}
use lib.ListN.{length, take, replicate, get_or, set, length-append, length-set}
use lib.Seq.{take_at}
use Rattle.paper.specs.Strings.{Digits, Block, zip, ◌⊕◌}
use Rattle.laws.proofs.Digits.{append_digits, zero_digits}
use Rattle.laws.proofs.Padding.{mark_short}
use Rattle.laws.proofs.Strings.{⊕_length, ⊕_zeros}
use Rattle.laws.proofs.Tables.{tab_entries}
use Rattle.columns.specs.Columns.{column_at, columns_of}
use Rattle.halves.specs.HalfBytes.{half_bytes, whole_bytes}
use Rattle.halves.specs.Blocks.{packed}
use Rattle.halves.proofs.ByteHalves.{half_bytes_whole_bytes, whole_bytes_zip}
use Rattle.halves.proofs.PackedHalves.{filled, filled_digits, packed_block, zeros_long}
use Rattle.halves.proofs.ColumnBits.{in_table}
use Rattle.tiny.specs.OnBytes.{mark}
use Rattle.tiny.proofs.PaddedHalves.{half10*}

⊕_append : (X Y U W : List ℕ) → length X ≡ length U → (X ++ Y) ⊕ (U ++ W) ≡ (X ⊕ U) ++ (Y ⊕ W)
unfolding ◌⊕◌ zip
⊕_append [] Y [] W e = refl
⊕_append [] Y (v ∷ U) W e = absurd (omega arith)
⊕_append (x ∷ X) Y [] W e = absurd (omega arith)
⊕_append (x ∷ X) Y (v ∷ U) W e = ap (λ (l : List ℕ). bit_xor x v ∷ l) (⊕_append X Y U W (omega arith))

whole_bytes_⊕ : (X Y : List ℕ) → whole_bytes (X ⊕ Y) ≡ whole_bytes X ⊕ whole_bytes Y
unfolding ◌⊕◌
whole_bytes_⊕ X Y = whole_bytes_zip bit_xor xor_mod xor_block X Y

zeros_zeros : (n : ℕ) → replicate n 0 ⊕ replicate n 0 ≡ replicate n 0
zeros_zeros n = ⊕_zeros n (replicate n 0) (omega (arith, zeros_long n))

module _ (n : ℕ) (few : n ≤ 32) {X : List ℕ} (p : Digits 4 n X) where
  -- the half-bytes can be had again
  pub first_packed : take n (half_bytes (packed X)) ≡ X
  unfolding packed
  first_packed =
      ap (take n) (half_bytes_whole_bytes 16 (filled X) (filled_digits n few p).len (filled_digits n few p).low)
      ∙ take_at X (replicate (32 - length X) 0) n p.len

  -- the sum of two halves
  pub packed_⊕ : {Y : List ℕ} → Digits 4 n Y → packed (X ⊕ Y) ≡ packed X ⊕ packed Y
  unfolding packed
  packed_⊕ {Y} q =
      let k : ℕ = 32 - n in
      let same : length X ≡ length Y = omega (arith, p.len, q.len) in
      let long : length (X ⊕ Y) ≡ n = ⊕_length X Y (omega arith) ∙ p.len in
      ap (λ (m : ℕ). whole_bytes ((X ⊕ Y) ++ replicate (32 - m) 0)) long
      ∙ ap (λ (l : List ℕ). whole_bytes ((X ⊕ Y) ++ l)) (sym (zeros_zeros k))
      ∙ ap whole_bytes (sym (⊕_append X (replicate k 0) Y (replicate k 0) same))
      ∙ whole_bytes_⊕ (X ++ replicate k 0) (Y ++ replicate k 0)
      ∙ ap₂ (λ (a b : ℕ). whole_bytes (X ++ replicate (32 - a) 0) ⊕ whole_bytes (Y ++ replicate (32 - b) 0)) (sym p.len) (sym q.len)

-- 216: R10* is R and the mark
pub packed_10* : (n : ℕ) → n < 32 → {X : List ℕ} → Digits 4 n X → whole_bytes (half10* X) ≡ packed X ⊕ mark n
unfolding packed mark half10* ◌⊕◌ zip
packed_10* n h {X} p =
    let k : ℕ = 32 - suc n in
    let more : suc k ≡ 32 - n = omega arith in
    let Z : List ℕ = replicate n 0 in
    let long : length (Z ++ 8 ∷ []) ≡ suc n = length-append Z (8 ∷ []) ∙ omega (arith, zeros_long n) in
    let same : length X ≡ length Z = omega (arith, p.len, zeros_long n) in
    ap whole_bytes
    (mark_short 32 8 X (omega (arith, p.len))
    ∙ ap (λ (m : ℕ). X ++ 8 ∷ replicate (32 - suc m) 0) p.len
    ∙ ap₂ (λ (l m : List ℕ). l ++ 8 ∷ m) (sym (⊕_zeros n X (omega (arith, p.len)))) (sym (zeros_zeros k))
    ∙ sym (⊕_append X (replicate (suc k) 0) Z (8 ∷ replicate k 0) same)
    ∙ ap₂ (λ (l m : List ℕ). (X ++ l) ⊕ m) (ap (λ (m : ℕ). replicate m 0) more ∙ ap (λ (m : ℕ). replicate (32 - m) 0) (sym p.len))
    (sym (append_assoc Z (8 ∷ []) (replicate k 0)) ∙ ap (λ (m : ℕ). (Z ++ 8 ∷ []) ++ replicate (32 - m) 0) (sym long)))
    ∙ whole_bytes_⊕ (filled X) (filled (Z ++ 8 ∷ []))

-- ---- the mark

pub mark_block : (n : ℕ) → n ≤ 31 → Block (mark n)
unfolding mark
mark_block n few =
    packed_block (n + 1) (omega arith)
    (append_digits (zero_digits 4 n) (record { len = refl; low = (omega arith, tt) }))

-- the one bit of the column of a mark
abbrev marked : ℕ → List ℕ
marked n = set (replicate 4 0) (n / 8) (2147483648 / 2 ^ (4 * (n % 8)))

pub mark_columns : (n : ℕ) → n < 32 → marked n ≡ columns_of (mark n)
unfolding mark packed whole_bytes
mark_columns n h =
    tab_entries 4 (marked n) (length-set (replicate 4 0) (n / 8) _)
    ∙ (λ i.
    in_table (λ m. get_or (marked m) 0 0) (λ m. column_at (mark m) 0) refl n h i
    ∷ in_table (λ m. get_or (marked m) 1 0) (λ m. column_at (mark m) 4) refl n h i
    ∷ in_table (λ m. get_or (marked m) 2 0) (λ m. column_at (mark m) 8) refl n h i
    ∷ in_table (λ m. get_or (marked m) 3 0) (λ m. column_at (mark m) 12) refl n h i
    ∷ [])
