-- Bits on the move: half-bytes joined, and four words turned over in each half-byte.
-- What a move does to bit k is shown for any k; what two of them do one after the other is then computed at each of the 32 bits.
use mathlib.Core.List.{List, [], ◌∷◌}
use mathlib.Core.Path.{◌≡◌, ap, fun_ext, ◌∙◌}
use Prim.Native.Nat.{ℕ, ◌-◌, ◌*◌, ◌%◌, ◌<◌}
use native.Mathlib.Nat.{lt_of_le_of_lt}
use lib.Bits.{bit_xor, bit_and, xor_lt, and_le_r}
use lib.Dec.{ltb, eqb, lit<}
use lib.ListN.{get_or}
use Rattle.std.specs.Prelude.{if◌then◌else◌}
use Rattle.paper.specs.Fips197.{bit}
use Rattle.laws.proofs.WordBits.{word_of, known, bit_lt, bit_xor_lem, bit_and_lem, bit_up, bit_word, by_bits}
use Rattle.laws.proofs.Exchange.{lower, upper, picked, lower_lt, upper_lt}
use Rattle.sub_bytes.specs.Planes.{crossed, joined_bit}

-- ---- half-bytes joined

module _ (a b : ℕ) where
  abbrev raised : ℕ
  raised = b * 16 % 4294967296

  abbrev high : ℕ
  high = bit_and (bit_xor raised a) 0xf0f0f0f0

  join_bit : (k : ℕ) → k < 32
      → bit (bit_xor a high) k ≡ (if eqb (bit 0xf0f0f0f0 k) 0 then bit a k else if ltb k 4 then 0 else bit b (k - 4))
  join_bit k h =
      bit_xor_lem a high k
      ∙ ap (bit_xor (bit a k))
      (bit_and_lem (bit_xor raised a) 0xf0f0f0f0 k ∙ ap (λ (v : ℕ). bit_and v (bit 0xf0f0f0f0 k)) (bit_xor_lem raised a k))
      ∙ picked (bit a k) (bit raised k) (bit 0xf0f0f0f0 k) (bit_lt a k) (bit_lt raised k) (bit_lt 0xf0f0f0f0 k)
      ∙ ap (λ (v : ℕ). if eqb (bit 0xf0f0f0f0 k) 0 then bit a k else v) (bit_up 32 b 4 k h)

  pub joined_word : a < 4294967296 → bit_xor a high ≡ word_of 32 (joined_bit (bit a) (bit b))
  unfolding word_of
  joined_word ha =
      by_bits 32 (bit_xor a high) (λ k. if eqb (bit 0xf0f0f0f0 k) 0 then bit a k else if ltb k 4 then 0 else bit b (k - 4))
      (xor_lt 32 a high ha (lt_of_le_of_lt (and_le_r (bit_xor raised a) 0xf0f0f0f0) (lit< tt))) join_bit

-- ---- one move after another

pub bits_known : (w : ℕ) (f : ℕ → ℕ) → ((k : ℕ) → f k < 2) → w ≡ word_of 32 f → bit w ≡ known 32 f
bits_known w f h e = ap bit e ∙ fun_ext (bit_word 32 f h)

-- the two levels of exchanges turn four words over
pub turned_over : (s : List ℕ) (pa pb qa qb ua ub va vb : ℕ)
    → pa ≡ word_of 32 (lower 1 0x55555555 (bit (get_or s 1 0)) (bit (get_or s 0 0)))
    → pb ≡ word_of 32 (upper 1 0x55555555 (bit (get_or s 1 0)) (bit (get_or s 0 0)))
    → qa ≡ word_of 32 (lower 1 0x55555555 (bit (get_or s 3 0)) (bit (get_or s 2 0)))
    → qb ≡ word_of 32 (upper 1 0x55555555 (bit (get_or s 3 0)) (bit (get_or s 2 0)))
    → ua ≡ word_of 32 (lower 2 0x33333333 (bit qb) (bit pb))
    → ub ≡ word_of 32 (upper 2 0x33333333 (bit qb) (bit pb))
    → va ≡ word_of 32 (lower 2 0x33333333 (bit qa) (bit pa))
    → vb ≡ word_of 32 (upper 2 0x33333333 (bit qa) (bit pa))
    → (ub ∷ vb ∷ ua ∷ va ∷ []) ≡ crossed s
unfolding crossed word_of
turned_over s pa pb qa qb ua ub va vb p-a p-b q-a q-b u-a u-b v-a v-b =
    let s0 = get_or s 0 0 in
    let s1 = get_or s 1 0 in
    let s2 = get_or s 2 0 in
    let s3 = get_or s 3 0 in
    let kpa = bits_known pa (lower 1 0x55555555 (bit s1) (bit s0)) (lower_lt 1 0x55555555 s1 s0) p-a in
    let kpb = bits_known pb (upper 1 0x55555555 (bit s1) (bit s0)) (upper_lt 1 0x55555555 s1 s0) p-b in
    let kqa = bits_known qa (lower 1 0x55555555 (bit s3) (bit s2)) (lower_lt 1 0x55555555 s3 s2) q-a in
    let kqb = bits_known qb (upper 1 0x55555555 (bit s3) (bit s2)) (upper_lt 1 0x55555555 s3 s2) q-b in
    (λ i. u-b i ∷ v-b i ∷ u-a i ∷ v-a i ∷ [])
    ∙ (λ i.
    word_of 32 (upper 2 0x33333333 (kqb i) (kpb i))
    ∷ word_of 32 (upper 2 0x33333333 (kqa i) (kpa i))
    ∷ word_of 32 (lower 2 0x33333333 (kqb i) (kpb i))
    ∷ word_of 32 (lower 2 0x33333333 (kqa i) (kpa i))
    ∷ [])
