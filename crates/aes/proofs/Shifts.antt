-- ShiftRows on crossed words: half-bytes turned by picking bits under masks.
use mathlib.Core.Bool.{Bool, true, false}
use mathlib.Core.List.{List, [], ◌∷◌}
use mathlib.Core.Path.{◌≡◌, refl, ap, sym, fun_ext, ◌∙◌}
use Prim.Native.Nat.{ℕ, ◌+◌, ◌-◌, ◌*◌, ◌/◌, ◌%◌, ◌^◌, ◌<◌}
use native.Mathlib.Nat.{mod-lt, lt_of_le_of_lt}
use borrow.Author.Tests.{ltb-true, ltb-false}
use lib.Bits.{bit_xor, bit_and, xor_lt, and_le_r}
use lib.Dec.{ltb, eqb}
use lib.ListN.{get_or}
use lib.Pow.{pow_pos}
use Rattle.std.specs.Prelude.{if◌then◌else◌}
use Rattle.paper.specs.Fips197.{bit, ShiftRows}
use Rattle.laws.proofs.WordBits.{word_of, known, either_lt, bit_lt, bit_past, bit_xor_lem, bit_and_lem, bit_down, bit_up, by_bits}
use Rattle.laws.proofs.Exchange.{picked}
use Rattle.sub_bytes.specs.Planes.{crossed_bytes}
use Rattle.sub_bytes.proofs.Moves.{bits_known}
use Rattle.sub_bytes.proofs.States.{by_words, words_bits}
use Rattle.aes.specs.Steps.{picked_bit, shifted_bit, shifted_word}

-- ---- bits that are picked

module _ (a b m : ℕ) where
  picked_bit_lem : (k : ℕ) → bit (bit_xor a (bit_and (bit_xor b a) m)) k ≡ picked_bit m (bit a) (bit b) k
  picked_bit_lem k =
      bit_xor_lem a (bit_and (bit_xor b a) m) k
      ∙ ap (bit_xor (bit a k)) (bit_and_lem (bit_xor b a) m k ∙ ap (λ (v : ℕ). bit_and v (bit m k)) (bit_xor_lem b a k))
      ∙ picked (bit a k) (bit b k) (bit m k) (bit_lt a k) (bit_lt b k) (bit_lt m k)

  pub picked_word : a < 2 ^ 32 → m < 2 ^ 32 → bit_xor a (bit_and (bit_xor b a) m) ≡ word_of 32 (picked_bit m (bit a) (bit b))
  picked_word ha hm =
      by_bits 32 (bit_xor a (bit_and (bit_xor b a) m)) (picked_bit m (bit a) (bit b))
      (xor_lt 32 a (bit_and (bit_xor b a) m) ha (lt_of_le_of_lt (and_le_r (bit_xor b a) m) hm)) (λ k h. picked_bit_lem k)

  -- the bits of a word that is picked of two
  picked_known : (r : ℕ) → r ≡ word_of 32 (picked_bit m (bit a) (bit b)) → bit r ≡ known 32 (picked_bit m (bit a) (bit b))
  picked_known r e = bits_known r (picked_bit m (bit a) (bit b)) (λ k. either_lt (eqb (bit m k) 0) (bit_lt a k) (bit_lt b k)) e

-- ---- words moved down and up

down : (x n : ℕ) → bit (x / 2 ^ n) ≡ (λ k. bit x (n + k))
down x n = fun_ext (bit_down x n)

abbrev raised : ℕ → (ℕ → ℕ) → ℕ → ℕ
raised n f k = if ltb k n then 0 else f (k - n)

up : (x n : ℕ) → bit (x * 2 ^ n % 2 ^ 32) ≡ known 32 (raised n (bit x))
up x n = fun_ext (λ k. go k (ltb k 32) refl)
  where
    go : (k : ℕ) (t : Bool) → ltb k 32 ≡ t → bit (x * 2 ^ n % 2 ^ 32) k ≡ (if t then raised n (bit x) k else 0)
    go k true e = bit_up 32 x n k (ltb-true k 32 e)
    go k false e = bit_past 32 (x * 2 ^ n % 2 ^ 32) k (mod-lt (x * 2 ^ n) (pow_pos 32)) (ltb-false k 32 e)

-- ---- a half-byte of row r turned by r places

abbrev odd : (ℕ → ℕ) → ℕ → ℕ
odd f = known 32 (picked_bit 0x00770077 f (λ k. f (1 + k)))

abbrev by_one : (ℕ → ℕ) → ℕ → ℕ
by_one f = known 32 (picked_bit 0x00880088 (odd f) (known 32 (raised 3 f)))

abbrev lows : (ℕ → ℕ) → ℕ → ℕ
lows f = known 32 (picked_bit 0x00003333 (by_one f) (λ k. by_one f (2 + k)))

pub turned_rows : (x a b c d : ℕ)
    → a ≡ word_of 32 (picked_bit 0x00770077 (bit x) (bit (x / 2)))
    → b ≡ word_of 32 (picked_bit 0x00880088 (bit a) (bit (x * 8 % 4294967296)))
    → c ≡ word_of 32 (picked_bit 0x00003333 (bit b) (bit (b / 4)))
    → d ≡ word_of 32 (picked_bit 0x0000cccc (bit c) (bit (b * 4 % 4294967296)))
    → d ≡ shifted_word x
unfolding shifted_word word_of
turned_rows x a b c d ea eb ec ed =
    let f = bit x in
    let ka : bit a ≡ odd f = picked_known x (x / 2) 0x00770077 a ea ∙ (λ i. known 32 (picked_bit 0x00770077 f (down x 1 i))) in
    let kb : bit b ≡ by_one f = picked_known a (x * 8 % 4294967296) 0x00880088 b eb ∙ (λ i. known 32 (picked_bit 0x00880088 (ka i) (up x 3 i))) in
    let kb2 : bit (b / 4) ≡ (λ k. by_one f (2 + k)) = down b 2 ∙ (λ i. λ k. kb i (2 + k)) in
    let kc : bit c ≡ lows f = picked_known b (b / 4) 0x00003333 c ec ∙ (λ i. known 32 (picked_bit 0x00003333 (kb i) (kb2 i))) in
    let kb4 : bit (b * 4 % 4294967296) ≡ known 32 (raised 2 (by_one f)) = up b 2 ∙ (λ i. known 32 (raised 2 (kb i))) in
    ed ∙ (λ i. word_of 32 (picked_bit 0x0000cccc (kc i) (kb4 i)))

-- the state of words of which each is shifted
pub shifted_bytes : (t : List ℕ) (a b c d : ℕ) → a ≡ shifted_word (get_or t 0 0) → b ≡ shifted_word (get_or t 1 0) → c ≡ shifted_word (get_or t 2 0)
    → d ≡ shifted_word (get_or t 3 0) → crossed_bytes (a ∷ b ∷ c ∷ d ∷ []) ≡ ShiftRows (crossed_bytes t)
unfolding shifted_word ShiftRows
shifted_bytes t a b c d ea eb ec ed =
    let ka = bits a (get_or t 0 0) ea in
    let kb = bits b (get_or t 1 0) eb in
    let kc = bits c (get_or t 2 0) ec in
    let kd = bits d (get_or t 3 0) ed in
    words_bits (a ∷ b ∷ c ∷ d ∷ []) ∙ (λ i. by_words (ka i) (kb i) (kc i) (kd i)) ∙ ap ShiftRows (sym (words_bits t))
  where
    bits : (r x : ℕ) → r ≡ word_of 32 (shifted_bit (bit x)) → bit r ≡ known 32 (shifted_bit (bit x))
    bits r x e = bits_known r (shifted_bit (bit x)) (λ k. bit_lt x (k / 4 * 4 + (k % 4 + (3 - k / 8)) % 4)) e
