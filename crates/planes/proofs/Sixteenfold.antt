-- Four bits of two words, each sixteen times: a product with 65535.
use mathlib.Core.List.{List}
use mathlib.Core.Path.{◌≡◌, refl, ap, ap₂, fun_ext, ◌∙◌}
use Prim.Native.Nat.{ℕ, zero, suc, ◌+◌, ◌-◌, ◌*◌, ◌/◌, ◌%◌, ◌^◌, ◌≤◌, ◌<◌}
use native.Mathlib.Nat.{mod-lt, lt_of_le_of_lt}
use native.Mathlib.Omega.{arith}
use lib.Bits.{bit_xor, bit_and, xor_lt, xor_zero_l, xor_zero_r, and_zero_r, and_le_r}
use lib.Dec.{ltb, eqb, lit<, lit≤}
use lib.ListN.{get_or}
use Rattle.std.specs.Prelude.{if◌then◌else◌}
use Rattle.paper.specs.Fips197.{bit}
use Rattle.laws.proofs.WordBits.{word_of, known, bit_lt, bit_xor_lem, bit_and_lem, and_one, bit_down, bit_up, bit_word, by_bits, either_lt}
use Rattle.levels.specs.Levels.{bits_of, words_of}
use Rattle.planes.specs.Planes.{joined_bit, spread_bit, copied_bit, copied}

-- ---- one word

-- four bits sixteen places apart, and each of them sixteen times
abbrev apart : ℕ → ℕ → ℕ → ℕ → ℕ → ℕ
apart a b c d k =
    if eqb (k % 16) 0 then (if ltb k 32 then (if ltb k 16 then a else b) else if ltb k 48 then c else d) else 0

abbrev filled : ℕ → ℕ → ℕ → ℕ → ℕ → ℕ
filled a b c d k = if ltb k 32 then (if ltb k 16 then a else b) else if ltb k 48 then c else d

data Digit : ℕ → Type 0 where
  d0 : Digit 0
  d1 : Digit 1

digit : (a : ℕ) → a < 2 → Digit a
digit zero h = d0
digit (suc zero) h = d1
digit (suc (suc a)) h = absurd (omega arith)

by_digits : (a b c d : ℕ) → Digit a → Digit b → Digit c → Digit d
    → (word_of 64 (apart a b c d) ≤ 281479271743489) × (word_of 64 (apart a b c d) * 65535 ≡ word_of 64 (filled a b c d))
unfolding word_of
by_digits _ _ _ _ d0 d0 d0 d0 = (lit≤ tt, refl)
by_digits _ _ _ _ d0 d0 d0 d1 = (lit≤ tt, refl)
by_digits _ _ _ _ d0 d0 d1 d0 = (lit≤ tt, refl)
by_digits _ _ _ _ d0 d0 d1 d1 = (lit≤ tt, refl)
by_digits _ _ _ _ d0 d1 d0 d0 = (lit≤ tt, refl)
by_digits _ _ _ _ d0 d1 d0 d1 = (lit≤ tt, refl)
by_digits _ _ _ _ d0 d1 d1 d0 = (lit≤ tt, refl)
by_digits _ _ _ _ d0 d1 d1 d1 = (lit≤ tt, refl)
by_digits _ _ _ _ d1 d0 d0 d0 = (lit≤ tt, refl)
by_digits _ _ _ _ d1 d0 d0 d1 = (lit≤ tt, refl)
by_digits _ _ _ _ d1 d0 d1 d0 = (lit≤ tt, refl)
by_digits _ _ _ _ d1 d0 d1 d1 = (lit≤ tt, refl)
by_digits _ _ _ _ d1 d1 d0 d0 = (lit≤ tt, refl)
by_digits _ _ _ _ d1 d1 d0 d1 = (lit≤ tt, refl)
by_digits _ _ _ _ d1 d1 d1 d0 = (lit≤ tt, refl)
by_digits _ _ _ _ d1 d1 d1 d1 = (lit≤ tt, refl)

-- a bit, where the mask's bit m is 1
masked : (x m : ℕ) → x < 2 → m < 2 → bit_and x m ≡ (if eqb m 0 then 0 else x)
masked x zero hx hm = and_zero_r x
masked x (suc zero) hx hm = and_one x hx
masked x (suc (suc m)) hx hm = absurd (omega arith)

module _ (x y n : ℕ) where
  abbrev ones : ℕ
  ones = 0x0000000100000001

  abbrev low : ℕ
  low = bit_and (x / 2 ^ n) ones

  abbrev high : ℕ
  high = bit_and (y / 2 ^ n) ones

  abbrev pub four : ℕ
  four = bit_xor low (high * 2 ^ 16 % 2 ^ 64)

  abbrev taken : (ℕ → ℕ) → ℕ → ℕ
  taken f k = if eqb (bit ones k) 0 then 0 else f (n + k)

  bit_taken : (z k : ℕ) → bit (bit_and (z / 2 ^ n) ones) k ≡ taken (bit z) k
  bit_taken z k =
      bit_and_lem (z / 2 ^ n) ones k
      ∙ ap (λ (v : ℕ). bit_and v (bit ones k)) (bit_down z n k)
      ∙ masked (bit z (n + k)) (bit ones k) (bit_lt z (n + k)) (bit_lt ones k)

  abbrev four_bit : ℕ → ℕ
  four_bit k = bit_xor (taken (bit x) k) (if ltb k 16 then 0 else taken (bit y) (k - 16))

  is_four : four ≡ word_of 64 four_bit
  is_four =
      by_bits 64 four four_bit
      (xor_lt 64 low (high * 2 ^ 16 % 2 ^ 64) (lt_of_le_of_lt (and_le_r (x / 2 ^ n) ones) (lit< tt)) (mod-lt (high * 2 ^ 16) (lit< tt)))
      (λ k h.
      bit_xor_lem low (high * 2 ^ 16 % 2 ^ 64) k
      ∙ ap₂ bit_xor (bit_taken x k) (bit_up 64 high 16 k h ∙ ap (λ (v : ℕ). if ltb k 16 then 0 else v) (bit_taken y (k - 16))))

  abbrev X : ℕ → ℕ
  X k = bit x (n + k)

  abbrev Y : ℕ → ℕ
  Y k = bit y (n + k)

  apart_four : word_of 64 four_bit ≡ word_of 64 (apart (X 0) (Y 0) (X 32) (Y 32))
  unfolding word_of
  apart_four =
      λ i. word_of 64 (apart (xor_zero_r (X 0) i) (xor_zero_l (Y 0) i) (xor_zero_r (X 32) i) (xor_zero_l (Y 32) i))

  computed : (word_of 64 (apart (X 0) (Y 0) (X 32) (Y 32)) ≤ 281479271743489)
      × (word_of 64 (apart (X 0) (Y 0) (X 32) (Y 32)) * 65535 ≡ word_of 64 (filled (X 0) (Y 0) (X 32) (Y 32)))
  computed =
      by_digits (X 0) (Y 0) (X 32) (Y 32) (digit (X 0) (bit_lt x (n + 0))) (digit (Y 0) (bit_lt y (n + 0)))
      (digit (X 32) (bit_lt x (n + 32))) (digit (Y 32) (bit_lt y (n + 32)))

  pub four_fits : four ≤ 281479271743489
  four_fits = omega (arith, is_four ∙ apart_four, computed.0)

  pub spread_word : four * 65535 ≡ word_of 64 (spread_bit (bit x) (bit y) n)
  unfolding word_of
  spread_word = ap (λ (v : ℕ). v * 65535) (is_four ∙ apart_four) ∙ computed.1

-- ---- the words

-- the bits of a block's columns, taken from the two words that have them
from_columns : (f : ℕ → ℕ → ℕ)
    → words_of (λ i. spread_bit (known 64 (joined_bit (f 0) (f 2))) (known 64 (joined_bit (f 1) (f 3))) (8 * (i % 4) + i / 4))
    ≡ words_of (copied_bit f)
unfolding word_of
from_columns f = refl

bits_joined : (v a b : ℕ) → v ≡ word_of 64 (joined_bit (bit a) (bit b)) → bit v ≡ known 64 (joined_bit (bit a) (bit b))
bits_joined v a b e =
    ap bit e ∙ fun_ext (bit_word 64 (joined_bit (bit a) (bit b)) (λ k. either_lt (ltb k 32) (bit_lt a k) (bit_lt b (k - 32))))

pub copied_words : (s : List ℕ) (x y : ℕ) → x ≡ word_of 64 (joined_bit (bit (get_or s 0 0)) (bit (get_or s 2 0)))
    → y ≡ word_of 64 (joined_bit (bit (get_or s 1 0)) (bit (get_or s 3 0)))
    → words_of (λ i. spread_bit (bit x) (bit y) (8 * (i % 4) + i / 4)) ≡ copied s
unfolding copied
copied_words s x y is_x is_y =
    (λ t.
    words_of (λ i. spread_bit (bits_joined x (get_or s 0 0) (get_or s 2 0) is_x t) (bits_joined y (get_or s 1 0) (get_or s 3 0) is_y t) (8 * (i % 4) + i / 4)))
    ∙ from_columns (bits_of s)
