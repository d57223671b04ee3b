-- Lanes of rows: what each step on the words of a row does to the byte in a lane.
use mathlib.Core.Bool.{Bool, true, false}
use mathlib.Core.List.{List, [], ◌∷◌}
use mathlib.Core.Path.{◌≡◌, refl, ap, ap₂, sym, ◌∙◌}
use Prim.Native.Nat.{ℕ, zero, suc, ◌+◌, ◌-◌, ◌*◌, ◌/◌, ◌%◌, ◌^◌, ◌≤◌, ◌<◌}
use native.Mathlib.Omega.{arith}
use borrow.Author.Tests.{ltb-true, ltb-false}
use lib.Bits.{bit_xor, bit_or, xor_block, or_shr, or_mod, or_zero_r}
use lib.Dec.{ltb}
use lib.ListN.{get_or}
use Rattle.std.specs.Prelude.{if◌then◌else◌}
use Rattle.paper.specs.Strings.{tab_from, tab}
use Rattle.paper.specs.Fips197.{bit, xtime}
use Rattle.laws.proofs.Round.{xtime_xor}
use Rattle.laws.proofs.Tables.{get_or_tab}
use Rattle.laws.proofs.Xor.{xor_assoc}
use Rattle.circuit.specs.Planes.{lane}
use Rattle.laws.proofs.WordBits.{number, bit_lt, bit_zero, bit_xor_lem, bit_down, bit_up, tab_bits, tab_same}
use Rattle.circuit.proofs.Lanes.{bits_of, byte_of}
use Rattle.rows.specs.Rows.{turned_row, xor_row, doubled_row, mixed_row}

-- the bits of lane k
abbrev bits_in : List ℕ → ℕ → List ℕ
bits_in a k = tab 8 (λ p. bit (get_or a p 0) k)

lane_byte : (a : List ℕ) (k : ℕ) → lane a k < 256
unfolding lane
lane_byte a k = byte_of (bits_in a k) refl (tab_bits 0 8 (λ p. bit (get_or a p 0) k) (λ p. bit_lt (get_or a p 0) k))

-- ---- sums

pub number_xor : (i n : ℕ) (f g : ℕ → ℕ) → ((p : ℕ) → f p < 2) → ((p : ℕ) → g p < 2)
    → number (tab_from i n (λ p. bit_xor (f p) (g p))) ≡ bit_xor (number (tab_from i n f)) (number (tab_from i n g))
number_xor i zero f g hf hg = refl
number_xor i (suc n) f g hf hg =
    let u = number (tab_from (suc i) n f) in
    let v = number (tab_from (suc i) n g) in
    ap (λ (t : ℕ). bit_xor (f i) (g i) + 2 * t) (number_xor (suc i) n f g hf hg)
    ∙ swapped (bit_xor (f i) (g i)) (bit_xor u v)
    ∙ sym (xor_block 1 u v (f i) (g i) (hf i) (hg i))
    ∙ sym (ap₂ bit_xor (swapped (f i) u) (swapped (g i) v))
  where
    swapped : (x t : ℕ) → x + 2 * t ≡ t * 2 + x
    swapped x t = omega arith

xor_lane : (a b : List ℕ) (k : ℕ) → lane (xor_row a b) k ≡ bit_xor (lane a k) (lane b k)
unfolding lane
xor_lane a b k =
    ap number
    (tab_same 0 8 (λ p. bit (bit_xor (get_or a p 0) (get_or b p 0)) k) (λ p. bit_xor (bit (get_or a p 0) k) (bit (get_or b p 0) k))
    (λ p h. bit_xor_lem (get_or a p 0) (get_or b p 0) k))
    ∙ number_xor 0 8 (λ p. bit (get_or a p 0) k) (λ p. bit (get_or b p 0) k) (λ p. bit_lt (get_or a p 0) k) (λ p. bit_lt (get_or b p 0) k)

-- ---- doubles

-- the planes of one byte, at each of 256
doubles : tab 256 (λ n. number (doubled_row (tab 8 (bit n)))) ≡ tab 256 xtime
doubles = refl

double_byte : (n : ℕ) → n < 256 → number (doubled_row (tab 8 (bit n))) ≡ xtime n
double_byte n h =
    sym (get_or_tab 256 n (λ n. number (doubled_row (tab 8 (bit n)))) h)
    ∙ ap (λ (l : List ℕ). get_or l n 0) doubles
    ∙ get_or_tab 256 n xtime h

doubled_bits_lem : (a : List ℕ) (k : ℕ) → bits_in (doubled_row a) k ≡ doubled_row (bits_in a k)
doubled_bits_lem a k =
    let h = get_or a 7 0 in
    λ i.
    bit h k
    ∷ bit_xor_lem (get_or a 0 0) h k i
    ∷ bit (get_or a 1 0) k
    ∷ bit_xor_lem (get_or a 2 0) h k i
    ∷ bit_xor_lem (get_or a 3 0) h k i
    ∷ bit (get_or a 4 0) k
    ∷ bit (get_or a 5 0) k
    ∷ bit (get_or a 6 0) k
    ∷ []

doubled_lane : (a : List ℕ) (k : ℕ) → lane (doubled_row a) k ≡ xtime (lane a k)
unfolding lane
doubled_lane a k =
    let l = bits_in a k in
    let low = tab_bits 0 8 (λ p. bit (get_or a p 0) k) (λ p. bit_lt (get_or a p 0) k) in
    ap number (doubled_bits_lem a k)
    ∙ ap (λ (m : List ℕ). number (doubled_row m)) (bits_of l refl low)
    ∙ double_byte (number l) (byte_of l refl low)

-- ---- MixColumns of a row

-- a byte a, with b, c and d below it in its column
abbrev pub mixed_byte : ℕ → ℕ → ℕ → ℕ → ℕ
mixed_byte a b c d = bit_xor (xtime a) (bit_xor (bit_xor (xtime b) b) (bit_xor c d))

-- 2 of a pair is 2 of each of the two
apart : (a b c d : ℕ) → a < 256 → b < 256 → bit_xor (bit_xor (xtime (bit_xor a b)) b) (bit_xor c d) ≡ mixed_byte a b c d
apart a b c d h g = ap (λ (n : ℕ). bit_xor (bit_xor n b) (bit_xor c d)) (xtime_xor a b h g) ∙ simp xor_assoc

pub mixed_lane : (a b c d : List ℕ) (k : ℕ) → lane (mixed_row a b c d) k ≡ mixed_byte (lane a k) (lane b k) (lane c k) (lane d k)
unfolding mixed_row
mixed_lane a b c d k =
    xor_lane (xor_row (doubled_row (xor_row a b)) b) (xor_row c d) k
    ∙ ap₂ bit_xor
    (xor_lane (doubled_row (xor_row a b)) b k
    ∙ ap (λ (v : ℕ). bit_xor v (lane b k)) (doubled_lane (xor_row a b) k ∙ ap xtime (xor_lane a b k)))
    (xor_lane c d k)
    ∙ apart (lane a k) (lane b k) (lane c k) (lane d k) (lane_byte a k) (lane_byte b k)

-- ---- turns

bit_or_lem : (x y k : ℕ) → bit (bit_or x y) k ≡ bit_or (bit x k) (bit y k)
bit_or_lem x y k = ap (λ (v : ℕ). v % 2) (or_shr x y k) ∙ or_mod (x / 2 ^ k) (y / 2 ^ k) 1

-- a word of 64 bits has no bit above them
bit_above : (x k : ℕ) → x < 2 ^ 64 → 64 ≤ k → bit x k ≡ 0
bit_above x k h above =
    let parts : k ≡ 64 + (k - 64) = omega arith in
    let none : x / 18446744073709551616 ≡ 0 = omega arith in
    ap (bit x) parts ∙ sym (bit_down x 64 (k - 64)) ∙ ap (λ (v : ℕ). bit v (k - 64)) none ∙ bit_zero (k - 64)

module _ (x n k : ℕ) (fits : x < 2 ^ 64) (some : 0 < n) (part : n < 64) (h : k < 64) where
  turned_bit_lem : bit (bit_or (x / 2 ^ n) (x * 2 ^ (64 - n) % 2 ^ 64)) k ≡ bit x ((k + n) % 64)
  turned_bit_lem =
      bit_or_lem (x / 2 ^ n) (x * 2 ^ (64 - n) % 2 ^ 64) k
      ∙ ap₂ bit_or (bit_down x n k) (bit_up 64 x (64 - n) k h)
      ∙ go (ltb k (64 - n)) refl
    where
      go : (t : Bool) → ltb k (64 - n) ≡ t
          → bit_or (bit x (n + k)) (if t then 0 else bit x (k - (64 - n))) ≡ bit x ((k + n) % 64)
      go true e =
          let below : k < 64 - n = ltb-true k (64 - n) e in
          let same : n + k ≡ (k + n) % 64 = omega arith in
          or_zero_r (bit x (n + k)) ∙ ap (bit x) same
      go false e =
          let above : 64 - n ≤ k = ltb-false k (64 - n) e in
          let same : k - (64 - n) ≡ (k + n) % 64 = omega arith in
          ap (λ (v : ℕ). bit_or v (bit x (k - (64 - n)))) (bit_above x (n + k) fits (omega arith)) ∙ ap (bit x) same

-- a row turned: the lane is n further on
pub turned_lane : (f : ℕ → ℕ) (n k : ℕ) → ((p : ℕ) → f p < 2 ^ 64) → 0 < n → n < 64 → k < 64
    → lane (turned_row (tab 8 f) n) k ≡ lane (tab 8 f) ((k + n) % 64)
unfolding lane
turned_lane f n k fits some part h =
    ap number
    (tab_same 0 8 (λ p. bit (bit_or (f p / 2 ^ n) (f p * 2 ^ (64 - n) % 2 ^ 64)) k) (λ p. bit (f p) ((k + n) % 64))
    (λ p b. turned_bit_lem (f p) n k (fits p) some part h))
