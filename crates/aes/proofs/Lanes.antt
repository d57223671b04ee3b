-- Bytes of crossed words: what sums, the row below, doubles and MixColumns do to the byte at a place.
use mathlib.Core.Bool.{Bool, true, false}
use mathlib.Core.List.{List, [], ◌∷◌}
use mathlib.Core.Path.{◌≡◌, refl, ap, ap₂, sym, ◌∙◌}
use Prim.Native.Nat.{ℕ, zero, suc, ◌+◌, ◌-◌, ◌*◌, ◌/◌, ◌%◌, ◌^◌, ◌≤◌, ◌<◌}
use native.Mathlib.Omega.{arith}
use borrow.Author.Tests.{lt-ltb, ltb-true, ltb-false}
use lib.Bits.{bit_xor, bit_and, bit_or, xor_block, xor_shr, xor_zero_r, and_zero_r, or_shr, or_mod, or_zero_r}
use lib.Dec.{ltb}
use lib.ListN.{get_or}
use Rattle.std.specs.Prelude.{if◌then◌else◌}
use Rattle.paper.specs.Strings.{Below, Digits, tab_from, tab, zip, ◌⊕◌}
use Rattle.paper.specs.Fips197.{bit, xtime, MixColumns}
use Rattle.laws.proofs.Round.{xtime_xor, mix_columns}
use Rattle.laws.proofs.Tables.{get_or_tab}
use Rattle.laws.proofs.WordBits.{number, bit_lt, bit_past, bit_xor_lem, bit_and_lem, and_one, bit_down, bit_up, bit_number, number_bits_lem, tab_same}
use Rattle.laws.proofs.Xor.{xor_assoc}
use Rattle.columns.specs.Columns.{columns_of, block_of}
use Rattle.columns.proofs.Conversions.{columns_sum}
use Rattle.circuit.specs.Planes.{lane}
use Rattle.sub_bytes.specs.Planes.{place, plane_bytes, planes_of, crossed_bytes}
use Rattle.aes.specs.Steps.{xor_words, below_word, below_words, doubled_words}

-- the byte at a place, and its bits
abbrev pub byte_at : List ℕ → ℕ → ℕ
byte_at w k = lane (planes_of w) k

abbrev bits_at : List ℕ → ℕ → List ℕ
bits_at w k = tab 8 (λ j. bit (get_or (planes_of w) j 0) k)

bits_low : (w : List ℕ) (k : ℕ) → Below 2 (bits_at w k)
bits_low w k =
    (b 0, (b 1, (b 2, (b 3, (b 4, (b 5, (b 6, (b 7, tt))))))))
  where
    b : (j : ℕ) → bit (get_or (planes_of w) j 0) k < 2
    b j = bit_lt (get_or (planes_of w) j 0) k

bits_of : (w : List ℕ) (k : ℕ) → bits_at w k ≡ tab 8 (bit (byte_at w k))
unfolding lane
bits_of w k =
    sym (tab_same 0 8 (bit (number (bits_at w k))) (λ i. get_or (bits_at w k) i 0) (λ i b. bit_number (bits_at w k) i (bits_low w k)))

byte_at_lem : (w : List ℕ) (k : ℕ) → byte_at w k < 256
unfolding lane
byte_at_lem w k =
    let n = number (bits_at w k) in
    let low : n ≡ n / 1 % 256 = ap number (bits_of w k) ∙ number_bits_lem 0 8 n in
    omega arith

-- ---- sums

number_xor : (i n : ℕ) (f g : ℕ → ℕ) → ((p : ℕ) → f p < 2) → ((p : ℕ) → g p < 2)
    → number (tab_from i n (λ p. bit_xor (f p) (g p))) ≡ bit_xor (number (tab_from i n f)) (number (tab_from i n g))
number_xor i zero f g hf hg = refl
number_xor i (suc n) f g hf hg =
    let u = number (tab_from (suc i) n f) in
    let v = number (tab_from (suc i) n g) in
    ap (λ (t : ℕ). bit_xor (f i) (g i) + 2 * t) (number_xor (suc i) n f g hf hg)
    ∙ swapped (bit_xor (f i) (g i)) (bit_xor u v)
    ∙ sym (xor_block 1 u v (f i) (g i) (hf i) (hg i))
    ∙ sym (ap₂ bit_xor (swapped (f i) u) (swapped (g i) v))
  where
    swapped : (x t : ℕ) → x + 2 * t ≡ t * 2 + x
    swapped x t = omega arith

pub xor_at : (a b : List ℕ) (k : ℕ) → byte_at (xor_words a b) k ≡ bit_xor (byte_at a k) (byte_at b k)
unfolding lane
xor_at a b k =
    (λ i. number (low 0 i ∷ low 1 i ∷ low 2 i ∷ low 3 i ∷ high 0 i ∷ high 1 i ∷ high 2 i ∷ high 3 i ∷ []))
    ∙ number_xor 0 8 (λ j. bit (get_or (planes_of a) j 0) k) (λ j. bit (get_or (planes_of b) j 0) k)
    (λ j. bit_lt (get_or (planes_of a) j 0) k) (λ j. bit_lt (get_or (planes_of b) j 0) k)
  where
    low : (j : ℕ) → bit (bit_xor (get_or a j 0) (get_or b j 0)) k ≡ bit_xor (bit (get_or a j 0) k) (bit (get_or b j 0) k)
    low j = bit_xor_lem (get_or a j 0) (get_or b j 0) k

    high : (j : ℕ) → bit (bit_xor (get_or a j 0) (get_or b j 0) / 16) k ≡ bit_xor (bit (get_or a j 0 / 16) k) (bit (get_or b j 0 / 16) k)
    high j = ap (λ (v : ℕ). bit v k) (xor_shr (get_or a j 0) (get_or b j 0) 4) ∙ bit_xor_lem (get_or a j 0 / 16) (get_or b j 0 / 16) k

-- ---- the row below

-- the place of the row below
abbrev next : ℕ → ℕ
next k = (k + 24) % 32

module _ (x : ℕ) (fits : x < 2 ^ 32) where
  below_bit : (k : ℕ) → k < 32 → bit (below_word x) k ≡ bit x (next k)
  below_bit k h =
      ap (λ (v : ℕ). v % 2) (or_shr (x * 256 % 4294967296) (x / 16777216) k)
      ∙ or_mod (x * 256 % 4294967296 / 2 ^ k) (x / 16777216 / 2 ^ k) 1
      ∙ ap₂ bit_or (bit_up 32 x 8 k h) (bit_down x 24 k)
      ∙ go (ltb k 8) refl
    where
      go : (t : Bool) → ltb k 8 ≡ t → bit_or (if t then 0 else bit x (k - 8)) (bit x (24 + k)) ≡ bit x (next k)
      go true e =
          let small : k < 8 = ltb-true k 8 e in
          let same : 24 + k ≡ next k = omega arith in
          ap (bit x) same
      go false e =
          let large : 8 ≤ k = ltb-false k 8 e in
          let same : k - 8 ≡ next k = omega arith in
          ap (bit_or (bit x (k - 8))) (bit_past 32 x (24 + k) fits (omega arith)) ∙ or_zero_r (bit x (k - 8)) ∙ ap (bit x) same

  below_high : (k : ℕ) → k < 32 → k % 8 < 4 → bit (below_word x / 16) k ≡ bit (x / 16) (next k)
  below_high k h low =
      let same : next (4 + k) ≡ 4 + next k = omega arith in
      bit_down (below_word x) 4 k ∙ below_bit (4 + k) (omega arith) ∙ ap (bit x) same ∙ sym (bit_down x 4 (next k))

pub below_at : (a : List ℕ) → ((j : ℕ) → get_or a j 0 < 2 ^ 32) → (k : ℕ) → k < 32 → k % 8 < 4 → byte_at (below_words a) k ≡ byte_at a (next k)
unfolding lane
below_at a fits k h g =
    λ i. number (low 0 i ∷ low 1 i ∷ low 2 i ∷ low 3 i ∷ high 0 i ∷ high 1 i ∷ high 2 i ∷ high 3 i ∷ [])
  where
    low : (j : ℕ) → bit (below_word (get_or a j 0)) k ≡ bit (get_or a j 0) (next k)
    low j = below_bit (get_or a j 0) (fits j) k h

    high : (j : ℕ) → bit (below_word (get_or a j 0) / 16) k ≡ bit (get_or a j 0 / 16) (next k)
    high j = below_high (get_or a j 0) (fits j) k h g

-- ---- doubles

-- the masks of the half-bytes
low_mask : tab 32 (bit 0x0f0f0f0f) ≡ tab 32 (λ k. if ltb (k % 8) 4 then 1 else 0)
low_mask = refl

high_mask : tab 32 (bit 0xf0f0f0f0) ≡ tab 32 (λ k. if ltb (k % 8) 4 then 0 else 1)
high_mask = refl

masked : (m x y : ℕ) → tab 32 (bit m) ≡ tab 32 (λ k. if ltb (k % 8) 4 then x else y) → (k : ℕ) → k < 32
    → bit m k ≡ (if ltb (k % 8) 4 then x else y)
masked m x y e k h =
    sym (get_or_tab 32 k (bit m) h) ∙ ap (λ (l : List ℕ). get_or l k 0) e ∙ get_or_tab 32 k (λ k. if ltb (k % 8) 4 then x else y) h

-- a byte's bits, doubled
abbrev doubled_bits : List ℕ → List ℕ
doubled_bits l =
    let top = get_or l 7 0 in
    top
    ∷ bit_xor (get_or l 0 0) top
    ∷ get_or l 1 0
    ∷ bit_xor (get_or l 2 0) top
    ∷ bit_xor (get_or l 3 0) top
    ∷ get_or l 4 0
    ∷ get_or l 5 0
    ∷ get_or l 6 0
    ∷ []

doubles : tab 256 (λ n. number (doubled_bits (tab 8 (bit n)))) ≡ tab 256 xtime
doubles = refl

double_byte : (n : ℕ) → n < 256 → number (doubled_bits (tab 8 (bit n))) ≡ xtime n
double_byte n h =
    sym (get_or_tab 256 n (λ n. number (doubled_bits (tab 8 (bit n)))) h)
    ∙ ap (λ (l : List ℕ). get_or l n 0) doubles
    ∙ get_or_tab 256 n xtime h

not_below : (n : ℕ) → 4 ≤ n → ltb n 4 ≡ false
not_below n h = go (ltb n 4) refl
  where
    go : (t : Bool) → ltb n 4 ≡ t → t ≡ false
    go true e =
        let small : n < 4 = ltb-true n 4 e in
        absurd (omega arith)
    go false e = refl

module _ (p : List ℕ) (k : ℕ) (h : k < 32) (g : k % 8 < 4) where
  abbrev last : ℕ
  last = get_or p 3 0

  abbrev lost : ℕ
  lost = bit_and (last / 16) 0x0f0f0f0f

  abbrev first : ℕ
  first = bit_and (bit_xor (last * 16 % 4294967296) last) 0xf0f0f0f0

  above : 4 + k < 32
  above = omega arith

  in_low : ltb (k % 8) 4 ≡ true
  in_low = lt-ltb (k % 8) 4 g

  in_high : ltb ((4 + k) % 8) 4 ≡ false
  in_high = not_below ((4 + k) % 8) (omega arith)

  lost_low : bit lost k ≡ bit (last / 16) k
  lost_low =
      bit_and_lem (last / 16) 0x0f0f0f0f k
      ∙ ap (bit_and (bit (last / 16) k)) (masked 0x0f0f0f0f 1 0 low_mask k h ∙ ap (λ (t : Bool). if t then 1 else 0) in_low)
      ∙ and_one (bit (last / 16) k) (bit_lt (last / 16) k)

  lost_high : bit lost (4 + k) ≡ 0
  lost_high =
      bit_and_lem (last / 16) 0x0f0f0f0f (4 + k)
      ∙ ap (bit_and (bit (last / 16) (4 + k))) (masked 0x0f0f0f0f 1 0 low_mask (4 + k) above ∙ ap (λ (t : Bool). if t then 1 else 0) in_high)
      ∙ and_zero_r (bit (last / 16) (4 + k))

  first_low : bit first k ≡ 0
  first_low =
      let y = bit_xor (last * 16 % 4294967296) last in
      bit_and_lem y 0xf0f0f0f0 k
      ∙ ap (bit_and (bit y k)) (masked 0xf0f0f0f0 0 1 high_mask k h ∙ ap (λ (t : Bool). if t then 0 else 1) in_low)
      ∙ and_zero_r (bit y k)

  first_high : bit first (4 + k) ≡ bit_xor (bit last k) (bit (last / 16) k)
  first_high =
      let y = bit_xor (last * 16 % 4294967296) last in
      let past : ltb (4 + k) 4 ≡ false = not_below (4 + k) (omega arith) in
      let back : 4 + k - 4 ≡ k = omega arith in
      bit_and_lem y 0xf0f0f0f0 (4 + k)
      ∙ ap (bit_and (bit y (4 + k))) (masked 0xf0f0f0f0 0 1 high_mask (4 + k) above ∙ ap (λ (t : Bool). if t then 0 else 1) in_high)
      ∙ and_one (bit y (4 + k)) (bit_lt y (4 + k))
      ∙ bit_xor_lem (last * 16 % 4294967296) last (4 + k)
      ∙ ap₂ bit_xor
      (bit_up 32 last 4 (4 + k) above ∙ ap (λ (t : Bool). if t then 0 else bit last (4 + k - 4)) past ∙ ap (bit last) back)
      (sym (bit_down last 4 k))

  -- the words of which the lost bits are part, in low half-bytes and in high ones
  with_low : (x : ℕ) → bit (bit_xor x lost) k ≡ bit_xor (bit x k) (bit (last / 16) k)
  with_low x = bit_xor_lem x lost k ∙ ap (bit_xor (bit x k)) lost_low

  with_high : (x : ℕ) → bit (bit_xor x lost / 16) k ≡ bit (x / 16) k
  with_high x =
      bit_down (bit_xor x lost) 4 k
      ∙ bit_xor_lem x lost (4 + k)
      ∙ ap (bit_xor (bit x (4 + k))) lost_high
      ∙ xor_zero_r (bit x (4 + k))
      ∙ sym (bit_down x 4 k)

  word0_low : bit (bit_xor lost first) k ≡ bit (last / 16) k
  word0_low = bit_xor_lem lost first k ∙ ap₂ bit_xor lost_low first_low ∙ xor_zero_r (bit (last / 16) k)

  word0_high : bit (bit_xor lost first / 16) k ≡ bit_xor (bit last k) (bit (last / 16) k)
  word0_high = bit_down (bit_xor lost first) 4 k ∙ bit_xor_lem lost first (4 + k) ∙ ap₂ bit_xor lost_high first_high

  doubled_bits_lem : bits_at (doubled_words p) k ≡ doubled_bits (bits_at p k)
  doubled_bits_lem =
      λ i.
      word0_low i
      ∷ with_low (get_or p 0 0) i
      ∷ bit (get_or p 1 0) k
      ∷ with_low (get_or p 2 0) i
      ∷ word0_high i
      ∷ with_high (get_or p 0 0) i
      ∷ bit (get_or p 1 0 / 16) k
      ∷ with_high (get_or p 2 0) i
      ∷ []

  pub doubled_at : byte_at (doubled_words p) k ≡ xtime (byte_at p k)
  unfolding lane
  doubled_at =
      ap number doubled_bits_lem
      ∙ ap (λ (l : List ℕ). number (doubled_bits l)) (bits_of p k)
      ∙ double_byte (byte_at p k) (byte_at_lem p k)

-- ---- MixColumns

-- a byte a, with b, c and d below it in its column
abbrev mixed_byte : ℕ → ℕ → ℕ → ℕ → ℕ
mixed_byte a b c d = bit_xor (xtime a) (bit_xor (bit_xor (xtime b) b) (bit_xor c d))

-- 2 of a pair is 2 of each of the two
apart : (a b c d : ℕ) → a < 256 → b < 256 → bit_xor (xtime (bit_xor a b)) (bit_xor b (bit_xor c d)) ≡ mixed_byte a b c d
apart a b c d h g = ap (λ (n : ℕ). bit_xor n (bit_xor b (bit_xor c d))) (xtime_xor a b h g) ∙ simp xor_assoc

abbrev pub Words : List ℕ → Type 0
Words a = (j : ℕ) → get_or a j 0 < 2 ^ 32

module _ (t : List ℕ) where
  abbrev pub pairs : List ℕ
  pairs = xor_words t (below_words t)

  abbrev pub triples : List ℕ
  triples = xor_words t (below_words pairs)

  abbrev pub mixed_words : List ℕ
  mixed_words = xor_words (doubled_words pairs) (below_words triples)

  module _ (ft : Words t) (fp : Words pairs) (fr : Words triples) where
    module _ (k : ℕ) (h : k < 32) (g : k % 8 < 4) where
      pair_at : byte_at pairs k ≡ bit_xor (byte_at t k) (byte_at t (next k))
      pair_at = xor_at t (below_words t) k ∙ ap (bit_xor (byte_at t k)) (below_at t ft k h g)

    mixed_at : (k : ℕ) → k < 32 → k % 8 < 4
        → byte_at mixed_words k ≡ mixed_byte (byte_at t k) (byte_at t (next k)) (byte_at t (next (next k))) (byte_at t (next (next (next k))))
    mixed_at k h g =
        let n = next k in
        let h1 : next k < 32 = omega arith in
        let g1 : next k % 8 < 4 = omega arith in
        let h2 : next n < 32 = omega arith in
        let g2 : next n % 8 < 4 = omega arith in
        xor_at (doubled_words pairs) (below_words triples) k
        ∙ ap₂ bit_xor
        (doubled_at pairs k h g ∙ ap xtime (pair_at k h g))
        (below_at triples fr k h g
        ∙ xor_at t (below_words pairs) n
        ∙ ap (bit_xor (byte_at t n)) (below_at pairs fp n h1 g1 ∙ pair_at (next n) h2 g2))
        ∙ apart (byte_at t k) (byte_at t n) (byte_at t (next n)) (byte_at t (next (next n))) (byte_at_lem t k) (byte_at_lem t n)

    pub mixed_bytes : crossed_bytes mixed_words ≡ MixColumns (crossed_bytes t)
    unfolding crossed_bytes plane_bytes ◌⊕◌ zip
    mixed_bytes =
        (λ i.
        mixed_at 24 (omega arith) (omega arith) i ∷ mixed_at 16 (omega arith) (omega arith) i ∷ mixed_at 8 (omega arith) (omega arith) i ∷ mixed_at 0 (omega arith) (omega arith) i
        ∷ mixed_at 25 (omega arith) (omega arith) i ∷ mixed_at 17 (omega arith) (omega arith) i ∷ mixed_at 9 (omega arith) (omega arith) i ∷ mixed_at 1 (omega arith) (omega arith) i
        ∷ mixed_at 26 (omega arith) (omega arith) i ∷ mixed_at 18 (omega arith) (omega arith) i ∷ mixed_at 10 (omega arith) (omega arith) i ∷ mixed_at 2 (omega arith) (omega arith) i
        ∷ mixed_at 27 (omega arith) (omega arith) i ∷ mixed_at 19 (omega arith) (omega arith) i ∷ mixed_at 11 (omega arith) (omega arith) i ∷ mixed_at 3 (omega arith) (omega arith) i
        ∷ [])
        ∙ mix_columns (crossed_bytes t) refl

-- ---- AddRoundKey

pub key_added : (m k : List ℕ) → crossed_bytes (xor_words m k) ≡ crossed_bytes m ⊕ crossed_bytes k
unfolding crossed_bytes plane_bytes ◌⊕◌ zip
key_added m k = tab_same 0 16 (λ i. byte_at (xor_words m k) (place i)) (λ i. bit_xor (byte_at m (place i)) (byte_at k (place i))) (λ i h. xor_at m k (place i))

-- ---- The sum of columns is that of crossed words

pub summed_words : {r : List ℕ} (a b : List ℕ) → Digits 32 4 a → Digits 32 4 b → r ≡ columns_of (block_of a ⊕ block_of b) → r ≡ xor_words a b
summed_words a b p q e = e ∙ sym (columns_sum a b p q)
