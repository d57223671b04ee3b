-- A state by the bits of its columns, of its crossed words and of its planes: turning over takes one to the other, and back.
use mathlib.Core.List.{List, [], ◌∷◌}
use mathlib.Core.Path.{◌≡◌, refl, ap, sym, fun_ext, ◌∙◌}
use Prim.Native.Nat.{ℕ, ◌+◌, ◌-◌, ◌*◌, ◌/◌, ◌%◌, ◌<◌}
use native.Mathlib.Omega.{arith}
use borrow.Author.Tests.{lt-ltb}
use lib.Dec.{ltb}
use lib.ListN.{get_or}
use Rattle.paper.specs.Strings.{Bytes, tab_from, tab}
use Rattle.paper.specs.Fips197.{bit, sbox, SubBytes}
use Rattle.laws.proofs.Tables.{get_or_tab}
use Rattle.columns.specs.Columns.{row3, block_of}
use Rattle.circuit.specs.Planes.{lane}
use Rattle.laws.proofs.WordBits.{number, word_of, known, either_lt, bit_lt, bit_down, low_bits, number_bits_lem, tab_same}
use Rattle.sub_bytes.specs.Planes.{crossed_bit, crossed, joined_bit, place, plane_bytes, crossed_bytes}
use Rattle.sub_bytes.proofs.Moves.{bits_known}

-- ---- a state by its columns

-- row r of a column, and four columns, by their bits
abbrev byte : (ℕ → ℕ) → ℕ → ℕ
byte f r = number (tab_from (8 * (3 - r)) 8 f)

abbrev by_columns : (ℕ → ℕ) → (ℕ → ℕ) → (ℕ → ℕ) → (ℕ → ℕ) → Bytes
by_columns f0 f1 f2 f3 =
    byte f0 0 ∷ byte f0 1 ∷ byte f0 2 ∷ byte f0 3
    ∷ byte f1 0 ∷ byte f1 1 ∷ byte f1 2 ∷ byte f1 3
    ∷ byte f2 0 ∷ byte f2 1 ∷ byte f2 2 ∷ byte f2 3
    ∷ byte f3 0 ∷ byte f3 1 ∷ byte f3 2 ∷ byte f3 3
    ∷ []

last_row : (x : ℕ) → byte (bit x) 3 ≡ row3 x
last_row x =
    let whole : x / 1 % 256 ≡ x % 256 = omega arith in
    number_bits_lem 0 8 x ∙ whole

state_bits : (s : List ℕ)
    → by_columns (bit (get_or s 0 0)) (bit (get_or s 1 0)) (bit (get_or s 2 0)) (bit (get_or s 3 0)) ≡ block_of s
state_bits s =
    let a = get_or s 0 0 in
    let b = get_or s 1 0 in
    let c = get_or s 2 0 in
    let d = get_or s 3 0 in
    λ i.
    number_bits_lem 24 8 a i ∷ number_bits_lem 16 8 a i ∷ number_bits_lem 8 8 a i ∷ last_row a i
    ∷ number_bits_lem 24 8 b i ∷ number_bits_lem 16 8 b i ∷ number_bits_lem 8 8 b i ∷ last_row b i
    ∷ number_bits_lem 24 8 c i ∷ number_bits_lem 16 8 c i ∷ number_bits_lem 8 8 c i ∷ last_row c i
    ∷ number_bits_lem 24 8 d i ∷ number_bits_lem 16 8 d i ∷ number_bits_lem 8 8 d i ∷ last_row d i
    ∷ []

-- ---- to crossed words and back

-- a state by the bits of its planes
abbrev pub by_planes : (ℕ → ℕ) → (ℕ → ℕ) → (ℕ → ℕ) → (ℕ → ℕ) → (ℕ → ℕ) → (ℕ → ℕ) → (ℕ → ℕ) → (ℕ → ℕ) → Bytes
by_planes f0 f1 f2 f3 f4 f5 f6 f7 =
    tab 16
    (λ i.
    let k = place i in
    number (f0 k ∷ f1 k ∷ f2 k ∷ f3 k ∷ f4 k ∷ f5 k ∷ f6 k ∷ f7 k ∷ []))

-- the bits of word j of w, which is s turned over
turned_bits : (s w : List ℕ) → w ≡ crossed s → (j : ℕ) → get_or (crossed s) j 0 ≡ word_of 32 (crossed_bit s j)
    → bit (get_or w j 0) ≡ known 32 (crossed_bit s j)
turned_bits s w e j h =
    bits_known (get_or w j 0) (crossed_bit s j) (λ k. bit_lt (get_or s (k % 4) 0) (k / 4 * 4 + j))
    (ap (λ (l : List ℕ). get_or l j 0) e ∙ h)

-- four words that are known by their bits, and their high half-bytes
abbrev pub by_words : (ℕ → ℕ) → (ℕ → ℕ) → (ℕ → ℕ) → (ℕ → ℕ) → Bytes
by_words f0 f1 f2 f3 = by_planes f0 f1 f2 f3 (λ k. f0 (4 + k)) (λ k. f1 (4 + k)) (λ k. f2 (4 + k)) (λ k. f3 (4 + k))

pub words_bits : (w : List ℕ) → crossed_bytes w ≡ by_words (bit (get_or w 0 0)) (bit (get_or w 1 0)) (bit (get_or w 2 0)) (bit (get_or w 3 0))
unfolding crossed_bytes plane_bytes lane
words_bits w =
    λ i.
    by_planes (bit (get_or w 0 0)) (bit (get_or w 1 0)) (bit (get_or w 2 0)) (bit (get_or w 3 0)) (high 0 i) (high 1 i) (high 2 i) (high 3 i)
  where
    high : (j : ℕ) → bit (get_or w j 0 / 16) ≡ (λ k. bit (get_or w j 0) (4 + k))
    high j = fun_ext (bit_down (get_or w j 0) 4)

-- columns turned over are crossed words of their state
pub crossed_bytes_lem : (s : List ℕ) → crossed_bytes (crossed s) ≡ block_of s
unfolding crossed
crossed_bytes_lem s =
    let w0 = turned_bits s (crossed s) refl 0 refl in
    let w1 = turned_bits s (crossed s) refl 1 refl in
    let w2 = turned_bits s (crossed s) refl 2 refl in
    let w3 = turned_bits s (crossed s) refl 3 refl in
    words_bits (crossed s) ∙ (λ i. by_words (w0 i) (w1 i) (w2 i) (w3 i)) ∙ state_bits s

-- and crossed words turned over are its columns
pub uncrossed_block : (w : List ℕ) → block_of (crossed w) ≡ crossed_bytes w
unfolding crossed
uncrossed_block w =
    let r0 = turned_bits w (crossed w) refl 0 refl in
    let r1 = turned_bits w (crossed w) refl 1 refl in
    let r2 = turned_bits w (crossed w) refl 2 refl in
    let r3 = turned_bits w (crossed w) refl 3 refl in
    sym (state_bits (crossed w)) ∙ (λ i. by_columns (r0 i) (r1 i) (r2 i) (r3 i)) ∙ sym (words_bits w)

-- the bits of a word that is joined of two
joined_bits : (a b v : ℕ) → v ≡ word_of 32 (joined_bit (bit a) (bit b)) → bit v ≡ known 32 (joined_bit (bit a) (bit b))
joined_bits a b v =
    bits_known v (joined_bit (bit a) (bit b))
    (λ k. either_lt (ltb (k % 8) 4) (bit_lt a k) (bit_lt b (k - 4)))

-- the crossed words of a state on planes: the half-bytes joined
pub in_words : (q : List ℕ) (v0 v1 v2 v3 : ℕ)
    → v0 ≡ word_of 32 (joined_bit (bit (get_or q 0 0)) (bit (get_or q 4 0)))
    → v1 ≡ word_of 32 (joined_bit (bit (get_or q 1 0)) (bit (get_or q 5 0)))
    → v2 ≡ word_of 32 (joined_bit (bit (get_or q 2 0)) (bit (get_or q 6 0)))
    → v3 ≡ word_of 32 (joined_bit (bit (get_or q 3 0)) (bit (get_or q 7 0)))
    → crossed_bytes (v0 ∷ v1 ∷ v2 ∷ v3 ∷ []) ≡ plane_bytes q
unfolding plane_bytes lane
in_words q v0 v1 v2 v3 e0 e1 e2 e3 =
    let k0 = joined_bits (get_or q 0 0) (get_or q 4 0) v0 e0 in
    let k1 = joined_bits (get_or q 1 0) (get_or q 5 0) v1 e1 in
    let k2 = joined_bits (get_or q 2 0) (get_or q 6 0) v2 e2 in
    let k3 = joined_bits (get_or q 3 0) (get_or q 7 0) v3 e3 in
    words_bits (v0 ∷ v1 ∷ v2 ∷ v3 ∷ []) ∙ (λ i. by_words (k0 i) (k1 i) (k2 i) (k3 i))

-- a state on planes of which the upper halves are dropped, where no byte stands
pub low_halves : (q : List ℕ) → plane_bytes (tab 8 (λ j. get_or q j 0 % 4294967296)) ≡ plane_bytes q
unfolding plane_bytes lane
low_halves q =
    tab_same 0 16 (λ i. number (tab 8 (λ j. bit (get_or q j 0 % 4294967296) (place i)))) (λ i. number (tab 8 (λ j. bit (get_or q j 0) (place i))))
    (λ i b.
    let within : place i < 32 = omega arith in
    ap number
    (tab_same 0 8 (λ j. bit (get_or q j 0 % 4294967296) (place i)) (λ j. bit (get_or q j 0) (place i))
    (λ j h. ap (λ (f : ℕ → ℕ). f (place i)) (low_bits 32 (get_or q j 0)) ∙ rw (lt-ltb (place i) 32 within) refl)))

-- the circuit in each lane is SubBytes of the state
pub lanes_sub_bytes : (q r : List ℕ) → tab 64 (lane r) ≡ tab 64 (λ k. sbox (lane q k)) → plane_bytes r ≡ SubBytes (plane_bytes q)
unfolding plane_bytes SubBytes
lanes_sub_bytes q r e =
    tab_same 0 16 (λ i. lane r (place i)) (λ i. sbox (lane q (place i)))
    (λ i b.
    let k = place i in
    let within : place i < 64 = omega arith in
    sym (get_or_tab 64 k (lane r) within)
    ∙ ap (λ (l : List ℕ). get_or l k 0) e
    ∙ get_or_tab 64 k (λ k. sbox (lane q k)) within)
