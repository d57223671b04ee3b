-- The circuit is the S-box, in each lane: gates work on each bit by itself, and for one byte the rule is computed over all 256.
use mathlib.Core.List.{List, [], ◌∷◌, map}
use mathlib.Core.Path.{◌≡◌, refl, ap, ap₂, sym, fun_ext, ◌∙◌}
use Prim.Native.Nat.{ℕ, ◌/◌, ◌%◌, ◌<◌}
use native.Mathlib.Omega.{arith}
use lib.Bits.{bit_xor, bit_and}
use lib.ListN.{length, get_or, length-map, get_or-map}
use Rattle.paper.specs.Strings.{Below, tab}
use Rattle.paper.specs.Fips197.{bit, sbox}
use Rattle.laws.proofs.Tables.{get_or_tab, tab_entries}
use Rattle.sbox_rule.proofs.SBox.{rule}
use Rattle.circuit.specs.Planes.{lane}
use Rattle.circuit.specs.Circuit.{sums, norm, inverse16, products, outputs, entry, circuit}
use Rattle.laws.proofs.WordBits.{number, bit_lt, bit_zero, bit_xor_lem, bit_and_lem, bit_number, number_bits_lem, tab_same}

-- ---- one lane of gates on words

-- A word, and what stands in its lane k. The gates over wires are those over words and those over bits side by side, and carry along that
-- the two agree.
record Wire (k : ℕ) : Type 0 where
  bits : ℕ
  value : ℕ
  same : bit bits k ≡ value

module _ (k : ℕ) where
  abbrev wire : ℕ → Wire k
  wire w = record { bits = w; value = bit w k; same = refl }

  abbrev xor : Wire k → Wire k → Wire k
  xor v w = record {
    bits = bit_xor v.bits w.bits;
    value = bit_xor v.value w.value;
    same = bit_xor_lem v.bits w.bits k ∙ ap₂ bit_xor v.same w.same;
  }

  abbrev and : Wire k → Wire k → Wire k
  and v w = record {
    bits = bit_and v.bits w.bits;
    value = bit_and v.value w.value;
    same = bit_and_lem v.bits w.bits k ∙ ap₂ bit_and v.same w.same;
  }

  abbrev in_lane : List ℕ → List ℕ
  in_lane l = map (λ w. bit w k) l

  wired : (l : List (Wire k)) → in_lane (map (λ w. w.bits) l) ≡ map (λ w. w.value) l
  wired [] = refl
  wired (w ∷ l) = ap₂ (λ (x : ℕ) (t : List ℕ). x ∷ t) w.same (wired l)

  entry_lane : (l : List ℕ) → (λ (i : ℕ). bit (entry l i) k) ≡ entry (in_lane l)
  entry_lane l =
      fun_ext (λ i. sym (get_or-map (λ w. bit w k) l i 0) ∙ ap (get_or (in_lane l) i) (bit_zero k))

  -- each part of the circuit, on wires
  sums_lane : (q : List ℕ) → in_lane (sums bit_xor bit_and (entry q)) ≡ sums bit_xor bit_and (entry (in_lane q))
  sums_lane q = wired (sums xor and (λ i. wire (entry q i))) ∙ ap (sums bit_xor bit_and) (entry_lane q)

  norm_lane : (y : List ℕ) → in_lane (norm bit_xor bit_and (entry y)) ≡ norm bit_xor bit_and (entry (in_lane y))
  norm_lane y = wired (norm xor and (λ i. wire (entry y i))) ∙ ap (norm bit_xor bit_and) (entry_lane y)

  inverse16_lane : (t : List ℕ) → in_lane (inverse16 bit_xor bit_and (entry t)) ≡ inverse16 bit_xor bit_and (entry (in_lane t))
  inverse16_lane t = wired (inverse16 xor and (λ i. wire (entry t i))) ∙ ap (inverse16 bit_xor bit_and) (entry_lane t)

  products_lane : (y t : List ℕ)
      → in_lane (products bit_xor bit_and (entry y) (entry t)) ≡ products bit_xor bit_and (entry (in_lane y)) (entry (in_lane t))
  products_lane y t =
      wired (products xor and (λ i. wire (entry y i)) (λ i. wire (entry t i)))
      ∙ ap₂ (products bit_xor bit_and) (entry_lane y) (entry_lane t)

  outputs_lane : (o : ℕ) (z : List ℕ)
      → in_lane (outputs bit_xor bit_and o (entry z)) ≡ outputs bit_xor bit_and (bit o k) (entry (in_lane z))
  outputs_lane o z =
      wired (outputs xor and (wire o) (λ i. wire (entry z i))) ∙ ap (outputs bit_xor bit_and (bit o k)) (entry_lane z)

  circuit_lane : (o : ℕ) (q : List ℕ) → in_lane (circuit o q) ≡ circuit (bit o k) (in_lane q)
  unfolding circuit
  circuit_lane o q =
      let y = sums bit_xor bit_and (entry q) in
      let n = norm bit_xor bit_and (entry y) in
      let t = inverse16 bit_xor bit_and (entry n) in
      let z = products bit_xor bit_and (entry y) (entry t) in
      let ey = sums_lane q in
      let en = norm_lane y ∙ ap (λ (l : List ℕ). norm bit_xor bit_and (entry l)) ey in
      let et = inverse16_lane n ∙ ap (λ (l : List ℕ). inverse16 bit_xor bit_and (entry l)) en in
      let ez = products_lane y t ∙ ap₂ (λ (l m : List ℕ). products bit_xor bit_and (entry l) (entry m)) ey et in
      outputs_lane o z ∙ ap (λ (l : List ℕ). outputs bit_xor bit_and (bit o k) (entry l)) ez

  in_lane_bits : (l : List ℕ) → Below 2 (in_lane l)
  in_lane_bits [] = tt
  in_lane_bits (w ∷ l) = (bit_lt w k, in_lane_bits l)

  lane_number : (l : List ℕ) → length l ≡ 8 → lane l k ≡ number (in_lane l)
  unfolding lane
  lane_number l e = sym (ap (λ (m : List ℕ). number (in_lane m)) (tab_entries 8 l e))

-- ---- one byte

-- the circuit at each byte, by its bits: the table of the S-box
computed : tab 256 (λ n. number (circuit 1 (tab 8 (bit n)))) ≡ tab 256 sbox
unfolding circuit
computed = sym rule

circuit_byte : (n : ℕ) → n < 256 → number (circuit 1 (tab 8 (bit n))) ≡ sbox n
circuit_byte n h =
    sym (get_or_tab 256 n (λ n. number (circuit 1 (tab 8 (bit n)))) h)
    ∙ ap (λ (l : List ℕ). get_or l n 0) computed
    ∙ get_or_tab 256 n sbox h

-- eight bits are those of their number, which is a byte
pub bits_of : (l : List ℕ) → length l ≡ 8 → Below 2 l → l ≡ tab 8 (bit (number l))
bits_of l e h =
    tab_entries 8 l e ∙ sym (tab_same 0 8 (bit (number l)) (λ i. get_or l i 0) (λ i b. bit_number l i h))

pub byte_of : (l : List ℕ) → length l ≡ 8 → Below 2 l → number l < 256
byte_of l e h =
    let low : number l ≡ number l / 1 % 256 = ap number (bits_of l e h) ∙ number_bits_lem 0 8 (number l) in
    omega arith

-- ---- every lane

-- bit k of the word of ones
ones_table : tab 64 (bit 0xffffffffffffffff) ≡ tab 64 (λ k. 1)
ones_table = refl

pub bit_ones : (k : ℕ) → k < 64 → bit 0xffffffffffffffff k ≡ 1
bit_ones k h = sym (get_or_tab 64 k (bit 0xffffffffffffffff) h) ∙ ap (λ (l : List ℕ). get_or l k 0) ones_table ∙ get_or_tab 64 k (λ k. 1) h

circuit_sbox : (q : List ℕ) (k : ℕ) → length q ≡ 8 → k < 64 → lane (circuit 0xffffffffffffffff q) k ≡ sbox (lane q k)
unfolding circuit
circuit_sbox q k e h =
    let l = in_lane k q in
    let long : length l ≡ 8 = length-map q (λ w. bit w k) ∙ e in
    lane_number k (circuit 0xffffffffffffffff q) refl
    ∙ ap number (circuit_lane k 0xffffffffffffffff q)
    ∙ ap₂ (λ (o : ℕ) (m : List ℕ). number (circuit o m)) (bit_ones k h) (bits_of l long (in_lane_bits k q))
    ∙ circuit_byte (number l) (byte_of l long (in_lane_bits k q))
    ∙ ap sbox (sym (lane_number k q e))

-- the parts one after the other are the circuit
pub together : (q y n t z r : List ℕ) → y ≡ sums bit_xor bit_and (entry q) → n ≡ norm bit_xor bit_and (entry y)
    → t ≡ inverse16 bit_xor bit_and (entry n) → z ≡ products bit_xor bit_and (entry y) (entry t)
    → r ≡ outputs bit_xor bit_and 0xffffffffffffffff (entry z) → r ≡ circuit 0xffffffffffffffff q
unfolding circuit
together q y n t z r is_y is_n is-t is-z is-r =
    let en = is_n ∙ ap (λ (l : List ℕ). norm bit_xor bit_and (entry l)) is_y in
    let et = is-t ∙ ap (λ (l : List ℕ). inverse16 bit_xor bit_and (entry l)) en in
    let ez = is-z ∙ ap₂ (λ (l m : List ℕ). products bit_xor bit_and (entry l) (entry m)) is_y et in
    is-r ∙ ap (λ (l : List ℕ). outputs bit_xor bit_and 0xffffffffffffffff (entry l)) ez

pub circuit_lanes : (q r : List ℕ) → length q ≡ 8 → r ≡ circuit 0xffffffffffffffff q → tab 64 (lane r) ≡ tab 64 (λ k. sbox (lane q k))
circuit_lanes q r e h =
    ap (λ (l : List ℕ). tab 64 (lane l)) h
    ∙ tab_same 0 64 (lane (circuit 0xffffffffffffffff q)) (λ k. sbox (lane q k)) (λ k b. circuit_sbox q k e b)
