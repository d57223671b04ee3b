-- The steps of a round, in each of the sixteen places: from what they do to lanes follows what they do to blocks.
use mathlib.Core.List.{List, [], ◌∷◌, map}
use mathlib.Core.Path.{◌≡◌, refl, ap, ap₂, sym, ◌∙◌}
use Prim.Native.Nat.{ℕ, zero, suc, ◌+◌, ◌-◌, ◌*◌, ◌/◌, ◌%◌, ◌^◌, ◌<◌}
use native.Mathlib.Omega.{arith}
use lib.Bits.{bit_xor}
use lib.ListN.{get_or}
use Rattle.paper.specs.Strings.{Bytes, tab_from, tab, zip, ◌⊕◌}
use Rattle.paper.specs.Fips197.{bit, sbox, SubBytes, ShiftRows, MixColumns}
use Rattle.paper.specs.Section7.{aesenc}
use Rattle.laws.proofs.Round.{mix_columns}
use Rattle.laws.proofs.Tables.{get_or_tab}
use Rattle.circuit.specs.Planes.{lane as byteIn}
use Rattle.laws.proofs.WordBits.{number, bit_lt, bit_xor_lem, tab_same}
use Rattle.rows.specs.Rows.{turned_row, mixed_row}
use Rattle.rows.proofs.Lanes.{number_xor, mixed_byte, mixed_lane, turned_lane}
use Rattle.sixteen.specs.Groups.{row_of, of_rows, xor_planes}
use Rattle.planes.specs.Planes.{lane, plane_block, up_to}

-- ---- sixteen places

from_same : (i n : ℕ) (f g : ℕ → Bytes) → ((s : ℕ) → s < i + n → f s ≡ g s) → map f (tab_from i n (λ b. b)) ≡ map g (tab_from i n (λ b. b))
from_same i zero f g h = refl
from_same i (suc n) f g h =
    ap₂ (λ (x : Bytes) (l : List Bytes). x ∷ l) (h i (omega arith)) (from_same (suc i) n f g (λ s b. h s (omega arith)))

-- what holds in each place
each : (f g : ℕ → Bytes) → ((s : ℕ) → s < 16 → f s ≡ g s) → map f (up_to 16) ≡ map g (up_to 16)
each f g h = from_same 0 16 f g h

-- ---- SubBytes

-- row slot j of r is that of q, each byte by the S-box
abbrev pub Substituted : List ℕ → List ℕ → ℕ → Type 0
Substituted q r j = tab 64 (byteIn (row_of r j)) ≡ tab 64 (λ k. sbox (byteIn (row_of q j) k))

substituted_lane : (q r : List ℕ) (j k : ℕ) → Substituted q r j → k < 64 → lane r j k ≡ sbox (lane q j k)
unfolding lane byteIn
substituted_lane q r j k e h =
    sym (get_or_tab 64 k (byteIn (row_of r j)) h)
    ∙ ap (λ (l : List ℕ). get_or l k 0) e
    ∙ get_or_tab 64 k (λ k. sbox (byteIn (row_of q j) k)) h

pub substituted : (q r : List ℕ) → ((j : ℕ) → j < 4 → Substituted q r j) → map (plane_block r) (up_to 16) ≡ map (λ s. SubBytes (plane_block q s)) (up_to 16)
unfolding plane_block SubBytes
substituted q r rows =
    each (plane_block r) (λ s. SubBytes (plane_block q s))
    (λ s h.
    tab_same 0 16 (λ i. lane r (3 - i % 4) (16 * (i / 4) + s)) (λ i. sbox (lane q (3 - i % 4) (16 * (i / 4) + s)))
    (λ i b. substituted_lane q r (3 - i % 4) (16 * (i / 4) + s) (rows (3 - i % 4) (omega arith)) (omega arith)))

-- ---- AddRoundKey

key_lane : (q k : List ℕ) (j n : ℕ) → j < 4 → lane (xor_planes q k) j n ≡ bit_xor (lane q j n) (lane k j n)
unfolding lane xor_planes
key_lane q k j n h =
    ap number
    (tab_same 0 8 (λ p. bit (get_or (tab 32 (λ i. bit_xor (get_or q i 0) (get_or k i 0))) (4 * p + j) 0) n)
    (λ p. bit_xor (bit (get_or q (4 * p + j) 0) n) (bit (get_or k (4 * p + j) 0) n))
    (λ p b.
    ap (λ (v : ℕ). bit v n) (get_or_tab 32 (4 * p + j) (λ i. bit_xor (get_or q i 0) (get_or k i 0)) (omega arith))
    ∙ bit_xor_lem (get_or q (4 * p + j) 0) (get_or k (4 * p + j) 0) n))
    ∙ number_xor 0 8 (λ p. bit (get_or q (4 * p + j) 0) n) (λ p. bit (get_or k (4 * p + j) 0) n)
    (λ p. bit_lt (get_or q (4 * p + j) 0) n) (λ p. bit_lt (get_or k (4 * p + j) 0) n)

key_added : (q k : List ℕ) (s : ℕ) → plane_block (xor_planes q k) s ≡ plane_block q s ⊕ plane_block k s
unfolding plane_block ◌⊕◌ zip
key_added q k s =
    tab_same 0 16 (λ i. lane (xor_planes q k) (3 - i % 4) (16 * (i / 4) + s))
    (λ i. bit_xor (lane q (3 - i % 4) (16 * (i / 4) + s)) (lane k (3 - i % 4) (16 * (i / 4) + s)))
    (λ i b. key_lane q k (3 - i % 4) (16 * (i / 4) + s) (omega arith))

-- ---- ShiftRows and MixColumns

-- a group of four rows, by their lanes
rows_block : (a b c d : List ℕ) (s : ℕ)
    → plane_block (of_rows a b c d) s ≡ tab 16 (λ i. byteIn (get_or (a ∷ b ∷ c ∷ d ∷ []) (i % 4) []) (16 * (i / 4) + s))
unfolding plane_block lane byteIn of_rows
rows_block a b c d s = refl

module _ (q : List ℕ) where
  -- the rows, each turned by its columns
  abbrev row0 : List ℕ
  row0 = row_of q 3

  abbrev row1 : List ℕ
  row1 = turned_row (row_of q 2) 16

  abbrev row2 : List ℕ
  row2 = turned_row (row_of q 1) 32

  abbrev row3 : List ℕ
  row3 = turned_row (row_of q 0) 48

  abbrev pub mixed_group : List ℕ
  mixed_group = of_rows (mixed_row row0 row1 row2 row3) (mixed_row row1 row2 row3 row0) (mixed_row row2 row3 row0 row1) (mixed_row row3 row0 row1 row2)

  module _ (fits : (i : ℕ) → get_or q i 0 < 2 ^ 64) (s : ℕ) (h : s < 16) where
    -- the byte in row r of column c
    abbrev byte : ℕ → ℕ → ℕ
    byte r c = lane q (3 - r) (16 * c + s)

    at0 : (c : ℕ) → byteIn row0 (16 * c + s) ≡ byte 0 c
    unfolding lane byteIn
    at0 c = refl

    -- n is r columns
    turned_byte : (j n c e : ℕ) → 0 < n → n < 64 → c < 4 → (16 * c + s + n) % 64 ≡ 16 * e + s
        → byteIn (turned_row (row_of q j) n) (16 * c + s) ≡ lane q j (16 * e + s)
    unfolding lane byteIn
    turned_byte j n c e some part b same =
        turned_lane (λ p. get_or q (4 * p + j) 0) n (16 * c + s) (λ p. fits (4 * p + j)) some part (omega arith) ∙ ap (byteIn (row_of q j)) same

    at1 : (c : ℕ) → c < 4 → byteIn row1 (16 * c + s) ≡ byte 1 ((c + 1) % 4)
    at1 c b = turned_byte 2 16 c ((c + 1) % 4) (omega arith) (omega arith) b (omega arith)

    at2 : (c : ℕ) → c < 4 → byteIn row2 (16 * c + s) ≡ byte 2 ((c + 2) % 4)
    at2 c b = turned_byte 1 32 c ((c + 2) % 4) (omega arith) (omega arith) b (omega arith)

    at3 : (c : ℕ) → c < 4 → byteIn row3 (16 * c + s) ≡ byte 3 ((c + 3) % 4)
    at3 c b = turned_byte 0 48 c ((c + 3) % 4) (omega arith) (omega arith) b (omega arith)

    -- column c of the result, row by row
    module _ (c : ℕ) (b : c < 4) where
      mixed0 : byteIn (mixed_row row0 row1 row2 row3) (16 * c + s)
          ≡ mixed_byte (byte 0 c) (byte 1 ((c + 1) % 4)) (byte 2 ((c + 2) % 4)) (byte 3 ((c + 3) % 4))
      mixed0 = mixed_lane row0 row1 row2 row3 (16 * c + s) ∙ (λ i. mixed_byte (at0 c i) (at1 c b i) (at2 c b i) (at3 c b i))

      mixed1 : byteIn (mixed_row row1 row2 row3 row0) (16 * c + s)
          ≡ mixed_byte (byte 1 ((c + 1) % 4)) (byte 2 ((c + 2) % 4)) (byte 3 ((c + 3) % 4)) (byte 0 c)
      mixed1 = mixed_lane row1 row2 row3 row0 (16 * c + s) ∙ (λ i. mixed_byte (at1 c b i) (at2 c b i) (at3 c b i) (at0 c i))

      mixed2 : byteIn (mixed_row row2 row3 row0 row1) (16 * c + s)
          ≡ mixed_byte (byte 2 ((c + 2) % 4)) (byte 3 ((c + 3) % 4)) (byte 0 c) (byte 1 ((c + 1) % 4))
      mixed2 = mixed_lane row2 row3 row0 row1 (16 * c + s) ∙ (λ i. mixed_byte (at2 c b i) (at3 c b i) (at0 c i) (at1 c b i))

      mixed3 : byteIn (mixed_row row3 row0 row1 row2) (16 * c + s)
          ≡ mixed_byte (byte 3 ((c + 3) % 4)) (byte 0 c) (byte 1 ((c + 1) % 4)) (byte 2 ((c + 2) % 4))
      mixed3 = mixed_lane row3 row0 row1 row2 (16 * c + s) ∙ (λ i. mixed_byte (at3 c b i) (at0 c i) (at1 c b i) (at2 c b i))

    mixed_block : plane_block mixed_group s ≡ MixColumns (ShiftRows (plane_block q s))
    unfolding plane_block ShiftRows ◌⊕◌ zip
    mixed_block =
        rows_block (mixed_row row0 row1 row2 row3) (mixed_row row1 row2 row3 row0) (mixed_row row2 row3 row0 row1) (mixed_row row3 row0 row1 row2) s
        ∙ (λ i.
        mixed0 0 (omega arith) i ∷ mixed1 0 (omega arith) i ∷ mixed2 0 (omega arith) i ∷ mixed3 0 (omega arith) i
        ∷ mixed0 1 (omega arith) i ∷ mixed1 1 (omega arith) i ∷ mixed2 1 (omega arith) i ∷ mixed3 1 (omega arith) i
        ∷ mixed0 2 (omega arith) i ∷ mixed1 2 (omega arith) i ∷ mixed2 2 (omega arith) i ∷ mixed3 2 (omega arith) i
        ∷ mixed0 3 (omega arith) i ∷ mixed1 3 (omega arith) i ∷ mixed2 3 (omega arith) i ∷ mixed3 3 (omega arith) i
        ∷ [])
        ∙ mix_columns (ShiftRows (plane_block q s)) refl

  pub shifted_mixed : ((i : ℕ) → get_or q i 0 < 2 ^ 64)
      → map (plane_block mixed_group) (up_to 16) ≡ map (λ s. MixColumns (ShiftRows (plane_block q s))) (up_to 16)
  shifted_mixed fits = each (plane_block mixed_group) (λ s. MixColumns (ShiftRows (plane_block q s))) (mixed_block fits)

-- ---- rounds

-- the steps of a round, from q on
pub rounded : (q s m r k : List ℕ) → map (plane_block s) (up_to 16) ≡ map (λ n. SubBytes (plane_block q n)) (up_to 16)
    → map (plane_block m) (up_to 16) ≡ map (λ n. MixColumns (ShiftRows (plane_block s n))) (up_to 16)
    → r ≡ xor_planes m k
    → map (plane_block r) (up_to 16) ≡ map (λ n. aesenc (plane_block q n) (plane_block k n)) (up_to 16)
unfolding aesenc
rounded q s m r k sub mix add =
    ap (λ (l : List ℕ). map (plane_block l) (up_to 16)) add
    ∙ each (plane_block (xor_planes m k)) (λ n. plane_block m n ⊕ plane_block k n) (λ n h. key_added m k n)
    ∙ ap (λ (l : List Bytes). map (λ n. get_or l n [] ⊕ plane_block k n) (up_to 16))
    (mix ∙ ap (map (λ (X : Bytes). MixColumns (ShiftRows X))) sub)

-- a round from a on, whose blocks are f's
pub one_more : (a r k : List ℕ) (f : ℕ → Bytes) → map (plane_block r) (up_to 16) ≡ map (λ s. aesenc (plane_block a s) (plane_block k s)) (up_to 16)
    → map (plane_block a) (up_to 16) ≡ map f (up_to 16)
    → map (plane_block r) (up_to 16) ≡ map (λ s. aesenc (f s) (plane_block k s)) (up_to 16)
one_more a r k f round e = round ∙ ap (λ (l : List Bytes). map (λ s. aesenc (get_or l s []) (plane_block k s)) (up_to 16)) e
