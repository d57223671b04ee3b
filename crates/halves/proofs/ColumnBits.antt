-- Columns bit by bit: `and` of two and, computed for each n below 32, the front of n half-bytes.
use mathlib.Core.List.{List, [], ◌∷◌}
use mathlib.Core.Path.{◌≡◌, refl, ap, sym, ◌∙◌}
use Prim.Native.Nat.{ℕ, ◌-◌, ◌/◌, ◌<◌}
use lib.Bits.{bit_and, and_shr, and_mod, and_lt}
use lib.ListN.{get_or}
use Rattle.paper.specs.Strings.{Bytes, Digits, Block, zip, ◌and◌, tab}
use Rattle.laws.proofs.Bitwise.{zip_digits}
use Rattle.laws.proofs.Tables.{get_or_tab}
use Rattle.columns.specs.Columns.{row0, row1, row2, row3, column_at, columns_of, block_of}
use Rattle.columns.proofs.Conversions.{column_at_lem, block_columns}
use Rattle.halves.specs.HalfBytes.{whole_bytes}
use Rattle.halves.specs.Blocks.{packed, front, front_column}

-- ---- and

module _ (v w : ℕ) where
  and_row0 : row0 (bit_and v w) ≡ bit_and (row0 v) (row0 w)
  and_row0 = ap row3 (and_shr v w 24) ∙ and_mod (v / 16777216) (w / 16777216) 8

  and_row1 : row1 (bit_and v w) ≡ bit_and (row1 v) (row1 w)
  and_row1 = ap row3 (and_shr v w 16) ∙ and_mod (v / 65536) (w / 65536) 8

  and_row2 : row2 (bit_and v w) ≡ bit_and (row2 v) (row2 w)
  and_row2 = ap row3 (and_shr v w 8) ∙ and_mod (v / 256) (w / 256) 8

  and_row3 : row3 (bit_and v w) ≡ bit_and (row3 v) (row3 w)
  and_row3 = and_mod v w 8

met : (a b c d a' b' c' d' : ℕ)
    → block_of (bit_and a a' ∷ bit_and b b' ∷ bit_and c c' ∷ bit_and d d' ∷ []) ≡ block_of (a ∷ b ∷ c ∷ d ∷ []) and block_of (a' ∷ b' ∷ c' ∷ d' ∷ [])
unfolding ◌and◌ zip
met a b c d a' b' c' d' =
    λ i.
    and_row0 a a' i ∷ and_row1 a a' i ∷ and_row2 a a' i ∷ and_row3 a a' i
    ∷ and_row0 b b' i ∷ and_row1 b b' i ∷ and_row2 b b' i ∷ and_row3 b b' i
    ∷ and_row0 c c' i ∷ and_row1 c c' i ∷ and_row2 c c' i ∷ and_row3 c c' i
    ∷ and_row0 d d' i ∷ and_row1 d d' i ∷ and_row2 d d' i ∷ and_row3 d d' i
    ∷ []

pub columns_and : (s t : List ℕ) → Digits 32 4 s → Digits 32 4 t
    → bit_and (get_or s 0 0) (get_or t 0 0) ∷ bit_and (get_or s 1 0) (get_or t 1 0) ∷ bit_and (get_or s 2 0) (get_or t 2 0) ∷ bit_and (get_or s 3 0) (get_or t 3 0) ∷ [] ≡ columns_of (block_of s and block_of t)
columns_and s t p q =
    sym (block_columns (record { len = refl; low = (low 0, (low 1, (low 2, (low 3, tt)))) }))
    ∙ ap columns_of (met (get_or s 0 0) (get_or s 1 0) (get_or s 2 0) (get_or s 3 0) (get_or t 0 0) (get_or t 1 0) (get_or t 2 0) (get_or t 3 0))
  where
    low : (k : ℕ) → bit_and (get_or s k 0) (get_or t k 0) < 4294967296
    low k = and_lt 32 (get_or s k 0) (get_or t k 0) (column_at_lem p k) (column_at_lem q k)

pub and_block : {X Y : Bytes} → Block X → Block Y → Block (X and Y)
unfolding ◌and◌
and_block p q = zip_digits bit_and 8 (and_lt 8) p q

-- ---- for each n below 32

-- two functions that are equal in a table of 32
pub in_table : (f g : ℕ → ℕ) → tab 32 f ≡ tab 32 g → (n : ℕ) → n < 32 → f n ≡ g n
in_table f g e n h = sym (get_or_tab 32 n f h) ∙ ap (λ (l : List ℕ). get_or l n 0) e ∙ get_or_tab 32 n g h

pub front_columns : (n : ℕ) → n < 32 → front_column n ∷ front_column (n - 8) ∷ front_column (n - 16) ∷ front_column (n - 24) ∷ [] ≡ columns_of (front n)
unfolding front packed whole_bytes
front_columns n h =
    λ i.
    in_table (λ m. front_column m) (λ m. column_at (front m) 0) refl n h i
    ∷ in_table (λ m. front_column (m - 8)) (λ m. column_at (front m) 4) refl n h i
    ∷ in_table (λ m. front_column (m - 16)) (λ m. column_at (front m) 8) refl n h i
    ∷ in_table (λ m. front_column (m - 24)) (λ m. column_at (front m) 12) refl n h i
    ∷ []
