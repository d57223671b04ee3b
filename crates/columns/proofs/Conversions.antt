-- Blocks and columns are each other's: there and back is the block again, and back and there the columns.
use mathlib.Core.List.{List, [], ◌∷◌}
use mathlib.Core.Path.{◌≡◌, refl, ap, ap₂, sym, ◌∙◌}
use Prim.Native.Nat.{ℕ, ◌+◌, ◌<◌}
use native.Mathlib.Nat.{zero-lt-suc}
use lib.Bits.{bit_xor, xor_lt}
use lib.ListN.{get_or}
use Rattle.paper.specs.Strings.{Bytes, Block, Digits, zip, ◌⊕◌}
use Rattle.paper.specs.Section7.{double}
use Rattle.laws.proofs.Digits.{below_get_or, append_digits}
use Rattle.laws.proofs.Tables.{tab_entries}
use Rattle.columns.specs.Columns.{row0, row1, row2, row3, column, column_at, columns_of, block_of}
use Rattle.columns.proofs.Rows.{Four, column_row0, column_row1, column_row2, column_row3, rows_four, column_rows, xor_row0, xor_row1, xor_row2, xor_row3}

-- the columns of a block have its bytes
pub columns_block : {x : Bytes} → Block x → block_of (columns_of x) ≡ x
columns_block {x} p =
    (λ i.
    r0 0 i ∷ r1 0 i ∷ r2 0 i ∷ r3 0 i
    ∷ r0 4 i ∷ r1 4 i ∷ r2 4 i ∷ r3 4 i
    ∷ r0 8 i ∷ r1 8 i ∷ r2 8 i ∷ r3 8 i
    ∷ r0 12 i ∷ r1 12 i ∷ r2 12 i ∷ r3 12 i
    ∷ [])
    ∙ sym (tab_entries 16 x p.len)
  where
    four : (n : ℕ) → Four (get_or x n 0) (get_or x (n + 1) 0) (get_or x (n + 2) 0) (get_or x (n + 3) 0)
    four n = record { byte0 = b n; byte1 = b (n + 1); byte2 = b (n + 2); byte3 = b (n + 3) }
      where
        b : (k : ℕ) → get_or x k 0 < 256
        b k = below_get_or 256 k x (zero-lt-suc 255) p.low

    r0 : (n : ℕ) → row0 (column_at x n) ≡ get_or x n 0
    r0 n = column_row0 _ (get_or x n 0) (get_or x (n + 1) 0) (get_or x (n + 2) 0) (get_or x (n + 3) 0) refl (four n)

    r1 : (n : ℕ) → row1 (column_at x n) ≡ get_or x (n + 1) 0
    r1 n = column_row1 _ (get_or x n 0) (get_or x (n + 1) 0) (get_or x (n + 2) 0) (get_or x (n + 3) 0) refl (four n)

    r2 : (n : ℕ) → row2 (column_at x n) ≡ get_or x (n + 2) 0
    r2 n = column_row2 _ (get_or x n 0) (get_or x (n + 1) 0) (get_or x (n + 2) 0) (get_or x (n + 3) 0) refl (four n)

    r3 : (n : ℕ) → row3 (column_at x n) ≡ get_or x (n + 3) 0
    r3 n = column_row3 _ (get_or x n 0) (get_or x (n + 1) 0) (get_or x (n + 2) 0) (get_or x (n + 3) 0) refl (four n)

-- a number among four columns
pub column_at_lem : {s : List ℕ} → Digits 32 4 s → (k : ℕ) → get_or s k 0 < 4294967296
column_at_lem {s} p k = below_get_or 4294967296 k s (zero-lt-suc 4294967295) p.low

-- four columns are those of their block
pub block_columns : {s : List ℕ} → Digits 32 4 s → columns_of (block_of s) ≡ s
block_columns {s} p = (λ i. whole 0 i ∷ whole 1 i ∷ whole 2 i ∷ whole 3 i ∷ []) ∙ sym (tab_entries 4 s p.len)
  where
    whole : (k : ℕ) → column (row0 (get_or s k 0)) (row1 (get_or s k 0)) (row2 (get_or s k 0)) (row3 (get_or s k 0)) ≡ get_or s k 0
    whole k = column_rows (get_or s k 0) (column_at_lem p k)

-- what four columns make is a block, whatever they are
four_rows : (w : ℕ) → Digits 8 4 (row0 w ∷ row1 w ∷ row2 w ∷ row3 w ∷ [])
four_rows w =
    let p = rows_four w in
    record { len = refl; low = (p.byte0, (p.byte1, (p.byte2, (p.byte3, tt)))) }

pub block_of_block : (s : List ℕ) → Block (block_of s)
block_of_block s =
    append_digits (four_rows (get_or s 0 0)) (append_digits (four_rows (get_or s 1 0)) (append_digits (four_rows (get_or s 2 0)) (four_rows (get_or s 3 0))))

-- the sum of two blocks of columns
pub summed : (a b c d a' b' c' d' : ℕ)
    → block_of (bit_xor a a' ∷ bit_xor b b' ∷ bit_xor c c' ∷ bit_xor d d' ∷ []) ≡ block_of (a ∷ b ∷ c ∷ d ∷ []) ⊕ block_of (a' ∷ b' ∷ c' ∷ d' ∷ [])
unfolding ◌⊕◌ zip
summed a b c d a' b' c' d' =
    λ i.
    xor_row0 a a' i ∷ xor_row1 a a' i ∷ xor_row2 a a' i ∷ xor_row3 a a' i
    ∷ xor_row0 b b' i ∷ xor_row1 b b' i ∷ xor_row2 b b' i ∷ xor_row3 b b' i
    ∷ xor_row0 c c' i ∷ xor_row1 c c' i ∷ xor_row2 c c' i ∷ xor_row3 c c' i
    ∷ xor_row0 d d' i ∷ xor_row1 d d' i ∷ xor_row2 d d' i ∷ xor_row3 d d' i
    ∷ []

pub columns_sum : (s t : List ℕ) → Digits 32 4 s → Digits 32 4 t
    → bit_xor (get_or s 0 0) (get_or t 0 0) ∷ bit_xor (get_or s 1 0) (get_or t 1 0) ∷ bit_xor (get_or s 2 0) (get_or t 2 0) ∷ bit_xor (get_or s 3 0) (get_or t 3 0) ∷ [] ≡ columns_of (block_of s ⊕ block_of t)
columns_sum s t p q =
    sym (block_columns (record { len = refl; low = (low 0, (low 1, (low 2, (low 3, tt)))) }))
    ∙ ap columns_of (summed (get_or s 0 0) (get_or s 1 0) (get_or s 2 0) (get_or s 3 0) (get_or t 0 0) (get_or t 1 0) (get_or t 2 0) (get_or t 3 0))
  where
    low : (k : ℕ) → bit_xor (get_or s k 0) (get_or t k 0) < 4294967296
    low k = xor_lt 32 (get_or s k 0) (get_or t k 0) (column_at_lem p k) (column_at_lem q k)

-- ---- columns that are those of a known block: the block they make, and what a sum and a double of them are

pub made : {s : List ℕ} {X : Bytes} → Block X → s ≡ columns_of X → block_of s ≡ X
made p e = ap block_of e ∙ columns_block p

pub sum_of : {s t r : List ℕ} {X Y : Bytes} → Block X → Block Y → s ≡ columns_of X → t ≡ columns_of Y → r ≡ columns_of (block_of s ⊕ block_of t) → r ≡ columns_of (X ⊕ Y)
sum_of p q e f g = g ∙ ap₂ (λ (A B : Bytes). columns_of (A ⊕ B)) (made p e) (made q f)

pub double_of : {s r : List ℕ} {X : Bytes} → Block X → s ≡ columns_of X → r ≡ columns_of (double (block_of s)) → r ≡ columns_of (double X)
double_of p e g = g ∙ ap (λ (A : Bytes). columns_of (double A)) (made p e)
