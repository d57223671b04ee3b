-- The bytes of a column: a column of four bytes has them as its rows, and what works bit by bit works byte by byte.
use mathlib.Core.Path.{◌≡◌, refl, ap, ◌∙◌}
use Prim.Native.Nat.{ℕ, ◌+◌, ◌*◌, ◌/◌, ◌%◌, ◌^◌, ◌<◌}
use native.Mathlib.Omega.{arith}
use lib.Bits.{bit_xor, xor_shr, xor_mod, xor_lt}
use Rattle.columns.specs.Columns.{row0, row1, row2, row3, column}

-- four bytes
pub record Four (a b c d : ℕ) : Type 0 where
  pub byte0 : a < 256
  pub byte1 : b < 256
  pub byte2 : c < 256
  pub byte3 : d < 256

module _ (w a b c d : ℕ) (e : w ≡ column a b c d) (p : Four a b c d) where
  pub column_row0 : row0 w ≡ a
  column_row0 = omega arith

  pub column_row1 : row1 w ≡ b
  column_row1 = omega arith

  pub column_row2 : row2 w ≡ c
  column_row2 = omega arith

  pub column_row3 : row3 w ≡ d
  column_row3 = omega arith

-- the rows of any number are bytes
pub rows_four : (w : ℕ) → Four (row0 w) (row1 w) (row2 w) (row3 w)
rows_four w = record { byte0 = omega arith; byte1 = omega arith; byte2 = omega arith; byte3 = omega arith }

-- a column is made of its rows: digit by digit to the base 256
digit : (p q : ℕ) → p ≡ q / 256 → p * 256 + q % 256 ≡ q
digit p q e = omega arith

pub column_rows : (w : ℕ) → w < 4294967296 → column (row0 w) (row1 w) (row2 w) (row3 w) ≡ w
column_rows w h =
    let top : w / 16777216 % 256 ≡ w / 65536 / 256 = omega arith in
    let middle : w / 65536 ≡ w / 256 / 256 = omega arith in
    ap (λ (n : ℕ). (n * 256 + row2 w) * 256 + row3 w) (digit _ (w / 65536) top)
    ∙ ap (λ (n : ℕ). n * 256 + row3 w) (digit _ (w / 256) middle)
    ∙ digit _ w refl

module _ (f : ℕ → ℕ → ℕ)
    (block : (k a b r s : ℕ) → r < 2 ^ k → s < 2 ^ k → f (a * 2 ^ k + r) (b * 2 ^ k + s) ≡ f a b * 2 ^ k + f r s) where
  pub by_bytes : (a b c d a' b' c' d' : ℕ) → Four a b c d → Four a' b' c' d'
      → f (column a b c d) (column a' b' c' d') ≡ column (f a a') (f b b') (f c c') (f d d')
  by_bytes a b c d a' b' c' d' p q =
      block 8 ((a * 256 + b) * 256 + c) ((a' * 256 + b') * 256 + c') d d' p.byte3 q.byte3
      ∙ ap (λ (n : ℕ). n * 256 + f d d')
      (block 8 (a * 256 + b) (a' * 256 + b') c c' p.byte2 q.byte2
      ∙ ap (λ (n : ℕ). n * 256 + f c c') (block 8 a a' b b' p.byte1 q.byte1))

pub xor_four : (a b c d a' b' c' d' : ℕ) → Four a b c d → Four a' b' c' d' → Four (bit_xor a a') (bit_xor b b') (bit_xor c c') (bit_xor d d')
xor_four a b c d a' b' c' d' p q = record {
  byte0 = xor_lt 8 a a' p.byte0 q.byte0;
  byte1 = xor_lt 8 b b' p.byte1 q.byte1;
  byte2 = xor_lt 8 c c' p.byte2 q.byte2;
  byte3 = xor_lt 8 d d' p.byte3 q.byte3;
}

module _ (v w : ℕ) where
  pub xor_row0 : row0 (bit_xor v w) ≡ bit_xor (row0 v) (row0 w)
  xor_row0 = ap row3 (xor_shr v w 24) ∙ xor_mod (v / 16777216) (w / 16777216) 8

  pub xor_row1 : row1 (bit_xor v w) ≡ bit_xor (row1 v) (row1 w)
  xor_row1 = ap row3 (xor_shr v w 16) ∙ xor_mod (v / 65536) (w / 65536) 8

  pub xor_row2 : row2 (bit_xor v w) ≡ bit_xor (row2 v) (row2 w)
  xor_row2 = ap row3 (xor_shr v w 8) ∙ xor_mod (v / 256) (w / 256) 8

  pub xor_row3 : row3 (bit_xor v w) ≡ bit_xor (row3 v) (row3 w)
  xor_row3 = xor_mod v w 8
