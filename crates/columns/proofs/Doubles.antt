-- 2·X by columns: a column is shifted by one bit and takes in the first bit of the next.
use mathlib.Core.List.{List, [], ◌∷◌}
use mathlib.Core.Path.{◌≡◌, ap, ap₂, sym, ◌∙◌}
use Prim.Native.Nat.{ℕ, ◌+◌, ◌*◌, ◌/◌, ◌%◌, ◌<◌}
use native.Mathlib.Omega.{arith}
use lib.Bits.{bit_xor, xor_block, xor_shifted, xor_zero_r}
use lib.ListN.{get_or}
use Rattle.paper.specs.Strings.{Digits}
use Rattle.paper.specs.Section7.{double}
use Rattle.laws.proofs.Multiples.{double_at, double_at_15}
use Rattle.columns.specs.Columns.{row0, row1, row2, row3, column, columns_of, block_of}
use Rattle.columns.proofs.Rows.{Four, rows_four, column_rows}
use Rattle.columns.proofs.Conversions.{column_at_lem, block_of_block}

-- a bit that comes in where a shift has left a zero
byte_bit : (x t : ℕ) → t < 2 → bit_xor (x * 2 % 256) t ≡ x * 2 % 256 + t
byte_bit x t h =
    let even : x * 2 % 256 ≡ x % 128 * 2 = omega arith in
    ap (λ (n : ℕ). bit_xor n t) even ∙ xor_shifted (x % 128) 1 t h ∙ omega arith

column_bit : (w t : ℕ) → t < 2 → bit_xor (w * 2 % 4294967296) t ≡ w * 2 % 4294967296 + t
column_bit w t h =
    let even : w * 2 % 4294967296 ≡ w % 2147483648 * 2 = omega arith in
    ap (λ (n : ℕ). bit_xor n t) even ∙ xor_shifted (w % 2147483648) 1 t h ∙ omega arith

-- four bytes shifted together, and the bit that comes in
shifted : (a b c d t : ℕ) → Four a b c d
    → column (a * 2 % 256 + b / 128) (b * 2 % 256 + c / 128) (c * 2 % 256 + d / 128) (d * 2 % 256 + t) ≡ column a b c d * 2 % 4294967296 + t
shifted a b c d t p =
    let a' : a / 128 * 256 + a * 2 % 256 ≡ a * 2 = omega arith in
    let b' : b / 128 * 256 + b * 2 % 256 ≡ b * 2 = omega arith in
    let c' : c / 128 * 256 + c * 2 % 256 ≡ c * 2 = omega arith in
    let d' : d / 128 * 256 + d * 2 % 256 ≡ d * 2 = omega arith in
    whole (a / 128) (b / 128) (c / 128) (d / 128) (a * 2 % 256) (b * 2 % 256) (c * 2 % 256) (d * 2 % 256) a' b' c' d' (omega arith) (omega arith) (omega arith) (omega arith) (omega arith) (omega arith) (omega arith)
  where
    whole : (e f g h k l m n : ℕ) → e * 256 + k ≡ a * 2 → f * 256 + l ≡ b * 2 → g * 256 + m ≡ c * 2 → h * 256 + n ≡ d * 2
        → k < 255 → l < 255 → m < 255 → n < 255 → f < 2 → g < 2 → h < 2
        → column (k + f) (l + g) (m + h) (n + t) ≡ column a b c d * 2 % 4294967296 + t
    whole e f g h k l m n p q r s x y z u i j o = omega arith

-- a column and the bit that comes in, byte by byte
abbrev front : ℕ → ℕ → ℕ
front w last =
    column (bit_xor (row0 w * 2 % 256) (row1 w / 128)) (bit_xor (row1 w * 2 % 256) (row2 w / 128)) (bit_xor (row2 w * 2 % 256) (row3 w / 128)) last

-- the three first bytes as sums
front_sums : (w last : ℕ)
    → front w last ≡ column (row0 w * 2 % 256 + row1 w / 128) (row1 w * 2 % 256 + row2 w / 128) (row2 w * 2 % 256 + row3 w / 128) last
front_sums w last =
    λ i.
    column
    (byte_bit (row0 w) (row1 w / 128) (omega arith) i)
    (byte_bit (row1 w) (row2 w / 128) (omega arith) i)
    (byte_bit (row2 w) (row3 w / 128) (omega arith) i)
    last

module _ (w : ℕ) (h : w < 4294967296) (t : ℕ) (b : t < 2) where
  -- the bit t in the last place
  with_bit_lem : front w (bit_xor (row3 w * 2 % 256) t) ≡ bit_xor (w * 2 % 4294967296) t
  with_bit_lem =
      ap (front w) (byte_bit (row3 w) t b)
      ∙ front_sums w (row3 w * 2 % 256 + t)
      ∙ shifted (row0 w) (row1 w) (row2 w) (row3 w) t (rows_four w)
      ∙ ap (λ (n : ℕ). n * 2 % 4294967296 + t) (column_rows w h)
      ∙ sym (column_bit w t b)

  -- 135 of the bit t in the last byte
  with_135 : front w (bit_xor (row3 w * 2 % 256) (t * 135)) ≡ bit_xor (w * 2 % 4294967296) (t * 135)
  with_135 =
      let high = (row0 w * 2 % 256 + row1 w / 128) * 65536 + (row1 w * 2 % 256 + row2 w / 128) * 256 + (row2 w * 2 % 256 + row3 w / 128) in
      let low = row3 w * 2 % 256 in
      let whole : w * 2 % 4294967296 ≡ high * 256 + low =
      ap (λ (n : ℕ). n * 2 % 4294967296) (sym (column_rows w h))
      ∙ omega (arith, shifted (row0 w) (row1 w) (row2 w) (row3 w) 0 (rows_four w)) in
      let alone : t * 135 ≡ 0 * 256 + t * 135 = omega arith in
      sym (
      ap₂ bit_xor whole alone
      ∙ xor_block 8 high 0 low (t * 135) (omega arith) (omega arith)
      ∙ ap (λ (n : ℕ). n * 256 + bit_xor low (t * 135)) (xor_zero_r high)
      ∙ omega arith
      ∙ sym (front_sums w (bit_xor low (t * 135))))

-- the first bit of a column
first_bit : (w : ℕ) → w < 4294967296 → row0 w / 128 ≡ w / 2147483648
first_bit w h = omega arith

module _ (s : List ℕ) (p : Digits 32 4 s) where
  abbrev a : ℕ
  a = get_or s 0 0

  abbrev b : ℕ
  b = get_or s 1 0

  abbrev c : ℕ
  c = get_or s 2 0

  abbrev d : ℕ
  d = get_or s 3 0

  at : (k : ℕ) → k < 15 → get_or (double (block_of s)) k 0 ≡ bit_xor (get_or (block_of s) k 0 * 2 % 256) (get_or (block_of s) (k + 1) 0 / 128)
  at k h = double_at (block_of s) (block_of_block s) k h

  -- a column and the next
  next : (w v : ℕ) → w < 4294967296 → v < 4294967296 → front w (bit_xor (row3 w * 2 % 256) (row0 v / 128)) ≡ bit_xor (w * 2 % 4294967296) (v / 2147483648)
  next w v h g = with_bit_lem w h (row0 v / 128) (omega arith) ∙ ap (bit_xor (w * 2 % 4294967296)) (first_bit v g)

  pub doubled : bit_xor (a * 2 % 4294967296) (b / 2147483648)
      ∷ bit_xor (b * 2 % 4294967296) (c / 2147483648)
      ∷ bit_xor (c * 2 % 4294967296) (d / 2147483648)
      ∷ bit_xor (d * 2 % 4294967296) (a / 2147483648 * 135)
      ∷ []
      ≡ columns_of (double (block_of s))
  doubled =
      let one = (λ i. column (at 0 (omega arith) i) (at 1 (omega arith) i) (at 2 (omega arith) i) (at 3 (omega arith) i)) ∙ next a b (column_at_lem p 0) (column_at_lem p 1) in
      let two = (λ i. column (at 4 (omega arith) i) (at 5 (omega arith) i) (at 6 (omega arith) i) (at 7 (omega arith) i)) ∙ next b c (column_at_lem p 1) (column_at_lem p 2) in
      let three = (λ i. column (at 8 (omega arith) i) (at 9 (omega arith) i) (at 10 (omega arith) i) (at 11 (omega arith) i)) ∙ next c d (column_at_lem p 2) (column_at_lem p 3) in
      let four =
      (λ i. column (at 12 (omega arith) i) (at 13 (omega arith) i) (at 14 (omega arith) i) (double_at_15 (block_of s) (block_of_block s) i))
      ∙ with_135 d (column_at_lem p 3) (row0 a / 128) (omega arith)
      ∙ ap (λ (n : ℕ). bit_xor (d * 2 % 4294967296) (n * 135)) (first_bit a (column_at_lem p 0)) in
      sym (λ i. one i ∷ two i ∷ three i ∷ four i ∷ [])
