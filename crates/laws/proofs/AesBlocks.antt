-- The AES round returns bytes: a round, and AES under a list of keys, take blocks to blocks.
use mathlib.Core.Bool.{Bool, true, false}
use mathlib.Core.List.{List, [], ◌∷◌, map}
use mathlib.Core.Path.{refl}
use Prim.Native.Nat.{ℕ, zero, suc, ◌+◌, ◌*◌, ◌/◌, ◌%◌, ◌<◌}
use native.Mathlib.Nat.{mod-lt, zero-lt-suc}
use native.Mathlib.Omega.{arith}
use lib.Bits.{bit_xor, xor_lt}
use lib.Dec.{eqb}
use Rattle.std.specs.Prelude.{if◌then◌else◌}
use Rattle.paper.specs.Strings.{Bytes, Below, Digits, Block, tab_from}
use Rattle.paper.specs.Fips197.{xtime, mul_bits, ◌•◌, affine, sbox, at, SubBytes, ShiftRows, mix_column, mixed, MixColumns}
use Rattle.paper.specs.Section7.{aesenc, rounds, AES}
use Rattle.laws.proofs.Digits.{⊕_digits, append_digits, below_get_or}

-- ---- the field and the S-box

-- eight bits, each at its place, are a byte
eight : (a b c d e f g h : ℕ) → a < 2 → b < 2 → c < 2 → d < 2 → e < 2 → f < 2 → g < 2 → h < 2
    → a * 1 + (b * 2 + (c * 4 + (d * 8 + (e * 16 + (f * 32 + (g * 64 + (h * 128 + 0))))))) < 256
eight a b c d e f g h p q r s t u v w = omega arith

bit_lt : (n : ℕ) → n % 2 < 2
bit_lt n = mod-lt n (zero-lt-suc 1)

affine_byte : (b : ℕ) → affine b < 256
unfolding affine
affine_byte b = eight _ _ _ _ _ _ _ _ (bit_lt _) (bit_lt _) (bit_lt _) (bit_lt _) (bit_lt _) (bit_lt _) (bit_lt _) (bit_lt _)

pub sbox_byte : (x : ℕ) → sbox x < 256
unfolding sbox
sbox_byte x = affine_byte _

-- x times any number is a byte
pub xtime_byte : (b : ℕ) → xtime b < 256
xtime_byte b = go (eqb (b / 128) 0)
  where
    low : b * 2 % 256 < 256
    low = mod-lt (b * 2) (zero-lt-suc 255)

    go : (t : Bool) → (if t then b * 2 % 256 else bit_xor (b * 2 % 256) 27) < 256
    go true = low
    go false = xor_lt 8 (b * 2 % 256) 27 low (omega arith)

mul_byte : (n a b : ℕ) → b < 256 → mul_bits n a b < 256
unfolding mul_bits
mul_byte zero a b h = omega arith
mul_byte (suc n) a b h = go (eqb (a % 2) 0) (xtime (mul_bits n (a / 2) b)) (xtime_byte (mul_bits n (a / 2) b))
  where
    go : (t : Bool) (y : ℕ) → y < 256 → (if t then y else bit_xor y b) < 256
    go true y p = p
    go false y p = xor_lt 8 y b p h

-- a multiple of a byte is a byte
•_byte : (a b : ℕ) → b < 256 → a • b < 256
unfolding ◌•◌
•_byte a b h = mul_byte 8 a b h

-- ---- the steps of a round

pub sub_bytes : (s : Bytes) → Below 256 (map sbox s)
sub_bytes [] = tt
sub_bytes (b ∷ s) = (sbox_byte b, sub_bytes s)

-- the entries of a table are bytes where its function gives bytes
tab_bytes : (i n : ℕ) (g : ℕ → ℕ) → ((j : ℕ) → g j < 256) → Below 256 (tab_from i n g)
tab_bytes i zero g h = tt
tab_bytes i (suc n) g h = (h i, tab_bytes (suc i) n g h)

-- an entry of a state of bytes
at_byte : (s : Bytes) (r c : ℕ) → Below 256 s → at s r c < 256
at_byte s r c p = below_get_or 256 (r + 4 * c) s (zero-lt-suc 255) p

shift_rows : (s : Bytes) → Below 256 s → Below 256 (ShiftRows s)
unfolding ShiftRows
shift_rows s p = tab_bytes 0 16 (λ i. at s (i % 4) ((i / 4 + i % 4) % 4)) (λ i. at_byte s (i % 4) ((i / 4 + i % 4) % 4) p)

four : (a b c d : ℕ) → a < 256 → b < 256 → c < 256 → d < 256 → bit_xor (bit_xor (bit_xor a b) c) d < 256
four a b c d p q r s = xor_lt 8 (bit_xor (bit_xor a b) c) d (xor_lt 8 (bit_xor a b) c (xor_lt 8 a b p q) r) s

-- a column of bytes gives four bytes
mix_column_lem : (a b c d : ℕ) → a < 256 → b < 256 → c < 256 → d < 256 → Digits 8 4 (mix_column a b c d)
mix_column_lem a b c d p q r s = record {
  len = refl;
  low = (
    four (2 • a) (3 • b) c d (•_byte 2 a p) (•_byte 3 b q) r s,
    (
      four a (2 • b) (3 • c) d p (•_byte 2 b q) (•_byte 3 c r) s,
      (
        four a b (2 • c) (3 • d) p q (•_byte 2 c r) (•_byte 3 d s),
        (four (3 • a) b c (2 • d) (•_byte 3 a p) q r (•_byte 2 d s), tt),
      ),
    ),
  );
}

mix_block : (s : Bytes) → Below 256 s → Block (MixColumns s)
unfolding MixColumns
mix_block s p = append_digits (column 0) (append_digits (column 1) (append_digits (column 2) (column 3)))
  where
    column : (c : ℕ) → Digits 8 4 (mixed s c)
    column c =
        mix_column_lem (at s 0 c) (at s 1 c) (at s 2 c) (at s 3 c) (at_byte s 0 c p) (at_byte s 1 c p) (at_byte s 2 c p) (at_byte s 3 c p)

-- ---- rounds

pub aesenc_block : {X K : Bytes} → Block X → Block K → Block (aesenc X K)
unfolding aesenc SubBytes
aesenc_block {X} p q = ⊕_digits (mix_block (ShiftRows (map sbox X)) (shift_rows (map sbox X) (sub_bytes X))) q (omega arith)

-- every string of a list is a block
abbrev pub AllBlocks : List Bytes → Type 0
AllBlocks [] = Unit {0}
AllBlocks (K ∷ Ks) = Block K × AllBlocks Ks

rounds_block : (Ks : List Bytes) {X : Bytes} → AllBlocks Ks → Block X → Block (rounds Ks X)
unfolding rounds
rounds_block [] p q = q
rounds_block (K ∷ Ks) p q = rounds_block Ks p.1 (aesenc_block q p.0)

pub AES_block : (Ks : List Bytes) {X : Bytes} → AllBlocks Ks → Block X → Block (AES Ks X)
unfolding AES
AES_block [] p q = q
AES_block (K ∷ Ks) p q = rounds_block Ks p.1 (⊕_digits q p.0 (omega arith))
