-- FIPS 197, with the sections of the edition of 2001: the field, the S-box by its rule, and three of the four steps of a round. The
-- fourth, AddRoundKey, is the xor of strings.
-- A byte is the number below 256 whose bit i is the coefficient of x^i. The sum of two bytes is their exclusive or (4.1).
use Rattle.std.specs.Prelude.{[], ◌∷◌, ◌++◌, map, ℕ, zero, suc, ◌+◌, ◌*◌, ◌/◌, ◌%◌, ◌^◌, eqb, get_or, if◌then◌else◌}
use Rattle.std.specs.Int.Bits.{bit_xor}
use Rattle.paper.specs.Strings.{Bytes, tab}

infixl 70 ◌•◌
infixl 66 ◌+b◌
-- 4.1: the sum of two bytes
abbrev pub ◌+b◌ : ℕ → ℕ → ℕ
a +b b = bit_xor a b

-- 4.2.1: b by x: a left shift and, where the bit that is lost was 1, the sum with 1b
abbrev pub xtime : ℕ → ℕ
xtime b = if eqb (b / 128) 0 then b * 2 % 256 else (b * 2 % 256) +b 0x1b

-- 4.2, 4.2.1: a by b, by the n low bits of a: (2a' + 0)•b = x·(a'•b) and (2a' + 1)•b = x·(a'•b) + b
unfoldable pub mul_bits : ℕ → ℕ → ℕ → ℕ
mul_bits zero a b = 0
mul_bits (suc n) a b =
    if eqb (a % 2) 0 then xtime (mul_bits n (a / 2) b) else xtime (mul_bits n (a / 2) b) +b b

unfoldable pub ◌•◌ : ℕ → ℕ → ℕ
a • b = mul_bits 8 a b

-- 4.2: the inverse, and 0 for 0. The field has 255 units, so it is the power 254 = 2 + 4 + .. + 128: the product of seven squares, each
-- of the one before
unfoldable pub squares : ℕ → ℕ → ℕ
squares zero b = 1
squares (suc n) b = let c = b • b in c • squares n c

unfoldable pub inverse : ℕ → ℕ
inverse b = squares 7 b

-- 5.1.1: bit i of b
abbrev pub bit : ℕ → ℕ → ℕ
bit b i = b / 2 ^ i % 2

-- 5.1.1: bit i of the affine step of b: b_i + b_(i+4 mod 8) + b_(i+5 mod 8) + b_(i+6 mod 8) + b_(i+7 mod 8) + c_i, with c = 63
abbrev pub affine_bit : ℕ → ℕ → ℕ
affine_bit b i =
    (bit b i + bit b ((i + 4) % 8) + bit b ((i + 5) % 8) + bit b ((i + 6) % 8) + bit b ((i + 7) % 8) + bit 0x63 i) % 2

-- the n bits from bit i on, each at its place
abbrev pub affine_from : ℕ → ℕ → ℕ → ℕ
affine_from zero i b = 0
affine_from (suc n) i b = affine_bit b i * 2 ^ i + affine_from n (suc i) b

unfoldable pub affine : ℕ → ℕ
affine b = affine_from 8 0 b

-- 5.1.1: the S-box
unfoldable pub sbox : ℕ → ℕ
sbox b = affine (inverse b)

-- 3.4: row r, column c of the state is byte r + 4c
abbrev pub at : Bytes → ℕ → ℕ → ℕ
at s r c = get_or s (r + 4 * c) 0

-- the state whose row r, column c is f r c
abbrev pub state : (ℕ → ℕ → ℕ) → Bytes
state f = tab 16 (λ i. f (i % 4) (i / 4))

-- 5.1.1: each byte by the S-box
unfoldable pub SubBytes : Bytes → Bytes
SubBytes s = map sbox s

-- 5.1.2: s'[r, c] = s[r, (c + r) mod 4]
unfoldable pub ShiftRows : Bytes → Bytes
ShiftRows s = state (λ r c. at s r ((c + r) % 4))

-- 5.1.3: a column of four bytes
abbrev pub mix_column : ℕ → ℕ → ℕ → ℕ → Bytes
mix_column s0 s1 s2 s3 =
    (2 • s0 +b 3 • s1 +b s2 +b s3)
    ∷ (s0 +b 2 • s1 +b 3 • s2 +b s3)
    ∷ (s0 +b s1 +b 2 • s2 +b 3 • s3)
    ∷ (3 • s0 +b s1 +b s2 +b 2 • s3)
    ∷ []

-- 5.1.3: column c of the state
abbrev pub mixed : Bytes → ℕ → Bytes
mixed s c = mix_column (at s 0 c) (at s 1 c) (at s 2 c) (at s 3 c)

unfoldable pub MixColumns : Bytes → Bytes
MixColumns s = mixed s 0 ++ mixed s 1 ++ mixed s 2 ++ mixed s 3
