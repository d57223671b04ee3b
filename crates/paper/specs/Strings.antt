-- Strings: section 7 of the AEZ paper, NOTATION, first part, and 01, "Blocks".
-- A byte string is the list of its bytes, each below 256; a bit string the list of its bits, each below 2. The leftmost stands first.
-- Lengths are in bytes for byte strings and in bits for bit strings.
use Rattle.std.specs.Prelude.{Bool, true, false, ◌&&◌, List, [], ◌∷◌, ◌++◌, ◌≡◌, ℕ, zero, suc, ◌+◌, ◌-◌, ◌*◌, ◌/◌, ◌%◌, ◌^◌, ◌<◌, eqb, length, take, drop, replicate}
use Rattle.std.specs.Int.Bits.{bit_xor, bit_or, bit_and}

infixl 66 ◌⊕◌ ◌or◌ ◌and◌
abbrev pub Bytes : Type 0
Bytes = List ℕ

abbrev pub Bits : Type 0
Bits = List ℕ

-- each entry of X is below n
abbrev pub Below : ℕ → List ℕ → Type 0
Below n [] = Unit {0}
Below n (x ∷ X) = (x < n) × Below n X

-- X is a string of n digits of b bits each: `Digits 8 n` is n bytes, `Digits 1 n` is n bits
pub record Digits (b n : ℕ) (X : List ℕ) : Type 0 where
  pub len : length X ≡ n
  pub low : Below (2 ^ b) X

-- a block is 128 bits: 16 bytes
abbrev pub Block : Bytes → Type 0
Block X = Digits 8 16 X

-- X and Y have the same entries
unfoldable pub same : List ℕ → List ℕ → Bool
same [] [] = true
same [] (y ∷ Y) = false
same (x ∷ X) [] = false
same (x ∷ X) (y ∷ Y) = eqb x y && same X Y

-- entry by entry; where the lengths differ, the rightmost entries of the longer one are dropped
unfoldable pub zip : (ℕ → ℕ → ℕ) → List ℕ → List ℕ → List ℕ
zip f [] Y = []
zip f (x ∷ X) [] = []
zip f (x ∷ X) (y ∷ Y) = f x y ∷ zip f X Y

-- X ⊕ Y, X ∨ Y, X ∧ Y: the same on bytes as on their bits, whole bytes being dropped
unfoldable pub ◌⊕◌ : List ℕ → List ℕ → List ℕ
X ⊕ Y = zip bit_xor X Y

unfoldable pub ◌or◌ : List ℕ → List ℕ → List ℕ
X or Y = zip bit_or X Y

unfoldable pub ◌and◌ : List ℕ → List ℕ → List ℕ
X and Y = zip bit_and X Y

-- X and p zeros, p the smallest number such that w divides |X| + p
unfoldable pub zero_fill : ℕ → List ℕ → List ℕ
zero_fill w X = X ++ replicate ((w - length X % w) % w) 0

-- X0*: zeros up to the next multiple of 128 bits
abbrev pub bits0* : Bits → Bits
bits0* X = zero_fill 128 X

-- X10*: one 1 bit, then X0*
unfoldable pub bits10* : Bits → Bits
bits10* X = zero_fill 128 (X ++ 1 ∷ [])

-- X10* of whole bytes: the 1 bit and seven zeros are the byte 80
unfoldable pub pad10* : Bytes → Bytes
pad10* X = zero_fill 16 (X ++ 0x80 ∷ [])

-- the t lowest digits of n to the base b, the highest first
unfoldable pub digits : ℕ → ℕ → ℕ → List ℕ
digits b zero n = []
digits b (suc t) n = digits b t (n / b) ++ n % b ∷ []

-- [n]_128, the 128-bit string representing n mod 2^128, as bits
abbrev pub number_bits : ℕ → Bits
number_bits n = digits 2 128 n

-- [n]_128 as a block: 16 bytes, high byte first
abbrev pub number : ℕ → Bytes
number n = digits 256 16 n

-- the bits of a byte string: [b]_8 for each byte b
unfoldable pub bits : Bytes → Bits
bits [] = []
bits (b ∷ X) = digits 2 8 b ++ bits X

-- the number whose bits are those of a and then X
unfoldable pub value_from : ℕ → Bits → ℕ
value_from a [] = a
value_from a (b ∷ X) = value_from (a * 2 + b) X

-- n bytes from a bit string, eight bits each
unfoldable pub bytes_of : ℕ → Bits → Bytes
bytes_of zero X = []
bytes_of (suc n) X = value_from 0 (take 8 X) ∷ bytes_of n (drop 8 X)

-- the byte string whose bits are X
unfoldable pub bytes : Bits → Bytes
bytes X = bytes_of (length X / 8) X

-- f 1 ⊕ f 2 ⊕ … ⊕ f m, on a block of zeros
unfoldable pub sum : ℕ → (ℕ → Bytes) → Bytes
sum zero f = replicate 16 0
sum (suc m) f = sum m f ⊕ f (suc m)

-- f 1 ‖ f 2 ‖ … ‖ f m
unfoldable pub join : ℕ → (ℕ → Bytes) → Bytes
join zero f = []
join (suc m) f = join m f ++ f (suc m)

-- the n entries f i, f (i + 1), …
abbrev pub tab_from : ℕ → ℕ → (ℕ → ℕ) → List ℕ
tab_from i zero f = []
tab_from i (suc n) f = f i ∷ tab_from (suc i) n f

-- the n entries f 0, f 1, …
abbrev pub tab : ℕ → (ℕ → ℕ) → List ℕ
tab n f = tab_from 0 n f
