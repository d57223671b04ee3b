-- The steps of a round on crossed words (`sub_bytes/specs/Planes`): bit 8 (3 - r) + 4 h + c of word w is bit w + 4 h of the byte in row r
-- and column c.
use Rattle.std.specs.Prelude.{List, [], ◌∷◌, map, ℕ, ◌+◌, ◌-◌, ◌*◌, ◌/◌, ◌%◌, eqb, get_or, drop, if◌then◌else◌}
use Rattle.std.specs.Int.Bits.{bit_xor, bit_and, bit_or}
use Rattle.paper.specs.Strings.{Bytes, tab}
use Rattle.paper.specs.Fips197.{bit}
use Rattle.laws.proofs.WordBits.{word_of}
use Rattle.columns.specs.Columns.{block_of}
use Rattle.sub_bytes.specs.Planes.{crossed_bytes}

-- the bits of b where m has a 1, and those of a elsewhere
abbrev pub picked_bit : ℕ → (ℕ → ℕ) → (ℕ → ℕ) → ℕ → ℕ
picked_bit m a b k = if eqb (bit m k) 0 then a k else b k

-- ShiftRows: in row r, what column c + r was becomes column c
abbrev pub shifted_bit : (ℕ → ℕ) → ℕ → ℕ
shifted_bit f k = f (k / 4 * 4 + (k % 4 + (3 - k / 8)) % 4)

unfoldable pub shifted_word : ℕ → ℕ
shifted_word x = word_of 32 (shifted_bit (bit x))

-- sums
abbrev pub xor_words : List ℕ → List ℕ → List ℕ
xor_words a b = tab 4 (λ j. bit_xor (get_or a j 0) (get_or b j 0))

-- the row below, in the place of each row
abbrev pub below_word : ℕ → ℕ
below_word w = bit_or (w * 256 % 4294967296) (w / 16777216)

abbrev pub below_words : List ℕ → List ℕ
below_words t = tab 4 (λ j. below_word (get_or t j 0))

-- each byte by 2: a bit becomes the next one, and bit 7 comes into bits 0, 1, 3 and 4
abbrev pub doubled_words : List ℕ → List ℕ
doubled_words p =
    let last = get_or p 3 0 in
    let lost = bit_and (last / 16) 0x0f0f0f0f in
    bit_xor lost (bit_and (bit_xor (last * 16 % 4294967296) last) 0xf0f0f0f0) ∷ bit_xor (get_or p 0 0) lost ∷ get_or p 1 0 ∷ bit_xor (get_or p 2 0) lost ∷ []

-- the keys of a list of which the first is columns and the others are crossed
abbrev pub keys_of : List (List ℕ) → List Bytes
keys_of k = block_of (get_or k 0 []) ∷ map crossed_bytes (drop 1 k)
