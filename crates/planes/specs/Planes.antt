-- Sixteen blocks on bit planes, and the words that are turned over to get there.
use Rattle.std.specs.Prelude.{List, [], ◌∷◌, map, ℕ, ◌+◌, ◌-◌, ◌*◌, ◌/◌, ◌%◌, eqb, ltb, get_or, if◌then◌else◌}
use Rattle.paper.specs.Strings.{Bytes, tab}
use Rattle.paper.specs.Fips197.{bit}
use Rattle.laws.proofs.WordBits.{number}
use Rattle.levels.specs.Levels.{bits_of, words_of}

-- ---- a group on planes: 32 words of 64 bits, four to a plane. Word 4 p + j has bit p of each byte of row 3 - j.

-- the byte at place k of row slot j: its bit p is bit k of word 4 p + j
unfoldable pub lane : List ℕ → ℕ → ℕ → ℕ
lane q j k = number (tab 8 (λ p. bit (get_or q (4 * p + j) 0) k))

-- the block in place s, which is below 16: byte i is in row i % 4 of column i / 4, and column c stands in the bits from 16 c on
unfoldable pub plane_block : List ℕ → ℕ → Bytes
plane_block q s = tab 16 (λ i. lane q (3 - i % 4) (16 * (i / 4) + s))

-- the place of block b
abbrev pub place_of : ℕ → ℕ
place_of b = 8 * (b % 2) + b / 2

-- the numbers below n
abbrev pub up_to : ℕ → List ℕ
up_to n = tab n (λ b. b)

-- the sixteen blocks
unfoldable pub plane_blocks : List ℕ → List Bytes
plane_blocks q = map (λ b. plane_block q (place_of b)) (up_to 16)

-- ---- the words of sixteen blocks, which turned over are their planes (`levels`)

-- the bits of a, and above them those of b
abbrev pub joined_bit : (ℕ → ℕ) → (ℕ → ℕ) → ℕ → ℕ
joined_bit a b k = if ltb k 32 then a k else b (k - 32)

-- column c of block b
abbrev pub column_of : List (List ℕ) → ℕ → ℕ → ℕ
column_of g b c = get_or (get_or g b []) c 0

-- the words of sixteen blocks: word 4 i + 2 c + e has column c of block 2 i + e, and above it column c + 2
abbrev pub group_bit : List (List ℕ) → ℕ → ℕ → ℕ → ℕ
group_bit g b c = joined_bit (bit (column_of g b c)) (bit (column_of g b (c + 2)))

unfoldable pub group_words : List (List ℕ) → List ℕ
group_words g = words_of (λ i. group_bit g (2 * (i / 4) + i % 2) (i / 2 % 2))

-- the columns of a block, by the two words that have them
abbrev pub columns_in : ℕ → ℕ → List ℕ
columns_in x y = x % 4294967296 ∷ y % 4294967296 ∷ x / 4294967296 % 4294967296 ∷ y / 4294967296 % 4294967296 ∷ []

-- the sixteen blocks of their words
abbrev pub group_block : List ℕ → ℕ → List ℕ
group_block w b =
    let at = b / 2 * 4 + b % 2 in
    columns_in (get_or w at 0) (get_or w (at + 2) 0)

unfoldable pub group_of : List ℕ → List (List ℕ)
group_of w = map (group_block w) (up_to 16)

-- ---- sixteen times the same block

-- bit n of x and of y, and the bits that stand 32 above them, each sixteen times: those of x first
abbrev pub spread_bit : (ℕ → ℕ) → (ℕ → ℕ) → ℕ → ℕ → ℕ
spread_bit x y n k = if eqb (k / 16 % 2) 0 then x (n + 32 * (k / 32)) else y (n + 32 * (k / 32))

-- a block on planes, in every place: each bit of column c stands in all the places of that column
abbrev pub copied_bit : (ℕ → ℕ → ℕ) → ℕ → ℕ → ℕ
copied_bit f i k = f (k / 16) (8 * (i % 4) + i / 4)

unfoldable pub copied : List ℕ → List ℕ
copied s = words_of (copied_bit (bits_of s))
