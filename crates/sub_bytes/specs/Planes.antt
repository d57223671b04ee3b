-- Words by their bits, and a state on bit planes: plane j has bit j of each byte.
use Rattle.std.specs.Prelude.{List, [], ◌∷◌, ℕ, ◌+◌, ◌-◌, ◌*◌, ◌/◌, ◌%◌, ltb, get_or, if◌then◌else◌}
use Rattle.paper.specs.Strings.{Bytes, tab}
use Rattle.paper.specs.Fips197.{bit}
use Rattle.laws.proofs.WordBits.{word_of}
use Rattle.circuit.specs.Planes.{lane}

-- bit k of word w of four words that are turned over in each half-byte: bit w of that half-byte of word k % 4
abbrev pub crossed_bit : List ℕ → ℕ → ℕ → ℕ
crossed_bit s w k = bit (get_or s (k % 4) 0) (k / 4 * 4 + w)

unfoldable pub crossed : List ℕ → List ℕ
crossed s = tab 4 (λ w. word_of 32 (crossed_bit s w))

-- the bits of low half-bytes of a, and of b's low half-bytes as the high ones
abbrev pub joined_bit : (ℕ → ℕ) → (ℕ → ℕ) → ℕ → ℕ
joined_bit a b k = if ltb (k % 8) 4 then a k else b (k - 4)

-- the lane of byte i of the state, which is row i % 4 of column i / 4
abbrev pub place : ℕ → ℕ
place i = 8 * (3 - i % 4) + i / 4

-- the 16 bytes of a state on planes
unfoldable pub plane_bytes : List ℕ → Bytes
plane_bytes q = tab 16 (λ i. lane q (place i))

-- the planes of four crossed words: word w has bit w of every byte in the low half-bytes and bit w + 4 in the high ones. What then stands
-- in the high half-bytes of a plane belongs to no byte
abbrev pub planes_of : List ℕ → List ℕ
planes_of w =
    get_or w 0 0
    ∷ get_or w 1 0
    ∷ get_or w 2 0
    ∷ get_or w 3 0
    ∷ get_or w 0 0 / 16
    ∷ get_or w 1 0 / 16
    ∷ get_or w 2 0 / 16
    ∷ get_or w 3 0 / 16
    ∷ []

-- the 16 bytes of a state on crossed words
unfoldable pub crossed_bytes : List ℕ → Bytes
crossed_bytes w = plane_bytes (planes_of w)
