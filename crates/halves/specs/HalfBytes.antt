-- Half-bytes: a half of n bytes is n half-bytes, whether n is even or odd.
use Rattle.std.specs.Prelude.{List, [], ◌∷◌, ℕ, ◌+◌, ◌*◌, ◌/◌, ◌%◌}
use Rattle.paper.specs.Strings.{Bytes}

-- the two half-bytes of each byte, the higher first
unfoldable pub half_bytes : Bytes → List ℕ
half_bytes [] = []
half_bytes (b ∷ X) = b / 16 ∷ b % 16 ∷ half_bytes X

-- the byte of two half-bytes
abbrev pub byte_of : ℕ → ℕ → ℕ
byte_of h l = h % 16 * 16 + l % 16

-- a byte of every two half-bytes
unfoldable pub whole_bytes : List ℕ → Bytes
whole_bytes [] = []
whole_bytes (h ∷ []) = []
whole_bytes (h ∷ l ∷ X) = byte_of h l ∷ whole_bytes X
