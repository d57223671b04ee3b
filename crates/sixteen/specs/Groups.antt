-- A group on planes by its rows: a row slot is eight words, a word for each plane.
use Rattle.std.specs.Prelude.{List, [], ◌∷◌, ℕ, ◌+◌, ◌*◌, ◌/◌, ◌%◌, get_or}
use Rattle.std.specs.Int.Bits.{bit_xor}
use Rattle.paper.specs.Strings.{tab}

-- row slot j of a group, which is row 3 - j
abbrev pub row_of : List ℕ → ℕ → List ℕ
row_of q j = tab 8 (λ p. get_or q (4 * p + j) 0)

-- the group of four rows
unfoldable pub of_rows : List ℕ → List ℕ → List ℕ → List ℕ → List ℕ
of_rows a b c d = tab 32 (λ i. get_or (get_or (d ∷ c ∷ b ∷ a ∷ []) (i % 4) []) (i / 4) 0)

-- word by word
unfoldable pub xor_planes : List ℕ → List ℕ → List ℕ
xor_planes q k = tab 32 (λ i. bit_xor (get_or q i 0) (get_or k i 0))
