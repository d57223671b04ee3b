-- The steps of a round on a row: eight words, a word for each plane.
use Rattle.std.specs.Prelude.{List, [], ◌∷◌, ℕ, ◌-◌, ◌*◌, ◌/◌, ◌%◌, ◌^◌, get_or}
use Rattle.std.specs.Int.Bits.{bit_xor, bit_or}
use Rattle.paper.specs.Strings.{tab}

-- each word turned right by n bits
abbrev pub turned_row : List ℕ → ℕ → List ℕ
turned_row a n = tab 8 (λ p. bit_or (get_or a p 0 / 2 ^ n) (get_or a p 0 * 2 ^ (64 - n) % 2 ^ 64))

abbrev pub xor_row : List ℕ → List ℕ → List ℕ
xor_row a b = tab 8 (λ p. bit_xor (get_or a p 0) (get_or b p 0))

-- each byte by x: plane p goes to plane p + 1, and plane 7 to the planes of 1b, which are 0, 1, 3 and 4
abbrev pub doubled_row : List ℕ → List ℕ
doubled_row a =
    let h = get_or a 7 0 in
    h
    ∷ bit_xor (get_or a 0 0) h
    ∷ get_or a 1 0
    ∷ bit_xor (get_or a 2 0) h
    ∷ bit_xor (get_or a 3 0) h
    ∷ get_or a 4 0
    ∷ get_or a 5 0
    ∷ get_or a 6 0
    ∷ []

-- MixColumns for row a, with the rows b, c and d below it: 2(a ⊕ b) ⊕ b is 2a ⊕ 3b
unfoldable pub mixed_row : List ℕ → List ℕ → List ℕ → List ℕ → List ℕ
mixed_row a b c d = xor_row (xor_row (doubled_row (xor_row a b)) b) (xor_row c d)
