-- What a pair of `pairs` stands for in Figure 6, and the pairs of 01's table.
use Rattle.std.specs.Prelude.{List, [], ◌∷◌, map, ℕ, zero, suc, ◌+◌, ◌≤◌}
use Rattle.paper.specs.Figure6.{Row, minus1, row}
use Rattle.paper.specs.Document01.{Use, a, aᵢ, aaᵢ, x, y, xx, yy, u, v, uu, vv, tiny, tiny_last, prf, hash, indices}
use Rattle.pairs.specs.declared.Pair.{Pair}
use Rattle.pairs.specs.declared.Row.{Row as First}
use Rattle.pairs.specs.declared.Row.TheVariants.{MinusOne, Is}

-- a pair of indices
abbrev pub pair : First → ℕ → Pair
pair r i = record { row = r; number = i }

-- the number of a first index; -1 has none, and 0 stands for it where a contract asks for a number
abbrev pub first : First → ℕ
first MinusOne = 0
first (Is j) = j

-- the first index that is s rows on; -1 stays
abbrev pub rows_on : First → ℕ → First
rows_on MinusOne s = MinusOne
rows_on (Is j) s = Is (j + s)

-- the row of Figure 6 that a first index names
abbrev pub named_row : First → Row
named_row MinusOne = minus1
named_row (Is j) = row j

-- the first index of a pair
abbrev pub row_of : Pair → Row
row_of p = named_row p.row

-- the pair of two indices
abbrev pub pair_of : Row → ℕ → Pair
pair_of minus1 i = pair MinusOne i
pair_of (row j) i = pair (Is j) i

-- the pair of a use, by 01's table
abbrev pub named : Use → Pair
named e = pair_of (indices e).0 (indices e).1

-- the table in 01's order, and the hash's row. A row whose number counts has 0 for it, and so has the hash's for the string
abbrev pub index_pairs : List Pair
index_pairs =
    map named (a ∷ aᵢ 0 ∷ aaᵢ 0 ∷ x ∷ y ∷ xx ∷ yy ∷ u ∷ v ∷ uu ∷ vv ∷ tiny 16 ∷ tiny 15 ∷ tiny_last ∷ prf ∷ hash 0 0 ∷ [])

-- the pairs whose mask is one multiple of J below 8: lines 404 and 405, where the figure defines them
abbrev pub Plain : Row → ℕ → Type 0
Plain minus1 j = j ≤ 7
Plain (row zero) j = j ≤ 7
Plain (row (suc i)) j = ⊥
