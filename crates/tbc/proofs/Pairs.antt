-- A pair whose number counts, with its power of L: that E's function can be asked for it, and that it is within the figure's domain.
use mathlib.Core.List.{List}
use mathlib.Core.Path.{◌≡◌, subst⁻¹}
use Prim.Native.Nat.{ℕ, ◌-◌, ◌/◌, ◌≤◌}
use Rattle.paper.specs.Section7.{two_to}
use Rattle.paper.specs.Figure6.{Row, Defined}
use Rattle.columns.specs.Columns.{columns_of}
use Rattle.pairs.specs.Meaning.{pair, first, row_of}
use Rattle.pairs.specs.declared.Pair.{Pair}
use Rattle.pairs.specs.declared.Row.TheVariants.{Is}
use Rattle.pairs.proofs.Pairs.{row_of_lem, counted_row, counted_defined}
use Rattle.tbc.specs.Meaning.{base, Running}
use Rattle.tbc.specs.declared.Base.{Base}

-- the number j of a row from 1 on, with its power of L
pub running : (p : Pair) (i j : ℕ) → p ≡ pair (Is i) j → (k : Base) (power : List ℕ) → 1 ≤ i → 1 ≤ j → power ≡ columns_of (two_to ((j - 1) / 8) (base k).L) → Running k p power
running p i j e k power g h c =
    subst⁻¹ (λ (q : Pair). Running k q power) e
    (record { counted = g; from1 = h; carried = c })

pub running_defined : (k : Base) (p : Pair) (power : List ℕ) → Running k p power → Defined (row_of p) p.number
running_defined k p power h =
    subst⁻¹ (λ (r : Row). Defined r p.number) (row_of_lem p (first p.row) (counted_row p.row h.counted)) (counted_defined (first p.row) p.number h.counted h.from1)
