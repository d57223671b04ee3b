-- What the struct `Base` stands for in Figure 6, and what E takes beside it.
use Rattle.std.specs.Prelude.{List, [], ◌∷◌, ◌≡◌, ℕ, ◌-◌, ◌/◌, ◌≤◌, replicate}
use Rattle.paper.specs.Section7.{two_to}
use Rattle.paper.specs.Figure6 as figure6
use Rattle.columns.specs.Columns.{columns_of}
use Rattle.sub_bytes.specs.Planes.{crossed, crossed_bytes}
use Rattle.multiples.specs.Eight.{multiples}
use Rattle.pairs.specs.Meaning.{first}
use Rattle.pairs.specs.declared.Pair.{Pair}
use Rattle.tbc.specs.declared.Base.{Base}

-- the three blocks of a base, which has them as crossed words
abbrev pub base : Base → figure6.Key
base k = record { I = crossed_bytes k.i; J = crossed_bytes k.j; L = crossed_bytes k.l }

abbrev pub base_of : figure6.Key → Base
base_of K = record { i = crossed (columns_of K.I); j = crossed (columns_of K.J); l = crossed (columns_of K.L) }

-- m is 0·J to 7·J, taken out of the record and lent beside its base
abbrev pub OfJ : Base → List ℕ → Type 0
OfJ k m = m ≡ multiples (base k).J

-- the columns of k0 with a mask for the first key, which is zero there
abbrev pub masked0 : Base → List ℕ → List (List ℕ)
masked0 k mask = mask ∷ k.i ∷ k.j ∷ k.l ∷ replicate 4 0 ∷ []

-- the pair whose second index counts up from 1 in a row from 1 on, and the power of L that goes with it
pub record Running (k : Base) (p : Pair) (power : List ℕ) : Type 0 where
  pub counted : 1 ≤ first p.row
  pub from1 : 1 ≤ p.number
  pub carried : power ≡ columns_of (two_to ((p.number - 1) / 8) (base k).L)
