-- The row that a pair names, and E at a pair; that the table's pairs are 01's; and which pairs are in the figure's domain.
use mathlib.Core.Path.{◌≡◌, refl, ap, subst}
use Prim.Native.Nat.{ℕ, zero, suc, ◌+◌, ◌≤◌}
use native.Mathlib.Omega.{arith}
use Rattle.paper.specs.Strings.{Bytes}
use Rattle.paper.specs.Figure6.{Row, minus1, row, Key, Defined, E}
use Rattle.paper.specs.Document01.{aᵢ, aaᵢ, hash}
use Rattle.pairs.specs.Meaning.{pair, pair_of, first, rows_on, named_row, named, row_of, Plain}
use Rattle.pairs.specs.declared.Pair.{Pair}
use Rattle.pairs.specs.declared.Row.{Row as First}
use Rattle.pairs.specs.declared.Row.TheVariants.{MinusOne, Is}

pub row_of_lem : (p : Pair) (n : ℕ) → p.row ≡ Is n → row_of p ≡ row n
row_of_lem p n e = ap named_row e

-- a first index that has a number is that row
pub counted_row : (r : First) → 1 ≤ first r → r ≡ Is (first r)
counted_row MinusOne h = absurd (omega arith)
counted_row (Is j) h = refl

-- E of a pair that names row -1, and of one that names row n
pub in_minus1 : (K : Key) (X : Bytes) (p : Pair) → p.row ≡ MinusOne → E K (row_of p) p.number X ≡ E K minus1 p.number X
in_minus1 K X p e = ap (λ (r : First). E K (named_row r) p.number X) e

pub in_row : (K : Key) (X : Bytes) (p : Pair) (n : ℕ) → p.row ≡ Is n → E K (row_of p) p.number X ≡ E K (row n) p.number X
in_row K X p n e = ap (λ (r : First). E K (named_row r) p.number X) e

-- a plain pair: its number is below 8, and its row is -1 or 0
pub plain_small : (r : Row) (j : ℕ) → Plain r j → j ≤ 7
plain_small minus1 j h = h
plain_small (row zero) j h = h
plain_small (row (suc i)) j h = absurd h

plain_zero : (i j : ℕ) → Plain (row i) j → i ≡ 0
plain_zero zero j h = refl
plain_zero (suc i) j h = absurd h

pub in_row_0 : (p : Pair) (n : ℕ) → Plain (row_of p) p.number → p.row ≡ Is n → n ≡ 0
in_row_0 p n h e = plain_zero n p.number (subst (λ (r : First). Plain (named_row r) p.number) e h)

-- E of a pair that a call returned
pub at_pair : (p : Pair) (r : First) (j : ℕ) → p ≡ pair r j → (K : Key) (X : Bytes) → E K (row_of p) p.number X ≡ E K (named_row r) j X
at_pair p r j e K X = ap (λ (q : Pair). E K (row_of q) q.number X) e

-- the pair of two indices stands for them, so that `table` is 01's
pub first_index : (r : Row) (i : ℕ) → row_of (pair_of r i) ≡ r
first_index minus1 i = refl
first_index (row j) i = refl

pub second_index : (r : Row) (i : ℕ) → (pair_of r i).number ≡ i
second_index minus1 i = refl
second_index (row j) i = refl

-- what `at` and `string` make of the rows that count is 01's pair for every number
pub at_aᵢ : (i : ℕ) → pair (named (aᵢ 0)).row i ≡ named (aᵢ i)
at_aᵢ i = refl

pub at_aaᵢ : (i : ℕ) → pair (named (aaᵢ 0)).row i ≡ named (aaᵢ i)
at_aaᵢ i = refl

pub string_at : (s b : ℕ) → pair (rows_on (named (hash 0 0)).row s) b ≡ named (hash s b)
string_at s b = let e : 2 + s ≡ s + 2 = omega arith in ap (λ (j : ℕ). pair (Is j) b) e

-- ---- every call of E is one that the figure defines

pub plain_defined : (r : Row) (j : ℕ) → Plain r j → Defined r j
plain_defined minus1 j h = h
plain_defined (row zero) j h = h
plain_defined (row (suc i)) j h = absurd h

pub counted_defined : (i j : ℕ) → 1 ≤ i → 1 ≤ j → Defined (row i) j
counted_defined zero j g h = absurd (omega arith)
counted_defined (suc zero) j g h = h
counted_defined (suc (suc zero)) j g h = h
counted_defined (suc (suc (suc i))) j g h = tt
