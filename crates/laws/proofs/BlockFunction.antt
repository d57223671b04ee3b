-- The block function E of Figure 6, line by line, and what the laws above it ask of a block function.
use mathlib.Core.Path.{◌≡◌, refl}
use Prim.Native.Nat.{ℕ, zero, suc, ◌-◌, ◌*◌, ◌≤◌}
use native.Mathlib.Omega.{arith}
use Rattle.paper.specs.Strings.{Bytes, Block, ◌⊕◌}
use Rattle.paper.specs.Section7.{◌·◌, AES4, AES10}
use Rattle.paper.specs.Figure6.{Row, BlockFunction, Key, minus1, row, k0, k1, k2, K10, masked, hash_row, E}

-- it gives a block for a block
abbrev pub GivesBlocks : BlockFunction → Type 0
GivesBlocks f = (r : Row) (j : ℕ) (X : Bytes) → Block X → Block (f r j X)

module _ (K : Key) (X : Bytes) where
  -- 404
  pub E_404 : (j : ℕ) → E K minus1 j X ≡ AES10 (K10 K) (X ⊕ j · K.J)
  unfolding E
  E_404 j = refl

  -- 405
  pub E_405 : (j : ℕ) → E K (row 0) j X ≡ AES4 (k0 K) (X ⊕ j · K.J)
  unfolding E
  E_405 j = refl

  -- 406, at 1 and at 2
  pub E_406_1 : (j : ℕ) → E K (row 1) j X ≡ AES4 (k1 K) (masked K j X)
  unfolding E
  E_406_1 j = refl

  pub E_406_2 : (j : ℕ) → E K (row 2) j X ≡ AES4 (k2 K) (masked K j X)
  unfolding E
  E_406_2 j = refl

  -- 407, 408
  pub E_408 : (i j : ℕ) → 3 ≤ i → 1 ≤ j → E K (row i) j X ≡ AES4 (k0 K) (masked K j X ⊕ ((i - 2) * 8) · K.J)
  unfolding E hash_row
  E_408 zero j h g = absurd (omega arith)
  E_408 (suc zero) j h g = absurd (omega arith)
  E_408 (suc (suc zero)) j h g = absurd (omega arith)
  E_408 (suc (suc (suc i))) zero h g = absurd (omega arith)
  E_408 (suc (suc (suc i))) (suc j) h g = refl

  -- 409
  pub E_409 : (i : ℕ) → 3 ≤ i → E K (row i) 0 X ≡ AES4 (k0 K) (X ⊕ ((i - 2) * 8) · K.J)
  unfolding E hash_row
  E_409 zero h = absurd (omega arith)
  E_409 (suc zero) h = absurd (omega arith)
  E_409 (suc (suc zero)) h = absurd (omega arith)
  E_409 (suc (suc (suc i))) h = refl
