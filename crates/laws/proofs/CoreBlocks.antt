-- AEZ-core keeps lengths and bytes: each of its values is a block, the u and v parts keep their lengths, and the result has these parts.
use mathlib.Core.Bool.{Bool, true, false}
use mathlib.Core.List.{[], ◌++◌}
use mathlib.Core.Path.{◌≡◌, refl, ap, sym, subst⁻¹}
use Prim.Native.Nat.{ℕ, ◌-◌, ◌≤◌, ◌<◌}
use native.Mathlib.Omega.{arith}
use borrow.Author.Tests.{eqb-true, leb-true, leb-false}
use lib.Dec.{eqb, leb}
use lib.ListN.{length}
use Rattle.std.specs.Prelude.{if◌then◌else◌}
use Rattle.paper.specs.Strings.{Bytes, Digits, Block, ◌⊕◌, pad10*, sum}
use Rattle.paper.specs.Figure6.{minus1, row, BlockFunction}
use Rattle.paper.specs.Figure5.{pairs, rest, Mu, Mv, Wᵢ, Xᵢ, Sx, Sy, S'ᵢ, Yᵢ, Zᵢ, C'ᵢ, Cᵢ, Cu, Cv, Cy, Cx, X as Xall, S as Sall, Y as Yall}
use Rattle.laws.proofs.BlockFunction.{GivesBlocks}
use Rattle.laws.proofs.Digits.{⊕_digits, ⊕_block, append_digits, zero_digits, as_digits}
use Rattle.laws.proofs.Joins.{UpTo, sum_block}
use Rattle.laws.proofs.CoreParts.{Mᵢ_block, M'ᵢ_block, Mx_block, My_block, Mu_bytes, Mv_bytes}
use Rattle.laws.proofs.Padding.{pad_block}

-- a sum, and what u and v add to it: lines 227 to 229 of X, 234 to 238 of Y
abbrev pub uv_added : BlockFunction → ℕ → Bytes → Bytes → Bytes → Bytes
uv_added E d s u v =
    if eqb d 0 then s else if leb d 15 then s ⊕ E (row 0) 4 (pad10* u) else s ⊕ E (row 0) 4 u ⊕ E (row 0) 5 (pad10* v)

module _ (E : BlockFunction) (E_block : GivesBlocks E) where
  -- u has d bytes or 16, v none or d - 16
  uv_added_block : (d : ℕ) (s u v : Bytes) → d < 32 → Block s → ((b : Bool) → leb d 15 ≡ b → Digits 8 (if b then d else 16) u)
      → ((b : Bool) → leb d 15 ≡ b → Digits 8 (if b then 0 else d - 16) v) → Block (uv_added E d s u v)
  uv_added_block d s u v h p q r = go (eqb d 0) (leb d 15) refl
    where
      go : (a b : Bool) → leb d 15 ≡ b → Block (if a then s else if b then s ⊕ E (row 0) 4 (pad10* u) else s ⊕ E (row 0) 4 u ⊕ E (row 0) 5 (pad10* v))
      go true b e = p
      go false true e = ⊕_block p (E_block (row 0) 4 (pad10* u) (pad_block (q true e) (omega (arith, leb-true d 15 e))))
      go false false e = ⊕_block (⊕_block p (E_block (row 0) 4 u (q false e))) (E_block (row 0) 5 (pad10* v) (pad_block (r false e) (omega arith)))

  module _ (Δ : Bytes) (Δ-block : Block Δ) (x y : ℕ) (M : Bytes) (long : 32 ≤ length M) (p : Digits 8 (length M) M) where
    abbrev m : ℕ
    m = pairs (length M)

    abbrev d : ℕ
    d = rest (length M)

    pub Wᵢ_block : UpTo m (λ i. Block (Wᵢ E Δ x y M i))
    unfolding Wᵢ
    Wᵢ_block i a b = ⊕_block (Mᵢ_block M long p i a b) (E_block (row 1) i _ (M'ᵢ_block M long p i a b))

    pub Xᵢ_block : UpTo m (λ i. Block (Xᵢ E Δ x y M i))
    unfolding Xᵢ
    Xᵢ_block i a b = ⊕_block (M'ᵢ_block M long p i a b) (E_block (row 0) 0 _ (Wᵢ_block i a b))

    X_added : Xall E Δ x y M ≡ uv_added E d (sum m (Xᵢ E Δ x y M)) (Mu M) (Mv M)
    unfolding Xall
    X_added = refl

    pub X_block : Block (Xall E Δ x y M)
    X_block =
        rw X_added
        (uv_added_block d (sum m (Xᵢ E Δ x y M)) (Mu M) (Mv M) (omega arith) (sum_block m (Xᵢ E Δ x y M) Xᵢ_block)
        (Mu_bytes M long p) (Mv_bytes M long p))

    pub Sx_block : Block (Sx E Δ x y M)
    unfolding Sx
    Sx_block = ⊕_block (⊕_block (⊕_block (Mx_block M long p) Δ-block) X_block) (E_block (row 0) x _ (My_block M long p))

    pub Sy_block : Block (Sy E Δ x y M)
    unfolding Sy
    Sy_block = ⊕_block (My_block M long p) (E_block minus1 x _ Sx_block)

    pub S_block : Block (Sall E Δ x y M)
    unfolding Sall
    S_block = ⊕_block Sx_block Sy_block

    pub S'ᵢ_block : (i : ℕ) → Block (S'ᵢ E Δ x y M i)
    unfolding S'ᵢ
    S'ᵢ_block i = E_block (row 2) i _ S_block

    pub Yᵢ_block : UpTo m (λ i. Block (Yᵢ E Δ x y M i))
    unfolding Yᵢ
    Yᵢ_block i a b = ⊕_block (Wᵢ_block i a b) (S'ᵢ_block i)

    pub Zᵢ_block : UpTo m (λ i. Block (Zᵢ E Δ x y M i))
    unfolding Zᵢ
    Zᵢ_block i a b = ⊕_block (Xᵢ_block i a b) (S'ᵢ_block i)

    pub C'ᵢ_block : UpTo m (λ i. Block (C'ᵢ E Δ x y M i))
    unfolding C'ᵢ
    C'ᵢ_block i a b = ⊕_block (Yᵢ_block i a b) (E_block (row 0) 0 _ (Zᵢ_block i a b))

    pub Cᵢ_block : UpTo m (λ i. Block (Cᵢ E Δ x y M i))
    unfolding Cᵢ
    Cᵢ_block i a b = ⊕_block (Zᵢ_block i a b) (E_block (row 1) i _ (C'ᵢ_block i a b))

    -- u and v keep their lengths
    pub Cu_bytes : (b : Bool) → leb d 15 ≡ b → Digits 8 (if b then d else 16) (Cu E Δ x y M)
    unfolding Cu
    Cu_bytes true e = go (eqb d 0) refl
      where
        go : (a : Bool) → eqb d 0 ≡ a → Digits 8 d (if a then [] else Mu M ⊕ E minus1 4 (Sall E Δ x y M))
        go true f = as_digits (sym (eqb-true d 0 f)) (zero_digits 8 0)
        go false f = ⊕_digits (Mu_bytes M long p true e) (E_block minus1 4 _ S_block) (omega (arith, leb-true d 15 e))
    Cu_bytes false e = go (eqb d 0) refl
      where
        go : (a : Bool) → eqb d 0 ≡ a → Digits 8 16 (if a then [] else Mu M ⊕ E minus1 4 (Sall E Δ x y M))
        go true f = absurd (omega (arith, leb-false d 15 e, eqb-true d 0 f))
        go false f = ⊕_digits (Mu_bytes M long p false e) (E_block minus1 4 _ S_block) (omega arith)

    pub Cv_at : (b : Bool) → leb d 15 ≡ b → Cv E Δ x y M ≡ (if b then [] else Mv M ⊕ E minus1 5 (Sall E Δ x y M))
    unfolding Cv
    Cv_at b e = ap (λ (b : Bool). if b then [] else Mv M ⊕ E minus1 5 (Sall E Δ x y M)) e

    Cv_bytes : (b : Bool) → leb d 15 ≡ b → Digits 8 (if b then 0 else d - 16) (Cv E Δ x y M)
    Cv_bytes true e = subst⁻¹ (Digits 8 0) (Cv_at true e) (zero_digits 8 0)
    Cv_bytes false e = subst⁻¹ (Digits 8 (d - 16)) (Cv_at false e) (⊕_digits (Mv_bytes M long p false e) (E_block minus1 5 _ S_block) (omega arith))

    Y_added : Yall E Δ x y M ≡ uv_added E d (sum m (Yᵢ E Δ x y M)) (Cu E Δ x y M) (Cv E Δ x y M)
    unfolding Yall
    Y_added = refl

    pub Y_block : Block (Yall E Δ x y M)
    Y_block =
        rw Y_added
        (uv_added_block d (sum m (Yᵢ E Δ x y M)) (Cu E Δ x y M) (Cv E Δ x y M) (omega arith) (sum_block m (Yᵢ E Δ x y M) Yᵢ_block) Cu_bytes Cv_bytes)

    pub Cy_block : Block (Cy E Δ x y M)
    unfolding Cy
    Cy_block = ⊕_block Sx_block (E_block minus1 y _ Sy_block)

    pub Cx_block : Block (Cx E Δ x y M)
    unfolding Cx
    Cx_block = ⊕_block (⊕_block (⊕_block Sy_block Δ-block) Y_block) (E_block (row 0) y _ Cy_block)

    pub pair_bytes : UpTo m (λ i. Digits 8 32 (Cᵢ E Δ x y M i ++ C'ᵢ E Δ x y M i))
    pair_bytes i a b = append_digits (Cᵢ_block i a b) (C'ᵢ_block i a b)

    pub uv_bytes : Digits 8 d (Cu E Δ x y M ++ Cv E Δ x y M)
    uv_bytes = go (leb d 15) refl
      where
        go : (b : Bool) → leb d 15 ≡ b → Digits 8 d (Cu E Δ x y M ++ Cv E Δ x y M)
        go true e = as_digits (omega arith) (append_digits (Cu_bytes true e) (Cv_bytes true e))
        go false e = as_digits (omega (arith, leb-false d 15 e)) (append_digits (Cu_bytes false e) (Cv_bytes false e))
