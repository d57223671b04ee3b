-- AEZ-core with x and y exchanged undoes AEZ-core, over any block function: deciphering undoes enciphering, and enciphering undoes
-- deciphering. C is the result for the string M. On C, with x and y exchanged, each value of Figure 5 is another one on M.
use mathlib.Core.Bool.{Bool, true, false}
use mathlib.Core.List.{[], ◌++◌, append_assoc}
use mathlib.Core.Path.{◌≡◌, refl, ap, ap₂, sym, ◌∙◌}
use Prim.Native.Nat.{ℕ, ◌≤◌}
use native.Mathlib.Omega.{arith}
use borrow.Author.Tests.{eqb-true, leb-true, leb-false}
use lib.Dec.{eqb, leb}
use lib.ListN.{length}
use Rattle.std.specs.Prelude.{if◌then◌else◌}
use Rattle.paper.specs.Strings.{Bytes, Digits, Block, ◌⊕◌, sum, join}
use Rattle.paper.specs.Figure6.{minus1, row, BlockFunction}
use Rattle.paper.specs.Figure5.{pairs, rest, Mᵢ, M'ᵢ, Mx, My, Mu, Mv, Wᵢ, Xᵢ, Sx, Sy, S'ᵢ, Yᵢ, Zᵢ, C'ᵢ, Cᵢ, Cu, Cv, Cy, Cx, core, X as Xall, S as Sall, Y as Yall}
use Rattle.laws.proofs.BlockFunction.{GivesBlocks}
use Rattle.laws.proofs.Digits.{⊕_block}
use Rattle.laws.proofs.Tables.{no_entries}
use Rattle.laws.proofs.Strings.{⊕_assoc, ⊕_comm, ⊕_cancel}
use Rattle.laws.proofs.Joins.{UpTo, sum_ext, join_ext}
use Rattle.laws.proofs.CoreParts.{Mᵢ_block, M'ᵢ_block, Mx_block, My_block, Mu_bytes, Mv_bytes, Mu_Mv, parts_joined}
use Rattle.laws.proofs.CoreBlocks.{uv_added, Wᵢ_block, Xᵢ_block, X_block, Sx_block, Sy_block, S_block, S'ᵢ_block, Yᵢ_block, Zᵢ_block, C'ᵢ_block, Y_block, Cy_block}
use Rattle.laws.proofs.CoreResult.{same_length, core_Mᵢ, core_M'ᵢ, core_Mx, core_My, core_Mu, core_Mv}

-- a mask twice
twice : {A B : Bytes} → Block A → Block B → (A ⊕ B) ⊕ B ≡ A
twice {A} {B} p q = ⊕_cancel A B (omega (arith, p.len, q.len))

-- three masks twice
thrice : {A B C D : Bytes} → Block A → Block B → Block C → Block D → A ⊕ B ⊕ C ⊕ D ⊕ B ⊕ C ⊕ D ≡ A
thrice {A} {B} {C} {D} p q r s =
    let regroup : A ⊕ B ⊕ C ⊕ D ⊕ B ⊕ C ⊕ D ≡ (A ⊕ (B ⊕ C ⊕ D)) ⊕ (B ⊕ C ⊕ D) = simp ⊕_assoc in
    regroup ∙ twice p (⊕_block (⊕_block q r) s)

module _
    (E : BlockFunction) (E_block : GivesBlocks E)
    (Δ : Bytes) (Δ-block : Block Δ) (x y : ℕ) (M : Bytes) (long : 32 ≤ length M) (p : Digits 8 (length M) M) where
  abbrev m : ℕ
  m = pairs (length M)

  abbrev d : ℕ
  d = rest (length M)

  abbrev C : Bytes
  C = core E Δ x y M

  abbrev len : length C ≡ length M
  len = same_length E E_block Δ Δ-block x y M long p

  -- W is Z, and X is Y
  W_is : UpTo m (λ i. Wᵢ E Δ y x C i ≡ Zᵢ E Δ x y M i)
  unfolding Wᵢ Cᵢ
  W_is i a b =
      ap₂ (λ (u v : Bytes). u ⊕ E (row 1) i v) (core_Mᵢ E E_block Δ Δ-block x y M long p i a b) (core_M'ᵢ E E_block Δ Δ-block x y M long p i a b)
      ∙ twice (Zᵢ_block E E_block Δ Δ-block x y M long p i a b) (E_block (row 1) i _ (C'ᵢ_block E E_block Δ Δ-block x y M long p i a b))

  X_is : UpTo m (λ i. Xᵢ E Δ y x C i ≡ Yᵢ E Δ x y M i)
  unfolding Xᵢ C'ᵢ
  X_is i a b =
      ap₂ (λ (u v : Bytes). u ⊕ E (row 0) 0 v) (core_M'ᵢ E E_block Δ Δ-block x y M long p i a b) (W_is i a b)
      ∙ twice (Yᵢ_block E E_block Δ Δ-block x y M long p i a b) (E_block (row 0) 0 _ (Zᵢ_block E E_block Δ Δ-block x y M long p i a b))

  Xall_is : Xall E Δ y x C ≡ Yall E Δ x y M
  unfolding Xall Yall
  Xall_is =
      let s : sum (pairs (length C)) (Xᵢ E Δ y x C) ≡ sum m (Yᵢ E Δ x y M) = ap (λ (n : ℕ). sum (pairs n) (Xᵢ E Δ y x C)) len ∙ sum_ext m _ _ X_is in
      λ i. uv_added E (rest (len i)) (s i) (core_Mu E E_block Δ Δ-block x y M long p i) (core_Mv E E_block Δ Δ-block x y M long p i)

  -- S_x and S_y are exchanged, so that S is the same
  Sx_is : Sx E Δ y x C ≡ Sy E Δ x y M
  unfolding Sx Cx
  Sx_is =
      (λ i. core_Mx E E_block Δ Δ-block x y M long p i ⊕ Δ ⊕ Xall_is i ⊕ E (row 0) y (core_My E E_block Δ Δ-block x y M long p i))
      ∙ thrice (Sy_block E E_block Δ Δ-block x y M long p) Δ-block (Y_block E E_block Δ Δ-block x y M long p)
      (E_block (row 0) y _ (Cy_block E E_block Δ Δ-block x y M long p))

  Sy_is : Sy E Δ y x C ≡ Sx E Δ x y M
  unfolding Sy Cy
  Sy_is =
      ap₂ (λ (u v : Bytes). u ⊕ E minus1 y v) (core_My E E_block Δ Δ-block x y M long p) Sx_is
      ∙ twice (Sx_block E E_block Δ Δ-block x y M long p) (E_block minus1 y _ (Sy_block E E_block Δ Δ-block x y M long p))

  S_is : Sall E Δ y x C ≡ Sall E Δ x y M
  unfolding Sall
  S_is = ap₂ ◌⊕◌ Sx_is Sy_is ∙ ⊕_comm (Sy E Δ x y M) (Sx E Δ x y M)

  S'_is : (i : ℕ) → S'ᵢ E Δ y x C i ≡ S'ᵢ E Δ x y M i
  unfolding S'ᵢ
  S'_is i = ap (E (row 2) i) S_is

  -- Y is X, and Z is W
  Y_is : UpTo m (λ i. Yᵢ E Δ y x C i ≡ Xᵢ E Δ x y M i)
  unfolding Yᵢ Zᵢ
  Y_is i a b = ap₂ ◌⊕◌ (W_is i a b) (S'_is i) ∙ twice (Xᵢ_block E E_block Δ Δ-block x y M long p i a b) (S'ᵢ_block E E_block Δ Δ-block x y M long p i)

  Z_is : UpTo m (λ i. Zᵢ E Δ y x C i ≡ Wᵢ E Δ x y M i)
  unfolding Yᵢ Zᵢ
  Z_is i a b = ap₂ ◌⊕◌ (X_is i a b) (S'_is i) ∙ twice (Wᵢ_block E E_block Δ Δ-block x y M long p i a b) (S'ᵢ_block E E_block Δ Δ-block x y M long p i)

  -- so the pairs are M's
  C'_is : UpTo m (λ i. C'ᵢ E Δ y x C i ≡ M'ᵢ M i)
  unfolding C'ᵢ Xᵢ
  C'_is i a b =
      ap₂ (λ (u v : Bytes). u ⊕ E (row 0) 0 v) (Y_is i a b) (Z_is i a b)
      ∙ twice (M'ᵢ_block M long p i a b) (E_block (row 0) 0 _ (Wᵢ_block E E_block Δ Δ-block x y M long p i a b))

  C_is : UpTo m (λ i. Cᵢ E Δ y x C i ≡ Mᵢ M i)
  unfolding Cᵢ Wᵢ
  C_is i a b =
      ap₂ (λ (u v : Bytes). u ⊕ E (row 1) i v) (Z_is i a b) (C'_is i a b)
      ∙ twice (Mᵢ_block M long p i a b) (E_block (row 1) i _ (M'ᵢ_block M long p i a b))

  -- and so are u and v
  Cu_is : Cu E Δ y x C ≡ Mu M
  unfolding Cu
  Cu_is =
      (λ i. if eqb (rest (len i)) 0 then [] else core_Mu E E_block Δ Δ-block x y M long p i ⊕ E minus1 4 (S_is i))
      ∙ go (eqb d 0) refl (leb d 15) refl
    where
      mask : Block (E minus1 4 (Sall E Δ x y M))
      mask = E_block minus1 4 _ (S_block E E_block Δ Δ-block x y M long p)

      go : (a : Bool) → eqb d 0 ≡ a → (b : Bool) → leb d 15 ≡ b
          → (if a then [] else (if a then [] else Mu M ⊕ E minus1 4 (Sall E Δ x y M)) ⊕ E minus1 4 (Sall E Δ x y M)) ≡ Mu M
      go true e true f = sym (no_entries (Mu M) ((Mu_bytes M long p true f).len ∙ eqb-true d 0 e))
      go true e false f = absurd (omega (arith, eqb-true d 0 e, leb-false d 15 f))
      go false e true f = ⊕_cancel (Mu M) (E minus1 4 (Sall E Δ x y M)) (omega (arith, (Mu_bytes M long p true f).len, leb-true d 15 f, mask.len))
      go false e false f = twice (Mu_bytes M long p false f) mask

  Cv_is : Cv E Δ y x C ≡ Mv M
  unfolding Cv
  Cv_is =
      (λ i. if leb (rest (len i)) 15 then [] else core_Mv E E_block Δ Δ-block x y M long p i ⊕ E minus1 5 (S_is i))
      ∙ go (leb d 15) refl
    where
      mask : Block (E minus1 5 (Sall E Δ x y M))
      mask = E_block minus1 5 _ (S_block E E_block Δ Δ-block x y M long p)

      go : (b : Bool) → leb d 15 ≡ b
          → (if b then [] else (if b then [] else Mv M ⊕ E minus1 5 (Sall E Δ x y M)) ⊕ E minus1 5 (Sall E Δ x y M)) ≡ Mv M
      go true f = sym (no_entries (Mv M) (Mv_bytes M long p true f).len)
      go false f = ⊕_cancel (Mv M) (E minus1 5 (Sall E Δ x y M)) (omega (arith, (Mv_bytes M long p false f).len, mask.len))

  Yall_is : Yall E Δ y x C ≡ Xall E Δ x y M
  unfolding Xall Yall
  Yall_is =
      let s : sum (pairs (length C)) (Yᵢ E Δ y x C) ≡ sum m (Xᵢ E Δ x y M) = ap (λ (n : ℕ). sum (pairs n) (Yᵢ E Δ y x C)) len ∙ sum_ext m _ _ Y_is in
      λ i. uv_added E (rest (len i)) (s i) (Cu_is i) (Cv_is i)

  -- and the last two blocks
  Cy_is : Cy E Δ y x C ≡ My M
  unfolding Cy Sy
  Cy_is =
      ap₂ (λ (u v : Bytes). u ⊕ E minus1 x v) Sx_is Sy_is
      ∙ twice (My_block M long p) (E_block minus1 x _ (Sx_block E E_block Δ Δ-block x y M long p))

  Cx_is : Cx E Δ y x C ≡ Mx M
  unfolding Cx Sx
  Cx_is =
      (λ i. Sy_is i ⊕ Δ ⊕ Yall_is i ⊕ E (row 0) x (Cy_is i))
      ∙ thrice (Mx_block M long p) Δ-block (X_block E E_block Δ Δ-block x y M long p) (E_block (row 0) x _ (My_block M long p))

  -- AEZ-core with x and y exchanged gives the string back
  pub core_core : core E Δ y x (core E Δ x y M) ≡ M
  unfolding core
  core_core =
      let js : join (pairs (length C)) (λ i. Cᵢ E Δ y x C i ++ C'ᵢ E Δ y x C i) ≡ join m (λ i. Mᵢ M i ++ M'ᵢ M i) =
      ap (λ (n : ℕ). join (pairs n) (λ i. Cᵢ E Δ y x C i ++ C'ᵢ E Δ y x C i)) len ∙ join_ext m _ _ (λ i a b. ap₂ ◌++◌ (C_is i a b) (C'_is i a b)) in
      (λ i. js i ++ Cu_is i ++ Cv_is i ++ Cx_is i ++ Cy_is i)
      ∙ ap (λ (l : Bytes). l ++ Mx M ++ My M)
      (append_assoc (join m (λ i. Mᵢ M i ++ M'ᵢ M i)) (Mu M) (Mv M)
      ∙ ap (λ (l : Bytes). join m (λ i. Mᵢ M i ++ M'ᵢ M i) ++ l) (Mu_Mv M long p (leb d 15) refl))
      ∙ parts_joined M long p
