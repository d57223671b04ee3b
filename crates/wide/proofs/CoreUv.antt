-- What u, v and the last two blocks add and become is what Figure 5 says.
use mathlib.Core.List.{[], ◌++◌}
use mathlib.Core.Path.{◌≡◌, ap, ap₂, ◌∙◌}
use Prim.Native.Nat.{ℕ, ◌+◌, ◌*◌, ◌≤◌}
use native.Mathlib.Omega.{arith}
use lib.Dec.{eqb, leb}
use lib.ListN.{length, take, drop, length-drop}
use lib.Seq.{length-take-le, take_all, drop-drop}
use Rattle.std.specs.Prelude.{if◌then◌else◌}
use Rattle.paper.specs.Strings.{Bytes, Digits, Block, ◌⊕◌, sum}
use Rattle.paper.specs.Figure6.{minus1, row, BlockFunction}
use Rattle.paper.specs.Figure5.{pairs, rest, Muv, My, Xᵢ, Sx, Sy, Yᵢ, Cu, Cv, Cy, Cx, X as Xall, S as Sall, Y as Yall}
use Rattle.laws.proofs.BlockFunction.{GivesBlocks}
use Rattle.laws.proofs.CoreParts.{u_of, v_of, cut}
use Rattle.laws.proofs.CoreBlocks.{uv_added, uv_bytes}
use Rattle.laws.proofs.CoreResult.{u_is, v_is}
use Rattle.wide.specs.Uv.{with_uv, u_masked, v_masked}
use Rattle.wide.specs.Ends.{sx_of, sy_of, cx_of, cy_of}

module _ (M : Bytes) (long : 32 ≤ length M) where
  abbrev m : ℕ
  m = pairs (length M)

  abbrev d : ℕ
  d = rest (length M)

  pub uv_long : length (Muv M) ≡ d
  uv_long = length-take-le d (drop (32 * m) M) (omega (arith, cut (length M) long, length-drop (32 * m) M))

  pub xy_long : length (drop (32 * m + d) M) ≡ 32
  xy_long = length-drop (32 * m + d) M ∙ omega (arith, cut (length M) long)

  My_is : (t : Bytes) → t ≡ drop (32 * m + d) M → take 16 (drop 16 t) ≡ My M
  My_is t q =
      ap (λ (l : Bytes). take 16 (drop 16 l)) q
      ∙ take_all 16 (drop 16 (drop (32 * m + d) M)) (omega (arith, length-drop 16 (drop (32 * m + d) M), xy_long))
      ∙ drop-drop 16 (32 * m + d) M

  module _ (E : BlockFunction) (Δ : Bytes) (x y : ℕ) where
    -- 227 to 229
    pub X_all : (t u : Bytes) → t ≡ sum m (Xᵢ E Δ x y M) → u ≡ Muv M → with_uv E t u ≡ Xall E Δ x y M
    unfolding with_uv Xall
    X_all t u p q =
        let e : length u ≡ d = ap length q ∙ uv_long in
        λ i. uv_added E (e i) (p i) (u_of (e i) (q i)) (v_of (e i) (q i))

    -- 230
    pub Sx_is : (T t : Bytes) → T ≡ Xall E Δ x y M → t ≡ drop (32 * m + d) M → sx_of E Δ x T t ≡ Sx E Δ x y M
    unfolding sx_of Sx
    Sx_is T t p q = let r = My_is t q in λ i. take 16 (q i) ⊕ Δ ⊕ p i ⊕ E (row 0) x (r i)

    pub Sy_is : (T t : Bytes) → T ≡ Xall E Δ x y M → t ≡ drop (32 * m + d) M → sy_of E Δ x T t ≡ Sy E Δ x y M
    unfolding sy_of Sy
    Sy_is T t p q = ap₂ (λ (u v : Bytes). u ⊕ E minus1 x v) (My_is t q) (Sx_is T t p q)

    pub S_is : (a b c : Bytes) → a ≡ Sx E Δ x y M → b ≡ Sy E Δ x y M → c ≡ a ⊕ b → c ≡ Sall E Δ x y M
    unfolding Sall
    S_is a b c p q e = e ∙ ap₂ ◌⊕◌ p q

    -- 234 to 238
    pub masked_is : (s u : Bytes) → s ≡ Sall E Δ x y M → u ≡ Muv M → u_masked E s u ++ v_masked E s u ≡ Cu E Δ x y M ++ Cv E Δ x y M
    unfolding u_masked v_masked Cu Cv
    masked_is s u p q =
        let e : length u ≡ d = ap length q ∙ uv_long in
        λ i. (if eqb (e i) 0 then [] else u_of (e i) (q i) ⊕ E minus1 4 (p i)) ++ (if leb (e i) 15 then [] else v_of (e i) (q i) ⊕ E minus1 5 (p i))

    -- 239
    pub ends_are : (T a b : Bytes) → T ≡ Yall E Δ x y M → a ≡ Sx E Δ x y M → b ≡ Sy E Δ x y M
        → cx_of E Δ y T a b ++ cy_of E Δ y T a b ≡ Cx E Δ x y M ++ Cy E Δ x y M
    unfolding cx_of cy_of Cx Cy
    ends_are T a b p q r = λ i. (r i ⊕ Δ ⊕ p i ⊕ E (row 0) y (q i ⊕ E minus1 y (r i))) ++ (q i ⊕ E minus1 y (r i))

-- 234 to 238
pub Y_all : (E : BlockFunction) (E_block : GivesBlocks E) (Δ : Bytes) (Δ-block : Block Δ) (x y : ℕ) (M : Bytes) (long : 32 ≤ length M) (p : Digits 8 (length M) M)
    (t w : Bytes) → t ≡ sum (pairs (length M)) (Yᵢ E Δ x y M) → w ≡ Cu E Δ x y M ++ Cv E Δ x y M → with_uv E t w ≡ Yall E Δ x y M
unfolding with_uv Yall
Y_all E E_block Δ Δ-block x y M long p t w s is =
    let e : length w ≡ rest (length M) = ap length is ∙ (uv_bytes E E_block Δ Δ-block x y M long p).len in
    let u : u_of (length w) w ≡ Cu E Δ x y M = (λ i. u_of (e i) (is i)) ∙ u_is E E_block Δ Δ-block x y M long p in
    let v : v_of (length w) w ≡ Cv E Δ x y M = (λ i. v_of (e i) (is i)) ∙ v_is E E_block Δ Δ-block x y M long p in
    λ i. uv_added E (e i) (s i) (u i) (v i)
