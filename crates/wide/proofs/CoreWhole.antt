-- Lines 220 to 240 step by step in one string make AEZ-core of it.
use mathlib.Core.List.{◌++◌}
use mathlib.Core.Path.{◌≡◌, ap, ap₂, sym, ◌∙◌}
use Prim.Native.Nat.{ℕ, ◌+◌, ◌*◌, ◌≤◌}
use native.Mathlib.Omega.{arith}
use lib.ListN.{length, take, drop, length-append, take-append-drop}
use lib.Seq.{take_all, drop_at, drop-drop}
use Rattle.paper.specs.Strings.{Bytes, Digits, Block, ◌⊕◌, sum, join}
use Rattle.paper.specs.Figure6.{BlockFunction}
use Rattle.paper.specs.Figure5.{pairs, rest, Muv, Sx, Sy, Yᵢ, C'ᵢ, Cᵢ, Cu, Cv, core, X as Xall, S as Sall, Y as Yall}
use Rattle.laws.proofs.BlockFunction.{GivesBlocks}
use Rattle.laws.proofs.CoreParts.{cut}
use Rattle.laws.proofs.CoreBlocks.{uv_bytes}
use Rattle.laws.proofs.CoreResult.{pairs_long, split}
use Rattle.pass.specs.Pairs.{first_x, first_pair, second_y, second_pair, pair_at, pair_sum, paired}
use Rattle.wide.specs.Uv.{with_uv, u_masked, v_masked}
use Rattle.wide.specs.Ends.{sx_of, sy_of, cx_of, cy_of}
use Rattle.wide.proofs.Parts.{second, third, put_second, put_third}
use Rattle.wide.proofs.CorePairs as pair
use Rattle.wide.proofs.CoreUv as uv

module _
    (E : BlockFunction) (E_block : GivesBlocks E)
    (Δ : Bytes) (Δ-block : Block Δ) (x y : ℕ) (M : Bytes) (long : 32 ≤ length M) (p : Digits 8 (length M) M) where
  abbrev m : ℕ
  m = pairs (length M)

  abbrev d : ℕ
  d = rest (length M)

  -- where M_uv and M_x begin
  abbrev at : ℕ
  at = 32 * m

  abbrev end : ℕ
  end = 32 * m + d

  -- the pairs after the first pass and after the second, and the last two blocks
  abbrev J : Bytes
  J = pair.WX E E_block Δ Δ-block x y M long p

  abbrev K : Bytes
  K = join m (λ i. Cᵢ E Δ x y M i ++ C'ᵢ E Δ x y M i)

  abbrev L : Bytes
  L = drop end M

  J_long : length J ≡ at
  J_long = pair.WX_long E E_block Δ Δ-block x y M long p

  first_is : paired (first_pair E) M ≡ J ++ (Muv M ++ L)
  first_is =
      ap₂ ◌++◌ (pair.firsts E E_block Δ Δ-block x y M long p) (sym (take-append-drop d (drop at M)) ∙ ap (λ (l : Bytes). Muv M ++ l) (drop-drop d at M))

  -- the second pass over the pairs of the first, with M_uv masked
  module _ (N w S : Bytes) (is : N ≡ J ++ (w ++ L)) (size : length w ≡ d) (S_sum : S ≡ Sall E Δ x y M) where
    N_long : length N ≡ length M
    N_long =
        ap length is
        ∙ length-append J (w ++ L)
        ∙ omega (arith, length-append w L, J_long, uv.xy_long M long, cut (length M) long)

    second_is : paired (second_pair E S) N ≡ K ++ (w ++ L)
    second_is =
        ap (λ (n : ℕ). join (pairs n) (λ i. second_pair E S i (pair_at N i)) ++ drop (32 * pairs n) N) N_long
        ∙ ap₂ ◌++◌ (pair.seconds E E_block Δ Δ-block x y M long p N (w ++ L) S is S_sum) (ap (drop at) is ∙ drop_at J (w ++ L) at J_long)

    sum_is : pair_sum (second_y E S) N ≡ sum m (Yᵢ E Δ x y M)
    sum_is =
        ap (λ (n : ℕ). sum (pairs n) (λ i. second_y E S i (pair_at N i))) N_long
        ∙ pair.second_sum E E_block Δ Δ-block x y M long p N (w ++ L) S is S_sum

  -- all steps: k and n are the lengths of the two parts that are lent
  pub together : (k n : ℕ) → k ≡ d → n ≡ 32 → (first s total sx sy S w t after all z : Bytes)
      → first ≡ pair_sum (first_x E) M → s ≡ paired (first_pair E) M
      → total ≡ with_uv E first (take k (drop at s))
      → sx ≡ sx_of E Δ x total (take n (drop end s)) → sy ≡ sy_of E Δ x total (take n (drop end s)) → S ≡ sx ⊕ sy
      → w ≡ u_masked E S (take k (drop at s)) ++ v_masked E S (take k (drop at s))
      → t ≡ pair_sum (second_y E S) (take at s ++ (w ++ drop k (drop at s))) → after ≡ paired (second_pair E S) (take at s ++ (w ++ drop k (drop at s)))
      → all ≡ with_uv E t (take k (drop at after))
      → z ≡ cx_of E Δ y all sx sy ++ cy_of E Δ y all sx sy
      → take end after ++ (z ++ drop n (drop end after)) ≡ core E Δ x y M
  together k n hk hn first s total sx sy S w t after all z h1 h2 h3 h4 h5 h6 h7 h8 h9 h10 h11 =
      let lu : length (Muv M) ≡ d = uv.uv_long M long in
      let lx : length L ≡ 32 = uv.xy_long M long in
      let e1 : s ≡ J ++ (Muv M ++ L) = h2 ∙ first_is in
      let u : take k (drop at s) ≡ Muv M = second J (Muv M) L s e1 at d J_long lu k hk in
      let v : take n (drop end s) ≡ L = ap (take n) (third J (Muv M) L s e1 at d J_long lu) ∙ take_all n L (omega arith) in
      let X_is : total ≡ Xall E Δ x y M = h3 ∙ uv.X_all M long E Δ x y first _ (h1 ∙ pair.first_sum E E_block Δ Δ-block x y M long p) u in
      let sx_is : sx ≡ Sx E Δ x y M = h4 ∙ uv.Sx_is M long E Δ x y total _ X_is v in
      let sy_is : sy ≡ Sy E Δ x y M = h5 ∙ uv.Sy_is M long E Δ x y total _ X_is v in
      let S_sum : S ≡ Sall E Δ x y M = uv.S_is M long E Δ x y sx sy S sx_is sy_is h6 in
      let w_is : w ≡ Cu E Δ x y M ++ Cv E Δ x y M = h7 ∙ uv.masked_is M long E Δ x y S _ S_sum u in
      let w_long : length w ≡ d = ap length w_is ∙ (uv_bytes E E_block Δ Δ-block x y M long p).len in
      let b : Bytes = take at s ++ (w ++ drop k (drop at s)) in
      let e2 : b ≡ J ++ (w ++ L) = put_second J (Muv M) L s e1 at d J_long lu k w hk in
      let e3 : after ≡ K ++ (w ++ L) = h9 ∙ second_is b w S e2 w_long S_sum in
      let lk : length K ≡ at = (pairs_long E E_block Δ Δ-block x y M long p).len in
      let w3 : take k (drop at after) ≡ w = second K w L after e3 at d lk w_long k hk in
      let Y_is : all ≡ Yall E Δ x y M =
      h10 ∙ ap (with_uv E t) w3 ∙ uv.Y_all E E_block Δ Δ-block x y M long p t w (h8 ∙ sum_is b w S e2 w_long S_sum) w_is in
      put_third K w L after e3 at d lk w_long n z (omega arith)
      ∙ ap₂ (λ (p q : Bytes). K ++ (p ++ q)) w_is (h11 ∙ uv.ends_are M long E Δ x y all sx sy Y_is sx_is sy_is)
      ∙ sym (split E E_block Δ Δ-block x y M long p)
