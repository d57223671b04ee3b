-- What the two passes make of the pairs is what Figure 5 says: W_i X_i and the sum of the X_i, C_i C'_i and the sum of the Y_i.
use mathlib.Core.List.{◌++◌}
use mathlib.Core.Path.{◌≡◌, ap, ap₂, ◌∙◌}
use Prim.Native.Nat.{ℕ, ◌*◌, ◌≤◌}
use native.Mathlib.Omega.{arith}
use lib.ListN.{length, length-append}
use Rattle.paper.specs.Strings.{Bytes, Digits, Block, ◌⊕◌, sum, join}
use Rattle.paper.specs.Figure6.{row, BlockFunction}
use Rattle.paper.specs.Figure5.{pairs, Mᵢ, M'ᵢ, Wᵢ, Xᵢ, S'ᵢ, Yᵢ, Zᵢ, C'ᵢ, Cᵢ, S as Sall}
use Rattle.laws.proofs.BlockFunction.{GivesBlocks}
use Rattle.laws.proofs.Digits.{append_digits}
use Rattle.laws.proofs.Joins.{UpTo, sum_ext, join_ext, join_digits}
use Rattle.laws.proofs.CoreParts.{cut, pairs_of}
use Rattle.laws.proofs.CoreBlocks.{Wᵢ_block, Xᵢ_block}
use Rattle.pass.specs.Pairs.{first_w, first_x, first_pair, second_y, second_z, second_c', second_c, second_pair, pair_at, pair_sum}
use Rattle.pass.proofs.Halves.{left_is, right_is}

module _
    (E : BlockFunction) (E_block : GivesBlocks E)
    (Δ : Bytes) (Δ-block : Block Δ) (x y : ℕ) (M : Bytes) (long : 32 ≤ length M) (p : Digits 8 (length M) M) where
  abbrev m : ℕ
  m = pairs (length M)

  -- W_1 X_1 .. W_m X_m
  abbrev pub WX : Bytes
  WX = join m (λ i. Wᵢ E Δ x y M i ++ Xᵢ E Δ x y M i)

  pub WX_long : length WX ≡ 32 * m
  WX_long =
      (join_digits m (λ i. Wᵢ E Δ x y M i ++ Xᵢ E Δ x y M i)
      (λ i a b. append_digits (Wᵢ_block E E_block Δ Δ-block x y M long p i a b) (Xᵢ_block E E_block Δ Δ-block x y M long p i a b))).len

  W_is : UpTo m (λ i. first_w E i (pair_at M i) ≡ Wᵢ E Δ x y M i)
  unfolding first_w Wᵢ
  W_is i a b = ap₂ (λ (u v : Bytes). u ⊕ E (row 1) i v) (left_is M i) (right_is M i a (omega (arith, cut (length M) long)))

  X_is : UpTo m (λ i. first_x E i (pair_at M i) ≡ Xᵢ E Δ x y M i)
  unfolding first_x Xᵢ
  X_is i a b = ap₂ (λ (u v : Bytes). u ⊕ E (row 0) 0 v) (right_is M i a (omega (arith, cut (length M) long))) (W_is i a b)

  -- what the first pass makes
  pub firsts : join m (λ i. first_pair E i (pair_at M i)) ≡ WX
  firsts = join_ext m (λ i. first_pair E i (pair_at M i)) (λ i. Wᵢ E Δ x y M i ++ Xᵢ E Δ x y M i) (λ i a b. ap₂ ◌++◌ (W_is i a b) (X_is i a b))

  pub first_sum : pair_sum (first_x E) M ≡ sum m (Xᵢ E Δ x y M)
  first_sum = sum_ext m (λ i. first_x E i (pair_at M i)) (Xᵢ E Δ x y M) X_is

  -- what the second pass makes of a string that begins with it
  module _ (N R S : Bytes) (begins : N ≡ WX ++ R) (is : S ≡ Sall E Δ x y M) where
    pairs_are : UpTo m (λ i. (Mᵢ N i ≡ Wᵢ E Δ x y M i) × (M'ᵢ N i ≡ Xᵢ E Δ x y M i))
    pairs_are =
        pairs_of m (Wᵢ E Δ x y M) (Xᵢ E Δ x y M) N R (Wᵢ_block E E_block Δ Δ-block x y M long p) (Xᵢ_block E E_block Δ Δ-block x y M long p) begins

    whole : UpTo m (λ i. 32 * i ≤ length N)
    whole i a b = omega (arith, ap length begins, length-append WX R, WX_long)

    Y_is : UpTo m (λ i. second_y E S i (pair_at N i) ≡ Yᵢ E Δ x y M i)
    unfolding second_y Yᵢ S'ᵢ
    Y_is i a b = ap₂ (λ (u v : Bytes). u ⊕ E (row 2) i v) (left_is N i ∙ (pairs_are i a b).0) is

    Z_is : UpTo m (λ i. second_z E S i (pair_at N i) ≡ Zᵢ E Δ x y M i)
    unfolding second_z Zᵢ S'ᵢ
    Z_is i a b = ap₂ (λ (u v : Bytes). u ⊕ E (row 2) i v) (right_is N i a (whole i a b) ∙ (pairs_are i a b).1) is

    C'_is : UpTo m (λ i. second_c' E S i (pair_at N i) ≡ C'ᵢ E Δ x y M i)
    unfolding second_c' C'ᵢ
    C'_is i a b = ap₂ (λ (u v : Bytes). u ⊕ E (row 0) 0 v) (Y_is i a b) (Z_is i a b)

    C_is : UpTo m (λ i. second_c E S i (pair_at N i) ≡ Cᵢ E Δ x y M i)
    unfolding second_c Cᵢ
    C_is i a b = ap₂ (λ (u v : Bytes). u ⊕ E (row 1) i v) (Z_is i a b) (C'_is i a b)

    pub seconds : join m (λ i. second_pair E S i (pair_at N i)) ≡ join m (λ i. Cᵢ E Δ x y M i ++ C'ᵢ E Δ x y M i)
    seconds =
        join_ext m (λ i. second_pair E S i (pair_at N i)) (λ i. Cᵢ E Δ x y M i ++ C'ᵢ E Δ x y M i) (λ i a b. ap₂ ◌++◌ (C_is i a b) (C'_is i a b))

    pub second_sum : sum m (λ i. second_y E S i (pair_at N i)) ≡ sum m (Yᵢ E Δ x y M)
    second_sum = sum_ext m (λ i. second_y E S i (pair_at N i)) (Yᵢ E Δ x y M) Y_is
