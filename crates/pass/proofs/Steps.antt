-- What the steps of one pair make, over plain strings: each is what Figure 5 says.
use mathlib.Core.List.{◌++◌}
use mathlib.Core.Path.{◌≡◌, ap₂, ◌∙◌}
use Prim.Native.Nat.{ℕ}
use lib.ListN.{take, drop}
use Rattle.paper.specs.Strings.{Bytes, ◌⊕◌}
use Rattle.paper.specs.Figure6.{row, BlockFunction}
use Rattle.pass.specs.Pairs.{first_w, first_x, first_pair, second_y, second_z, second_c', second_c, second_pair}

module _ (E : BlockFunction) (i : ℕ) (P left right : Bytes) (l : left ≡ take 16 P) (r : right ≡ take 16 (drop 16 P)) where
  -- 226
  pub first_made : (w x : Bytes) → w ≡ left ⊕ E (row 1) i right → x ≡ right ⊕ E (row 0) 0 w → (x ≡ first_x E i P) × (w ++ x ≡ first_pair E i P)
  unfolding first_w first_x
  first_made w x p q =
      let W : w ≡ first_w E i P = p ∙ ap₂ (λ (u v : Bytes). u ⊕ E (row 1) i v) l r in
      let X : x ≡ first_x E i P = q ∙ ap₂ (λ (u v : Bytes). u ⊕ E (row 0) 0 v) r W in
      (X, ap₂ ◌++◌ W X)

  -- 232, 233
  pub second_made : (S s y z second first : Bytes) → s ≡ E (row 2) i S → y ≡ left ⊕ s → z ≡ right ⊕ s
      → second ≡ y ⊕ E (row 0) 0 z → first ≡ z ⊕ E (row 1) i second → (y ≡ second_y E S i P) × (first ++ second ≡ second_pair E S i P)
  unfolding second_y second_z second_c' second_c
  second_made S s y z second first o p q f g =
      let Y : y ≡ second_y E S i P = p ∙ ap₂ ◌⊕◌ l o in
      let Z : z ≡ second_z E S i P = q ∙ ap₂ ◌⊕◌ r o in
      let C' : second ≡ second_c' E S i P = f ∙ ap₂ (λ (u v : Bytes). u ⊕ E (row 0) 0 v) Y Z in
      let C : first ≡ second_c E S i P = g ∙ ap₂ (λ (u v : Bytes). u ⊕ E (row 1) i v) Z C' in
      (Y, ap₂ ◌++◌ C C')
