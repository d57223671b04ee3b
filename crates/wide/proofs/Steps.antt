-- What the steps of the last two blocks make, over plain strings: each is what Figure 5 says.
use mathlib.Core.List.{◌++◌}
use mathlib.Core.Path.{◌≡◌, ap, ap₂, ◌∙◌}
use Prim.Native.Nat.{ℕ}
use lib.ListN.{take, drop}
use Rattle.paper.specs.Strings.{Bytes, ◌⊕◌}
use Rattle.paper.specs.Figure6.{minus1, row, BlockFunction}
use Rattle.wide.specs.Ends.{sx_of, sy_of, cx_of, cy_of}

module _ (E : BlockFunction) (Δ : Bytes) (j : ℕ) where
  -- 230
  pub middle_made : (X T mx my a b sx sy : Bytes) → mx ≡ take 16 T → my ≡ take 16 (drop 16 T) → a ≡ mx ⊕ Δ → b ≡ a ⊕ X
      → sx ≡ b ⊕ E (row 0) j my → sy ≡ my ⊕ E minus1 j sx → (sx ≡ sx_of E Δ j X T) × (sy ≡ sy_of E Δ j X T)
  unfolding sx_of sy_of
  middle_made X T mx my a b sx sy l r p q f g =
      let Sx : sx ≡ sx_of E Δ j X T =
      f ∙ ap₂ (λ (u v : Bytes). u ⊕ E (row 0) j v) (q ∙ ap (λ (u : Bytes). u ⊕ X) (p ∙ ap (λ (u : Bytes). u ⊕ Δ) l)) r in
      (Sx, g ∙ ap₂ (λ (u v : Bytes). u ⊕ E minus1 j v) r Sx)

  -- 239
  pub last_made : (Y Sx Sy cy a b cx : Bytes) → cy ≡ Sx ⊕ E minus1 j Sy → a ≡ Sy ⊕ Δ → b ≡ a ⊕ Y → cx ≡ b ⊕ E (row 0) j cy
      → cx ++ cy ≡ cx_of E Δ j Y Sx Sy ++ cy_of E Δ j Y Sx Sy
  unfolding cx_of cy_of
  last_made Y Sx Sy cy a b cx f p q g =
      ap₂ ◌++◌ (g ∙ ap₂ (λ (u v : Bytes). u ⊕ E (row 0) j v) (q ∙ ap (λ (u : Bytes). u ⊕ Y) p) f) f
