-- `levels::far_eight`: the words after each level.
use Rattle.std.proofs.Common.{[], ◌∷◌, ◌∙◌}
use Rattle.levels.specs.Levels.{leveled, mask1, mask2}
use Rattle.levels.proofs.far_eight.Goals as goal

pub returns : goal.returns
unfolding leveled
returns c =
    let a0 = c.exchanged-a4.ensures in
    let a1 = c.exchanged-a5.ensures in
    let a2 = c.exchanged-a6.ensures in
    let a3 = c.exchanged-a7.ensures in
    let b0 = c.exchanged-b2.ensures in
    let b1 = c.exchanged-b3.ensures in
    let b4 = c.exchanged-b6.ensures in
    let b5 = c.exchanged-b7.ensures in
    let c0 = c.exchanged-c1.ensures in
    let c2 = c.exchanged-c3.ensures in
    let c4 = c.exchanged-c5.ensures in
    let c6 = c.exchanged-c7.ensures in
    (λ t. c0.1 t ∷ c0.0 t ∷ c2.1 t ∷ c2.0 t ∷ c4.1 t ∷ c4.0 t ∷ c6.1 t ∷ c6.0 t ∷ [])
    ∙ (λ t. leveled 8 1 1 mask1 (b0.1 t ∷ b1.1 t ∷ b0.0 t ∷ b1.0 t ∷ b4.1 t ∷ b5.1 t ∷ b4.0 t ∷ b5.0 t ∷ []))
    ∙ (λ t. leveled 8 1 1 mask1 (leveled 8 2 2 mask2 (a0.1 t ∷ a1.1 t ∷ a2.1 t ∷ a3.1 t ∷ a0.0 t ∷ a1.0 t ∷ a2.0 t ∷ a3.0 t ∷ [])))
