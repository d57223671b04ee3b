-- `levels::near_four`: the words after each level.
use Rattle.std.proofs.Common.{[], ◌∷◌, ◌∙◌}
use Rattle.levels.specs.Levels.{leveled, mask8}
use Rattle.levels.proofs.near_four.Goals as goal

pub returns : goal.returns
unfolding leveled
returns c =
    let a0 = c.exchanged-a2.ensures in
    let a1 = c.exchanged-a3.ensures in
    let b0 = c.exchanged-b1.ensures in
    let b2 = c.exchanged-b3.ensures in
    (λ t. b0.1 t ∷ b0.0 t ∷ b2.1 t ∷ b2.0 t ∷ []) ∙ (λ t. leveled 4 1 8 mask8 (a0.1 t ∷ a1.1 t ∷ a0.0 t ∷ a1.0 t ∷ []))
