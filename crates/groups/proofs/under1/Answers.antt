-- `groups::under1` meets its contract.
use mathlib.Core.List.{[], ◌∷◌}
use mathlib.Core.Path.{◌∙◌}
use Rattle.paper.specs.Section7.{zeros}
use Rattle.groups.specs.Groups.{key_for}
use Rattle.groups.proofs.OnPlanes.{ended}
use Rattle.groups.proofs.under1.Goals as goal

pub returns : goal.returns
unfolding key_for
returns c =
    let a = c.args in
    let w = a.k.now in
    c.aes4.ensures ∙ ended (λ Z i. zeros ∷ (key_for w i).J ∷ (key_for w i).L ∷ (key_for w i).I ∷ Z ∷ []) w a.g.now c.requires
