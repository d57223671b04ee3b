use Rattle.std.proofs.Common.{◌∙◌, ap}
use Rattle.paper.specs.Document01.{OutcomeAt}
use Rattle.aez.proofs.aez_seal_at.Goals as goal

pub returns : goal.returns
returns c =
    let e = c.seal-sealed.ensures in
    (c.number_of.ensures ∙ ap (λ (o : OutcomeAt). o.number) e, ap (λ (o : OutcomeAt). o.output) e, c.place_of.ensures ∙ ap (λ (o : OutcomeAt). o.place) e)
