use Rattle.std.proofs.Common.{◌∙◌, ap}
use Rattle.paper.specs.Document01.{OutcomeAt}
use Rattle.aez.proofs.aez_seal.Goals as goal

pub returns : goal.returns
returns c =
    let e = c.seal-answer.ensures in
    (c.number_of.ensures ∙ ap (λ (o : OutcomeAt). o.number) e, ap (λ (o : OutcomeAt). o.output) e)
