use Rattle.std.proofs.Common.{◌∙◌, ap}
use Rattle.paper.specs.Document01.{Outcome}
use Rattle.aez.proofs.aez_day_open.Goals as goal

pub returns : goal.returns
returns c =
    let e = c.open-answer.ensures in
    (c.number_of.ensures ∙ ap (λ (o : Outcome). o.number) e, c.length_of.ensures ∙ ap (λ (o : Outcome). o.size) e, ap (λ (o : Outcome). o.output) e)
