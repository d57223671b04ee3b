use Rattle.std.proofs.Common.{◌∙◌, ap}
use Rattle.paper.specs.Document01.{Outcome}
use Rattle.aez.proofs.aez_report_figures.Goals as goal

pub returns : goal.returns
returns c =
    let e = c.figures-answer.ensures in
    (c.number_of.ensures ∙ ap (λ (o : Outcome). o.number) e, ap (λ (o : Outcome). o.output) e)
