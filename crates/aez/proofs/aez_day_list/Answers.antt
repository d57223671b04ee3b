use Rattle.std.proofs.Common.{◌∙◌, ap}
use Rattle.paper.specs.DayFile.{Listing}
use Rattle.aez.proofs.aez_day_list.Goals as goal

pub returns-in-Ok : goal.returns-in-Ok
returns-in-Ok c =
    let e = c.in-Ok.ensures in
    (ap (λ (o : Listing). o.number) e, ap (λ (o : Listing). o.headers) e, ap (λ (o : Listing). o.records) e, ap (λ (o : Listing). o.places) e)

pub returns-in-Err : goal.returns-in-Err
returns-in-Err c =
    let e = c.in-Err.ensures in
    (c.number.ensures ∙ ap (λ (o : Listing). o.number) e, ap (λ (o : Listing). o.headers) e, ap (λ (o : Listing). o.records) e, ap (λ (o : Listing). o.places) e)
