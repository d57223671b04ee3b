use Rattle.std.proofs.Common.{◌∙◌, ap}
use Rattle.paper.specs.Pause.{Pause}
use Rattle.aez.proofs.aez_pause.Goals as goal

pub returns-in-Ok : goal.returns-in-Ok
returns-in-Ok c = let e = c.in-Ok.ensures.value in (ap (λ (p : Pause). p.number) e, ap (λ (p : Pause). p.microseconds) e)

pub returns-in-Err : goal.returns-in-Err
returns-in-Err c = let e = c.in-Err.ensures.value in (c.number.ensures ∙ ap (λ (p : Pause). p.number) e, ap (λ (p : Pause). p.microseconds) e)
