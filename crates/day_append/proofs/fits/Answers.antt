-- `day_append::fits`: the header's number and the header, and then the stretch.
use Rattle.std.proofs.Common.{◌≡◌, ◌&&◌, Bool, ap, sym, ◌∙◌}
use lib.Dec.{leb}
use Rattle.day_append.proofs.Settles.{named, named_there, named_next, named_past}
use Rattle.day_append.proofs.fits.Goals as goal
use Rattle.day_append.proofs.fits.Goals.{then-number-headers, else-number-headers+then-number-headers-2, else-number-headers+else-number-headers-2}

pub returns-then-is_ok : goal.returns-then-is_ok
returns-then-is_ok c =
    let a = c.args in
    let is : named a.number a.header.now a.headers ≡ c.if-number-headers.value =
    elim c.if-number-headers.branch [
      | then-number-headers w ↦ sym (w.value-is ∙ named_there a.number a.header.now a.headers w.if-number-headers.true)
      | else-number-headers+then-number-headers-2 w ↦
          sym (w.value-is ∙ w.is_ok.ensures.value ∙ named_next a.number a.header.now a.headers w.if-number-headers-2.true w.read.result w.read.ensures)
      | else-number-headers+else-number-headers-2 w ↦
          sym (w.value-is ∙ named_past a.number a.header.now a.headers w.if-number-headers.false w.if-number-headers-2.false)
    ] in
    ap (λ (b : Bool). b && leb a.stretch 64) (sym (is ∙ c.if-is_ok.true))

pub returns-else-is_ok : goal.returns-else-is_ok
returns-else-is_ok c =
    let a = c.args in
    let is : named a.number a.header.now a.headers ≡ c.if-number-headers.value =
    elim c.if-number-headers.branch [
      | then-number-headers w ↦ sym (w.value-is ∙ named_there a.number a.header.now a.headers w.if-number-headers.true)
      | else-number-headers+then-number-headers-2 w ↦
          sym (w.value-is ∙ w.is_ok.ensures.value ∙ named_next a.number a.header.now a.headers w.if-number-headers-2.true w.read.result w.read.ensures)
      | else-number-headers+else-number-headers-2 w ↦
          sym (w.value-is ∙ named_past a.number a.header.now a.headers w.if-number-headers.false w.if-number-headers-2.false)
    ] in
    c.if-is_ok.false ∙ ap (λ (b : Bool). b && leb a.stretch 64) (sym (is ∙ c.if-is_ok.false))
