-- `day_fit::records_fit`: one record after the other.
use Rattle.std.proofs.Common.{◌∙◌, ◌+◌, sym, ap, drop}
use Rattle.paper.specs.Strings.{Bytes}
use Rattle.paper.specs.DayFile.{present, records_of}
use Rattle.day_fit.proofs.Walks.{record_turn, record_past, record_unfit, records_end}
use Rattle.day_fit.proofs.records_fit.Goals as goal
use Rattle.day_fit.proofs.records_fit.Goals.{then-left-n-via-then-left-n, then-left-n-via-else-left-n+then-not-fits}

pub returns-then-left-n : goal.returns-then-left-n
returns-then-left-n c =
    let a = c.args in
    let l = c.loop-i in
    elim c.then-left-n.branch [
      | then-left-n-via-then-left-n w ↦
          sym (l.invariant ∙ record_past a.headers a.numbers.now a.stretches.now a.sizes.now l.i l.left.now c.loop-i-test.true w.if-left-n.true)
      | then-left-n-via-else-left-n+then-not-fits w ↦
          sym (l.invariant ∙ record_unfit a.headers a.numbers.now a.stretches.now a.sizes.now l.i l.left.now c.loop-i-test.true (sym w.fits.ensures ∙ w.if-not-fits.true))
    ]

pub loop-i-preserved : goal.loop-i-preserved
loop-i-preserved c =
    let a = c.args in
    let l = c.loop-i in
    l.invariant
    ∙ record_turn a.headers a.numbers.now a.stretches.now a.sizes.now l.i l.left.now c.loop-i-test.true c.if-left-n.false (sym c.fits.ensures ∙ c.if-not-fits.false)
    ∙ ap (λ (X : Bytes). present (records_of a.headers (drop (l.i + 1) a.numbers.now) (drop (l.i + 1) a.stretches.now) (drop (l.i + 1) a.sizes.now) X)) (sym c.split_at.ensures.back)

pub returns : goal.returns
returns c =
    let a = c.args in
    let l = c.loop-i in
    let none = records_end a.headers a.numbers.now a.stretches.now a.sizes.now l.i l.left.now c.loop-i-test.false in
    cc
