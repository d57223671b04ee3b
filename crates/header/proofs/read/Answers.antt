use Rattle.std.proofs.Common.{◌≡◌, ◌∙◌, sym, ◌<◌, ◌+◌, length, arith}
use Rattle.std.proofs.lemmas.Result.{err_from_is_err_and}
use Rattle.header.proofs.Counts.{count_some}
use Rattle.header.proofs.Walk.{count_bad, begun, turn, stop, good, over}
use Rattle.header.proofs.read.Goals as goal
use Rattle.header.proofs.read.Goals.{else-loop-k-test, then-loop-k-test+in-Some+else-k-n}

pub returns-in_err-n : goal.returns-in_err-n
returns-in_err-n c =
    let p = err_from_is_err_and c.from_residual.result c.from_residual.ensures.1 in
    rw (p.1, p.2) (count_bad c.args.h.now _ c.in_err-n.ensures.value)

pub loop-k-init : goal.loop-k-init
loop-k-init c = record { some = count_some c.args.h.now c.in_ok-n.n c.in_ok-n.ensures.value; inside = c.in_ok-n.ensures.few.1; reads = begun c.args.h.now c.in_ok-n.n c.in_ok-n.ensures.value }

pub returns-in_default : goal.returns-in_default
returns-in_default c =
    let l = c.loop-k in
    sym (l.invariant.reads ∙ stop c.args.h.now c.in_ok-n.n l.at l.k (omega arith) (omega arith) c.in_default.ensures.value)

pub loop-k-preserved : goal.loop-k-preserved
loop-k-preserved c =
    let l = c.loop-k in
    record {
      some = omega arith;
      inside = c.in-Some.ensures.within.1;
      reads = l.invariant.reads ∙ turn c.args.h.now c.in_ok-n.n l.at l.k (omega arith) (omega arith) c.in-Some.place c.in-Some.ensures.value;
    }

pub returns-then-at-h : goal.returns-then-at-h
returns-then-at-h c =
    let l = c.loop-k in
    elim c.loop-k-test.branch [
      | else-loop-k-test w ↦ absurd (omega (arith, l.invariant.some, w.loop-k-test.false))
      | then-loop-k-test+in-Some+else-k-n w ↦
          let past : w.in-Some.place.end < length c.args.h.now = omega (arith, w.in-Some.ensures.within.1, w.at-is) in
          sym (
          l.invariant.reads
          ∙ turn c.args.h.now c.in_ok-n.n l.at l.k (omega arith) (omega arith) w.in-Some.place w.in-Some.ensures.value
          ∙ over c.args.h.now c.in_ok-n.n w.in-Some.place.end (l.k + 1) (omega arith) (omega arith) past
          )
    ]

pub returns : goal.returns
returns c =
    let l = c.loop-k in
    elim c.loop-k-test.branch [
      | else-loop-k-test w ↦ absurd (omega (arith, l.invariant.some, w.loop-k-test.false))
      | then-loop-k-test+in-Some+else-k-n w ↦
          let at_end : w.in-Some.place.end ≡ length c.args.h.now = omega (arith, w.at-is) in
          sym (
          l.invariant.reads
          ∙ turn c.args.h.now c.in_ok-n.n l.at l.k (omega arith) (omega arith) w.in-Some.place w.in-Some.ensures.value
          ∙ good c.args.h.now c.in_ok-n.n w.in-Some.place.end (l.k + 1) (omega arith) (omega arith) at_end
          )
    ]
