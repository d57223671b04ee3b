-- With the strings that are left, what is hashed so far is Δ; where the header does not read, Δ is zero.
use Rattle.std.proofs.Common.{◌≡◌, ◌+◌, ◌-◌, ap, arith, sym, ◌∙◌}
use Rattle.paper.specs.Figure6 as figure6
use Rattle.paper.specs.Figure6.{k0, E}
use Rattle.key.specs.Meaning.{blocks}
use Rattle.key.proofs.Keys.{has_blocks}
use Rattle.strings.specs.Sums.{so_far}
use Rattle.strings.proofs.Waits.{first_string, so_short}
use Rattle.hash.proofs.Summed.{summed, not_counted, begun, turn, stop, good, over}
use Rattle.hash.proofs.delta.Goals as goal

pub returns-in_default : goal.returns-in_default
returns-in_default c =
    let a = c.args in
    not_counted (E (blocks a.k)) a.h.now a.stretch.0 c.in_default.field-0 c.in_default.ensures.value

pub returns-in_default-entry : goal.returns-in_default-entry
returns-in_default-entry c =
    let a = c.args in
    let K = blocks a.k in
    let F = E K in
    let h = a.h.now in
    let l = c.loop-i in
    let n = c.in-Ok.count in
    let first = first_string K F a.stretch.0 c.nothing-sum.result c.nothing-sum.ensures.0 c.nothing-sum.ensures.2 c.add_string.ensures c.number-bits.ensures in
    let so = begun F h a.stretch.0 n _ c.in-Ok.ensures.value first ∙ l.invariant.same in
    sym (so ∙ stop F h (so_far K l.sum) l.at (l.i + 2) (n - l.i) (omega arith) c.in_default-entry.ensures.value)

pub loop-i-preserved : goal.loop-i-preserved
loop-i-preserved c =
    let a = c.args in
    let K = blocks a.k in
    let F = E K in
    let h = a.h.now in
    let l = c.loop-i in
    let n = c.in-Ok.count in
    let place = c.in-Some.place in
    let next : l.i + 2 + 1 ≡ l.i + 1 + 2 = omega arith in
    let left : n - l.i - 1 ≡ n - (l.i + 1) = omega arith in
    record {
      within = c.in-Some.ensures.within.1;
      few = l.invariant.few;
      same =
          l.invariant.same
          ∙ turn F h (so_far K l.sum) l.at (l.i + 2) (n - l.i) place _ (omega arith) (omega arith) c.in-Some.ensures.value c.add_string-in-loop-i.ensures
          ∙ (λ k. summed F h (so_far K c.add_string-in-loop-i.new.self) place.end (next k) (left k));
    }

pub returns-then-ends : goal.returns-then-ends
returns-then-ends c =
    let a = c.args in
    let K = blocks a.k in
    let F = E K in
    let h = a.h.now in
    let l = c.loop-i in
    let n = c.in-Ok.count in
    let first = first_string K F a.stretch.0 c.nothing-sum.result c.nothing-sum.ensures.0 c.nothing-sum.ensures.2 c.add_string.ensures c.number-bits.ensures in
    let so = begun F h a.stretch.0 n _ c.in-Ok.ensures.value first ∙ l.invariant.same in
    c.hashed.ensures
    ∙ ap (λ (K : figure6.Key). so_far K l.sum) (has_blocks a.k _ c.well_formed.0 c.base-b.result c.base-b.ensures)
    ∙ sym
    (so ∙ good F h (so_far K l.sum) l.at (l.i + 2) (n - l.i) (omega arith) c.if-ends.true (so_short (k0 K) l.sum.group l.sum.waiting l.sum.total))

pub returns-else-ends : goal.returns-else-ends
returns-else-ends c =
    let a = c.args in
    let K = blocks a.k in
    let F = E K in
    let h = a.h.now in
    let l = c.loop-i in
    let n = c.in-Ok.count in
    let first = first_string K F a.stretch.0 c.nothing-sum.result c.nothing-sum.ensures.0 c.nothing-sum.ensures.2 c.add_string.ensures c.number-bits.ensures in
    let so = begun F h a.stretch.0 n _ c.in-Ok.ensures.value first ∙ l.invariant.same in
    sym (so ∙ over F h (so_far K l.sum) l.at (l.i + 2) (n - l.i) (omega arith) (omega (arith, c.if-ends.false, l.invariant.within)))
