-- `day_clear::rising`: one entry after the other.
use Rattle.std.proofs.Common.{sym, ◌∙◌}
use Rattle.day_pack.proofs.Beside.{rising_low, rising_absent, rising_turn, rising_end}
use Rattle.day_clear.proofs.rising.Goals as goal
use Rattle.day_clear.proofs.rising.Goals.{then-n-low-via-then-n-low, then-n-low-via-else-n-low+then-records-n}

pub returns-then-n-low : goal.returns-then-n-low
returns-then-n-low c =
    let a = c.args in
    let l = c.loop-n in
    elim c.then-n-low.branch [
      | then-n-low-via-then-n-low w ↦
          rising_low a.dropped.now a.records l.n-index l.low c.loop-n-test.true w.if-n-low.true ∙ sym l.invariant
      | then-n-low-via-else-n-low+then-records-n w ↦
          rising_absent a.dropped.now a.records l.n-index l.low c.loop-n-test.true w.if-n-low.false w.if-records-n.true ∙ sym l.invariant
    ]

pub loop-n-preserved : goal.loop-n-preserved
loop-n-preserved c =
    let l = c.loop-n in
    l.invariant ∙ rising_turn c.args.dropped.now c.args.records l.n-index l.low c.loop-n-test.true c.if-n-low.false c.if-records-n.false

pub returns : goal.returns
returns c =
    let l = c.loop-n in
    sym (l.invariant ∙ rising_end c.args.dropped.now c.args.records l.n-index l.low c.loop-n-test.false)
