-- `sixteen::sub_bytes`: a turn puts one row slot more through the S-box.
use Rattle.std.proofs.Common.{◌≡◌, ℕ, List, length, refl, ap, ◌∙◌, below_more, not-suc-le-zero, arith, rules}
use Rattle.paper.specs.Strings.{tab}
use Rattle.paper.specs.Fips197.{sbox}
use Rattle.circuit.specs.Planes.{lane}
use Rattle.sixteen.proofs.Stores.{stored_more, stored_row, stored_other}
use Rattle.sixteen.proofs.Steps.{Substituted, substituted}
use Rattle.sixteen.proofs.sub_bytes.Goals as goal

pub loop-l-init : goal.loop-l-init
loop-l-init c = (refl, λ j h. absurd (not-suc-le-zero h))

pub loop-p-init : goal.loop-p-init
loop-p-init c = record { long = c.loop-l.invariant.0; there = λ k h. absurd (not-suc-le-zero h); others = λ k m h other. refl }

pub loop-p-preserved : goal.loop-p-preserved
loop-p-preserved c = stored_more c.loop-p.invariant (omega arith) (omega arith)

pub loop-l-preserved : goal.loop-l-preserved
loop-l-preserved c =
    let q = c.args.q in
    let l = c.loop-l.l in
    let b = c.s_boxes-b.result in
    let stored = c.loop-p.invariant in
    let eight : length b ≡ 8 = search rules in
    let bytes = c.s_boxes-b.ensures ∙ ap (λ (a : List ℕ). tab 64 (λ k. sbox (lane a k))) c.row.ensures in (
      stored.long,
      below_more (λ (j : ℕ). Substituted q c.loop-p.r j) l
          (λ j h. ap (λ (a : List ℕ). tab 64 (lane a)) (stored_other stored j (omega arith) (λ e. omega arith)) ∙ c.loop-l.invariant.1 j h)
          (ap (λ (a : List ℕ). tab 64 (lane a)) (stored_row stored (omega arith) eight) ∙ bytes),
    )

pub returns : goal.returns
returns c = substituted c.args.q c.loop-l.r (λ j h. c.loop-l.invariant.1 j (omega arith))
