-- `day_pack::Counts::below`: one bit more in each turn.
use Rattle.std.proofs.Common.{◌≡◌, ◌+◌, ◌∙◌, ap, arith}
use Rattle.day_pack.specs.Bits.{bits_below}
use Rattle.day_pack.proofs.Table.{bits_more, bits_below_lem}
use Rattle.day_pack.proofs.Counts.below.Goals as goal

pub loop-i-init : goal.loop-i-init
loop-i-init c = c.requires.1

pub overflow_add-r : goal.overflow_add-r
overflow_add-r c = omega (arith, bits_below_lem c.args.self.now.table.now c.loop-i.i, c.loop-i.invariant)

pub loop-i-preserved : goal.loop-i-preserved
loop-i-preserved c = (λ j. c.loop-i.invariant j + c.bit-r.ensures.0 j) ∙ bits_more c.args.self.now.table.now c.loop-i.i

pub returns : goal.returns
returns c = let all : c.loop-i.i ≡ c.args.n = omega arith in c.loop-i.invariant ∙ ap (bits_below c.args.self.now.table.now) all
