-- One turn less, and after the last none is left.
use Rattle.std.proofs.Common.{◌≡◌, ℕ, ap, ◌∙◌, arith}
use Rattle.columns.specs.Columns.{block_of}
use Rattle.aes.specs.Steps.{keys_of}
use Rattle.halves.specs.Blocks.{blocks_of}
use Rattle.turns.specs.Turns.{block_turns_down}
use Rattle.turns.proofs.Loops.{down_more, down_none}
use Rattle.turns.proofs.turns_down.Goals as goal

pub loop-i-preserved : goal.loop-i-preserved
loop-i-preserved c =
    down_more (keys_of c.args.keys.now) (block_of c.args.bits) c.loop-i.i (blocks_of c.loop-i.t) (blocks_of c.turn-t.result) _ c.loop-i-test.true c.loop-i.invariant
    c.turn-t.ensures

pub returns : goal.returns
returns c =
    let K = keys_of c.args.keys.now in
    let M = block_of c.args.bits in
    let none : 0 ≡ c.loop-i.i = omega arith in
    down_none K M (blocks_of c.loop-i.t) _
    (ap (λ (k : ℕ). block_turns_down K M k (blocks_of c.loop-i.t)) none
    ∙ c.loop-i.invariant
    ∙ ap (λ (k : ℕ). block_turns_down K M k (blocks_of c.args.s)) c.rounds-i.ensures)
