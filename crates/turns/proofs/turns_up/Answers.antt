-- One turn more, and after the last all.
use Rattle.std.proofs.Common.{◌≡◌, ℕ, ap, ◌∙◌, arith}
use Rattle.columns.specs.Columns.{block_of}
use Rattle.aes.specs.Steps.{keys_of}
use Rattle.halves.specs.Blocks.{blocks_of}
use Rattle.turns.specs.Turns.{block_turns_up}
use Rattle.turns.proofs.Loops.{up_none, up_more}
use Rattle.turns.proofs.turns_up.Goals as goal

pub loop-i-init : goal.loop-i-init
loop-i-init c = up_none (keys_of c.args.keys.now) (block_of c.args.bits) (blocks_of c.args.s)

pub loop-i-preserved : goal.loop-i-preserved
loop-i-preserved c =
    up_more (keys_of c.args.keys.now) (block_of c.args.bits) c.loop-i.i (blocks_of c.args.s) (blocks_of c.loop-i.t) (blocks_of c.turn-t.result) c.loop-i.invariant
    c.turn-t.ensures

pub returns : goal.returns
returns c =
    let all : c.loop-i.i ≡ c.rounds-i-end.result = omega arith in
    c.loop-i.invariant
    ∙ ap (λ (k : ℕ). block_turns_up (keys_of c.args.keys.now) (block_of c.args.bits) k (blocks_of c.args.s)) (all ∙ c.rounds-i-end.ensures)
