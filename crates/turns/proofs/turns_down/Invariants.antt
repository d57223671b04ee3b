-- The turns below i are left.
use Rattle.std.proofs.Common.{◌≡◌}
use Rattle.columns.specs.Columns.{block_of}
use Rattle.aes.specs.Steps.{keys_of}
use Rattle.halves.specs.Blocks.{blocks_of}
use Rattle.turns.specs.Turns.{block_turns_down}
use Rattle.turns.proofs.turns_down.Given as goal

abbrev pub invariant-loop-i : goal.invariant-loop-i
invariant-loop-i l =
    block_turns_down (keys_of l.keys) (block_of l.bits) l.i (blocks_of l.t)
    ≡ block_turns_down (keys_of l.keys) (block_of l.bits) l.initial.i (blocks_of l.initial.t)
