-- The turns below i are done.
use Rattle.std.proofs.Common.{◌≡◌}
use Rattle.columns.specs.Columns.{block_of}
use Rattle.aes.specs.Steps.{keys_of}
use Rattle.halves.specs.Blocks.{blocks_of}
use Rattle.turns.specs.Turns.{block_turns_up}
use Rattle.turns.proofs.turns_up.Given as goal

abbrev pub invariant-loop-i : goal.invariant-loop-i
invariant-loop-i l = blocks_of l.t ≡ block_turns_up (keys_of l.keys) (block_of l.bits) l.i (blocks_of l.initial.t)
