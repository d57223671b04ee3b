-- `planes::blocks`: the first b blocks are those of the words.
use Rattle.std.proofs.Common.{[]}
use Rattle.laws.proofs.Made.{Filled}
use Rattle.planes.specs.Planes.{group_block}
use Rattle.planes.proofs.blocks.Given as goal

abbrev pub invariant-loop-b : goal.invariant-loop-b
invariant-loop-b l = Filled 16 [] (group_block l.w) l.r l.b
