-- `groups::load`: the first i blocks are loaded.
use Rattle.std.proofs.Common.{◌+◌, ◌*◌, []}
use Rattle.laws.proofs.Made.{Filled}
use Rattle.groups.specs.Groups.{loaded}
use Rattle.groups.proofs.load.Given as goal

abbrev pub invariant-loop-i : goal.invariant-loop-i
invariant-loop-i l = Filled 16 [] (λ i. loaded l.s (l.at + i * l.step)) l.r l.i
