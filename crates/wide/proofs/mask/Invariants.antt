-- The first i bytes are xored.
use Rattle.std.proofs.Common.{◌≡◌, ◌++◌, take, drop}
use Rattle.paper.specs.Strings.{◌⊕◌}
use Rattle.wide.proofs.mask.Given as goal

abbrev pub invariant-loop-i : goal.invariant-loop-i
invariant-loop-i l = l.part ≡ take l.i (l.fn.part ⊕ l.e) ++ drop l.i l.fn.part
