-- `groups::masks`: the first i numbers have their masks, and p is the power of the next.
use Rattle.std.proofs.Common.{◌≡◌, ◌+◌, []}
use Rattle.paper.specs.Section7.{two_to}
use Rattle.laws.proofs.Made.{Filled}
use Rattle.columns.specs.Columns.{columns_of, block_of}
use Rattle.groups.specs.Groups.{mask_from}
use Rattle.groups.proofs.Powers.{steps}
use Rattle.groups.proofs.masks.Given as goal

abbrev pub invariant-loop-i : goal.invariant-loop-i
invariant-loop-i l =
    Filled 16 [] (λ i. columns_of (mask_from l.m l.b l.fn.power i)) l.r l.i
    × (block_of l.p ≡ two_to (steps l.b (l.b + l.i)) (block_of l.fn.power))
