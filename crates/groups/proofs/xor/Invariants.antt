-- `groups::xor`: the first i blocks are summed.
use Rattle.std.proofs.Common.{[]}
use Rattle.paper.specs.Strings.{◌⊕◌}
use Rattle.laws.proofs.Made.{Filled}
use Rattle.columns.specs.Columns.{columns_of, block_of}
use Rattle.groups.specs.Groups.{entry}
use Rattle.groups.proofs.xor.Given as goal

abbrev pub invariant-loop-i : goal.invariant-loop-i
invariant-loop-i l = Filled 16 [] (λ i. columns_of (block_of (entry l.a i) ⊕ block_of (entry l.b i))) l.r l.i
