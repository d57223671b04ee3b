-- `groups::sum`: the blocks before the next are summed.
use Rattle.std.proofs.Common.{◌≡◌, ◌-◌}
use Rattle.paper.specs.Strings.{sum}
use Rattle.columns.specs.Columns.{block_of}
use Rattle.groups.specs.Groups.{entry}
use Rattle.groups.proofs.sum.Given as goal

abbrev pub invariant-loop-block : goal.invariant-loop-block
invariant-loop-block l = block_of l.total ≡ sum l.block-index (λ i. block_of (entry l.g (i - 1)))
