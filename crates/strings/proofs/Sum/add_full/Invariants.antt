use Rattle.std.proofs.Common.{◌≡◌, ◌+◌, ◌-◌, ◌/◌}
use Rattle.paper.specs.Strings.{◌⊕◌, sum}
use Rattle.paper.specs.Section7.{two_to}
use Rattle.columns.specs.Columns.{columns_of, block_of}
use Rattle.tbc.specs.Meaning.{base}
use Rattle.strings.specs.Waiting.{full_term}
use Rattle.strings.specs.Sums.{so_far}
use Rattle.strings.proofs.Sum.add_full.Given as goal

-- the first n blocks are in the sum, and the power is that of the next
abbrev pub invariant-loop-n : goal.invariant-loop-n
invariant-loop-n l = record {
  summed : so_far (base l.k) l.self ≡ so_far (base l.k) l.initial.self ⊕ sum (l.n + 1 - 1) (full_term (base l.k) (block_of l.mask) l.t);
  carried : l.power ≡ columns_of (two_to ((l.n + 1 - 1) / 8) (base l.k).L);
}
