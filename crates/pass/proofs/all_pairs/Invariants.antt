-- The pairs before the b-th are done, and the power is the b-th's.
use Rattle.std.proofs.Common.{◌≡◌, ◌-◌, ◌/◌, length}
use Rattle.paper.specs.Section7.{two_to}
use Rattle.paper.specs.Figure6.{E}
use Rattle.columns.specs.Columns.{columns_of}
use Rattle.tbc.specs.Meaning.{base}
use Rattle.pass.specs.Pairs.{summand, new_pair}
use Rattle.pass.proofs.Passes.{Passed}
use Rattle.pass.proofs.all_pairs.Given as goal

abbrev pub invariant-loop-s : goal.invariant-loop-s
invariant-loop-s l = record {
  done : Passed (new_pair (E (base l.k)) l.pass) (summand (E (base l.k)) l.pass) l.fn.s l.total l.s l.at l.b;
  carried : l.power ≡ columns_of (two_to ((l.b - 1) / 8) (base l.k).L);
}

abbrev pub decreases-loop-s : goal.decreases-loop-s
decreases-loop-s l = length l.initial.s - l.at
