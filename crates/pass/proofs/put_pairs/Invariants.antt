-- The first i pairs are put.
use Rattle.std.proofs.Common.{◌++◌, ◌-◌, ◌*◌}
use Rattle.columns.specs.Columns.{block_of}
use Rattle.groups.specs.Groups.{entry}
use Rattle.pass.proofs.Replaced.{Replaced}
use Rattle.pass.proofs.put_pairs.Given as goal

abbrev pub invariant-loop-i : goal.invariant-loop-i
invariant-loop-i l = Replaced (λ j. block_of (entry l.a (j - 1)) ++ block_of (entry l.b (j - 1))) l.fn.part l.part (32 * l.i) l.i
