use Rattle.std.proofs.Common.{◌*◌, length}
use Rattle.hash.proofs.Fitting.{Filled, block_of_line}
use Rattle.hash.proofs.prf.Given as goal

-- out is filled with the first i blocks, as far as they fit
abbrev pub invariant-loop-i : goal.invariant-loop-i
invariant-loop-i l = Filled (block_of_line l.b l.delta) (length l.initial.out) l.out (16 * l.i) l.i
