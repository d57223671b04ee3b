-- `levels::far`: the words k with k % 4 < i are new; within a turn, the first p of its words are stored.
use Rattle.std.proofs.Common.{◌≡◌}
use Rattle.levels.proofs.Turns.{far_after, with_first, eight_place}
use Rattle.levels.proofs.far.Given as goal

abbrev pub invariant-loop-i : goal.invariant-loop-i
invariant-loop-i l = l.w ≡ far_after l.fn.w l.i-counter

abbrev pub invariant-loop-p : goal.invariant-loop-p
invariant-loop-p l = l.w ≡ with_first l.initial.w (eight_place l.i) l.y l.p
