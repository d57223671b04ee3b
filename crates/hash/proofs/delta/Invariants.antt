use Rattle.std.proofs.Common.{◌≡◌, ◌+◌, ◌-◌, ◌≤◌, length}
use Rattle.paper.specs.Figure6.{E}
use Rattle.key.specs.Meaning.{blocks}
use Rattle.strings.specs.Sums.{so_far}
use Rattle.hash.proofs.Summed.{summed}
use Rattle.hash.proofs.delta.Given as goal

-- with the strings that are left, what is hashed so far is what was begun
abbrev pub invariant-loop-i : goal.invariant-loop-i
invariant-loop-i l = record {
  within : l.at ≤ length l.h;
  few : l.count ≤ 16;
  same :
      summed (E (blocks l.k)) l.h (so_far (blocks l.k) l.initial.sum) 1 2 l.count
      ≡ summed (E (blocks l.k)) l.h (so_far (blocks l.k) l.sum) l.at (l.i + 2) (l.count - l.i);
}
