use Rattle.std.proofs.Common.{◌≡◌}
use Rattle.paper.specs.Ledger.{gcd}
use Rattle.mean.proofs.divisor.Given as goal

-- the divisor of the two numbers at hand is that of the first two
abbrev pub invariant-loop-y : goal.invariant-loop-y
invariant-loop-y l = gcd l.a l.b ≡ gcd l.x l.y

abbrev pub decreases-loop-y : goal.decreases-loop-y
decreases-loop-y l = l.y
