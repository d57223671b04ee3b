use Rattle.std.proofs.Common.{◌≡◌, take}
use Rattle.paper.specs.Pause.{decimal_after}
use Rattle.pause_text.proofs.number.Given as goal

-- the value is the number that the digits passed represent
abbrev pub invariant-loop-b : goal.invariant-loop-b
invariant-loop-b l = l.value ≡ decimal_after l.n (take l.b-index l.digits)
