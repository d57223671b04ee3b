use Rattle.std.proofs.Common.{◌≡◌}
use Rattle.aes.specs.Steps.{keys_of}
use Rattle.strings.specs.Waiting.{added_up}
use Rattle.strings.proofs.one_by_one.Given as goal

-- the first blocks are added up
abbrev pub invariant-loop-x : goal.invariant-loop-x
invariant-loop-x l = l.total ≡ added_up (keys_of l.keys) l.g l.x-index
