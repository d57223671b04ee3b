use Rattle.std.proofs.Common.{◌≡◌, ◌≤◌, length}
use Rattle.paper.specs.Document01.{reading}
use Rattle.header.specs.Places.{read_as}
use Rattle.header.proofs.Walk.{rest}
use Rattle.header.proofs.read.Given as goal

-- what the definition reads of the header is the strings of the entries passed, and what it reads of the rest
abbrev pub invariant-loop-k : goal.invariant-loop-k
invariant-loop-k l = record { some : l.k ≤ l.n; inside : l.at ≤ length l.h; reads : read_as (reading l.h) ≡ rest l.h l.n l.at l.k }
