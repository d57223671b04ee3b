use Rattle.std.proofs.Common.{◌≡◌, ◌≤◌, ◌+◌, ◌*◌, length, take}
use Rattle.std.specs.List.{sum_by}
use Rattle.paper.specs.Ledger.{decimal}
use Rattle.line.proofs.line_length.Given as goal

-- the bytes after the figures, and the digits of the figures passed
abbrev pub invariant-loop-n : goal.invariant-loop-n
invariant-loop-n l = record { all : l.length ≡ 6 + sum_by (λ n. length (decimal n)) (take l.n-index l.n-items); few : l.length ≤ 6 + 20 * l.n-index }
