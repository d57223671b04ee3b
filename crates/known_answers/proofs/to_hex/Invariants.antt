-- What is put never passes the line's end.
use Rattle.std.proofs.Common.{◌≤◌, length}
use Rattle.known_answers.proofs.to_hex.Given as goal

abbrev pub invariant-loop-b : goal.invariant-loop-b
invariant-loop-b l = l.j ≤ length l.line
