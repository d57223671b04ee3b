use Rattle.pause_mark.proofs.FourStrings.{Walked}
use Rattle.pause_mark.proofs.header_mark.Given as goal

-- at the place stand the strings that the walk has not passed, of four
abbrev pub invariant-loop : goal.invariant-loop
invariant-loop l = Walked l.header l.counter l.at
