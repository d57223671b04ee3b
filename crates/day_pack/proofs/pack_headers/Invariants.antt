-- The kept ones of the headers passed stand one after the other, and those to come are as they were.
use Rattle.day_pack.proofs.Heads.{HeadsPacked}
use Rattle.day_pack.proofs.pack_headers.Given as goal

abbrev pub invariant-loop-i : goal.invariant-loop-i
invariant-loop-i l = HeadsPacked l.fn.out l.table l.i l.from l.to l.out
