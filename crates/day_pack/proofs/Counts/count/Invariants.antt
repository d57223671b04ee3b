-- `all` is the count of the bits before i, and the groups that start before i are noted.
use Rattle.std.proofs.Common.{◌≡◌, length}
use Rattle.day_pack.specs.Bits.{bits_below, Tallied}
use Rattle.day_pack.proofs.Counts.count.Given as goal

abbrev pub invariant-loop-i : goal.invariant-loop-i
invariant-loop-i l = record {
  table : l.self.table.now ≡ l.fn.self.table.now;
  count : l.all ≡ bits_below l.fn.self.table.now l.i;
  noted : Tallied l.self.before l.fn.self.table.now l.i;
  long : length l.self.before ≡ 205;
}
