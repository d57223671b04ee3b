-- The kept ones of the records passed stand one after the other, and those to come are as they were.
use Rattle.day_pack.proofs.Records.{RecordsPacked}
use Rattle.day_pack.proofs.pack_records.Given as goal

abbrev pub invariant-loop-k : goal.invariant-loop-k
invariant-loop-k l = RecordsPacked l.fn.out l.first l.records l.last l.start l.dropped l.counts.table.now l.k l.from l.to l.j l.out
