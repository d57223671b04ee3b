-- `day_pack::pack_records`: one record more in each turn.
use Rattle.std.proofs.Common.{◌≡◌, ◌+◌, arith}
use Rattle.day_pack.proofs.Turns.{stepped}
use Rattle.day_pack.proofs.Records.{records_first, records_all, record_there, record_moves, records_next}
use Rattle.day_pack.proofs.pack_records.Goals as goal

pub loop-k-init : goal.loop-k-init
loop-k-init c =
    let a = c.args in
    records_first a.out.now a.first a.records a.last a.start a.dropped.now a.counts.now.table.now c.requires.0 c.requires.2 c.requires.3 c.requires.1

pub entry_at-e-requires : goal.entry_at-e-requires
entry_at-e-requires c =
    let a = c.args in
    record_there a.out.now a.first a.records a.last a.start a.dropped.now a.counts.now.table.now c.requires.0 c.requires.2 c.requires.3 c.loop-k.invariant c.loop-k-test.true

pub put_kept-to-requires : goal.put_kept-to-requires
put_kept-to-requires c =
    let a = c.args in
    record_moves a.out.now a.first a.records a.last a.start a.dropped.now a.counts.now.table.now c.requires.0 c.requires.2 c.requires.3 c.loop-k.invariant c.loop-k-test.true c.entry_at-e.result c.entry_at-e.ensures.0 a.counts.now.before c.requires.4

pub loop-k-preserved : goal.loop-k-preserved
loop-k-preserved c =
    let a = c.args in
    let l = c.loop-k in
    let named = c.next_is-named.result in
    records_next a.out.now a.first a.records a.last a.start a.dropped.now a.counts.now.table.now c.requires.0 c.requires.2 c.requires.3 c.loop-k.invariant c.loop-k-test.true c.entry_at-e.result c.entry_at-e.ensures.0
    named (l.j + c.from-j.result) c.put_kept-to.result c.put_kept-to.new.out c.next_is-named.ensures (stepped l.j c.from-j.result named c.from-j.ensures)
    c.put_kept-to.ensures.0 c.put_kept-to.ensures.1

pub returns : goal.returns
returns c =
    let a = c.args in
    let all : c.loop-k.k ≡ a.records = omega arith in
    records_all a.out.now a.first a.records a.last a.start a.dropped.now a.counts.now.table.now c.requires.0 c.requires.2 c.requires.3 c.loop-k.invariant all
