-- Each turn adds the pause of one record more.
use Rattle.std.proofs.Common.{◌+◌, sym, subst, arith}
use Rattle.paper.specs.DayFile.{read_day}
use Rattle.ledger.specs.Pauses.{pauses_in}
use Rattle.ledger.proofs.Bytes.{below_256}
use Rattle.ledger.proofs.Sums.{Added, all_added, one_added, pauses_are, room}
use Rattle.ledger.proofs.totals.Goals as goal

pub added-t-requires : goal.added-t-requires
added-t-requires c =
    let a = c.args in
    room a.key.now a.file.now (below_256 a.file.now c.type_inv.file) c.loop-k.k c.loop-k.t c.loop-k.invariant (omega (arith, c.requires.1)) c.pause_at.result c.pause_at.ensures

pub loop-k-preserved : goal.loop-k-preserved
loop-k-preserved c =
    let day = read_day c.args.file.now in
    let ps = pauses_in c.args.key.now day in
    subst (Added ps (c.loop-k.k + 1)) (sym c.added-t.ensures) (one_added ps c.loop-k.k c.loop-k.t c.loop-k.invariant (omega (arith, c.requires.1, pauses_are c.args.key.now day)) c.pause_at.result c.pause_at.ensures)

pub returns : goal.returns
returns c =
    let day = read_day c.args.file.now in
    all_added (pauses_in c.args.key.now day) c.loop-k.k c.loop-k.t c.loop-k.invariant (omega (arith, c.requires.1, pauses_are c.args.key.now day))
