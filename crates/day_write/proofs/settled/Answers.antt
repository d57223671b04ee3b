-- `day_write::settled`: each return is one case of the definition.
use Rattle.std.proofs.Common.{sym, subst, length}
use Rattle.paper.specs.DayFile.{write_day}
use Rattle.day_write.proofs.Settles.{unheaded, unrecorded, handed, Sized, settled_9, settled_4, settled_6, settled_0}
use Rattle.day_write.proofs.settled.Goals as goal

pub returns-then-not-headers_fit : goal.returns-then-not-headers_fit
returns-then-not-headers_fit c =
    let a = c.args in
    settled_9 _ a.room (unheaded a.lengths.now a.headers.now a.numbers.now a.stretches.now a.sizes.now a.sealed.now (sym c.if-not-headers_fit.ensures))

pub returns-then-not-records_fit : goal.returns-then-not-records_fit
returns-then-not-records_fit c =
    let a = c.args in
    settled_9 _ a.room (unrecorded a.lengths.now a.headers.now a.numbers.now a.stretches.now a.sizes.now a.sealed.now (sym c.if-not-headers_fit.ensures) (sym c.if-not-records_fit.ensures))

pub returns-then-n-gt65536 : goal.returns-then-n-gt65536
returns-then-n-gt65536 c =
    let a = c.args in
    let h = handed a.lengths.now a.headers.now a.numbers.now a.stretches.now a.sizes.now a.sealed.now (sym c.if-not-headers_fit.ensures) (sym c.if-not-records_fit.ensures) in
    let sized : Sized c.size-n.result (length (write_day h.day)) = subst (Sized c.size-n.result) (sym h.size) c.size-n.ensures in
    settled_4 _ a.room h.day h.is c.size-n.result sized c.if-n-gt65536.true

pub returns-then-room-n : goal.returns-then-room-n
returns-then-room-n c =
    let a = c.args in
    let h = handed a.lengths.now a.headers.now a.numbers.now a.stretches.now a.sizes.now a.sealed.now (sym c.if-not-headers_fit.ensures) (sym c.if-not-records_fit.ensures) in
    let sized : Sized c.size-n.result (length (write_day h.day)) = subst (Sized c.size-n.result) (sym h.size) c.size-n.ensures in
    settled_6 _ a.room h.day h.is c.size-n.result sized c.if-n-gt65536.false c.if-room-n.true

pub returns : goal.returns
returns c =
    let a = c.args in
    let h = handed a.lengths.now a.headers.now a.numbers.now a.stretches.now a.sizes.now a.sealed.now (sym c.if-not-headers_fit.ensures) (sym c.if-not-records_fit.ensures) in
    let sized : Sized c.size-n.result (length (write_day h.day)) = subst (Sized c.size-n.result) (sym h.size) c.size-n.ensures in
    settled_0 _ a.room h.day h.is c.size-n.result sized c.if-n-gt65536.false c.if-room-n.false
