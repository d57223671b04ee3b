use Rattle.std.proofs.Common.{arith}
use Rattle.std.proofs.lemmas.Result.{err_from_is_err_and}
use Rattle.settle.proofs.Settles.{opening_first, opening_5, opening_6, opening_0}
use Rattle.settle.proofs.settled_opening.Goals as goal

pub returns-in_err-settled : goal.returns-in_err-settled
returns-in_err-settled c =
    let p = err_from_is_err_and c.from_residual.result c.from_residual.ensures.1 in
    let a = c.args in
    rw (p.1, p.2) (opening_first a.key.now a.header.now a.stretch.0 a.sealed a.room _ c.in_err-settled.ensures)

pub returns-then-sealed-t : goal.returns-then-sealed-t
returns-then-sealed-t c =
    let a = c.args in
    opening_5 a.key.now a.header.now a.stretch.0 a.sealed a.room c.in_ok-settled.ensures (omega arith) c.if-sealed-t.true

pub returns-then-room-sealed : goal.returns-then-room-sealed
returns-then-room-sealed c =
    let a = c.args in
    opening_6 a.key.now a.header.now a.stretch.0 a.sealed a.room c.in_ok-settled.ensures (omega arith) c.if-sealed-t.false c.if-room-sealed.true

pub returns : goal.returns
returns c =
    let a = c.args in
    opening_0 a.key.now a.header.now a.stretch.0 a.sealed a.room c.in_ok-settled.ensures (omega arith) c.if-sealed-t.false c.if-room-sealed.false
