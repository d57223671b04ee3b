use Rattle.std.proofs.Common.{arith}
use Rattle.std.proofs.lemmas.Result.{err_from_is_err_and}
use Rattle.settle.proofs.Settles.{sealing_first, short_stretch, sealing_4, sealing_6, sealing_0}
use Rattle.settle.proofs.settled_sealing.Goals as goal

pub returns-in_err-settled : goal.returns-in_err-settled
returns-in_err-settled c =
    let p = err_from_is_err_and c.from_residual.result c.from_residual.ensures.1 in
    let a = c.args in
    rw (p.1, p.2) (sealing_first a.key.now a.header.now a.stretch.0 a.text a.room _ c.in_err-settled.ensures)

pub overflow_sub-t : goal.overflow_sub-t
overflow_sub-t c = let a = c.args in omega (arith, short_stretch a.key.now a.header.now a.stretch.0 a.text a.room c.in_ok-settled.ensures)

pub returns-then-t-text : goal.returns-then-t-text
returns-then-t-text c =
    let a = c.args in
    let short = short_stretch a.key.now a.header.now a.stretch.0 a.text a.room c.in_ok-settled.ensures in
    sealing_4 a.key.now a.header.now a.stretch.0 a.text a.room c.in_ok-settled.ensures (omega (arith, short))

pub returns-then-room-text : goal.returns-then-room-text
returns-then-room-text c =
    let a = c.args in
    let short = short_stretch a.key.now a.header.now a.stretch.0 a.text a.room c.in_ok-settled.ensures in
    sealing_6 a.key.now a.header.now a.stretch.0 a.text a.room c.in_ok-settled.ensures (omega (arith, short)) c.if-room-text.true

pub returns : goal.returns
returns c =
    let a = c.args in
    let short = short_stretch a.key.now a.header.now a.stretch.0 a.text a.room c.in_ok-settled.ensures in
    sealing_0 a.key.now a.header.now a.stretch.0 a.text a.room c.in_ok-settled.ensures (omega (arith, short)) c.if-room-text.false
