use Rattle.std.proofs.Common.{arith}
use Rattle.std.proofs.lemmas.Result.{err_from_is_err_and}
use Rattle.settle.proofs.Settles.{common_0, common_1, common_3}
use Rattle.settle.proofs.settled.Goals as goal

pub returns-then-key-ne48 : goal.returns-then-key-ne48
returns-then-key-ne48 c = let a = c.args in common_1 a.key.now a.header.now a.stretch.0 c.if-key-ne48.true

pub returns-in_err-read : goal.returns-in_err-read
returns-in_err-read c =
    let p = err_from_is_err_and c.from_residual.result c.from_residual.ensures.1 in
    let a = c.args in
    rw (p.1, p.2) (common_3 a.key.now a.header.now a.stretch.0 _ c.if-key-ne48.false (omega arith) c.in_err-read.ensures)

pub returns : goal.returns
returns c = let a = c.args in common_0 a.key.now a.header.now a.stretch.0 _ c.if-key-ne48.false (omega arith) c.in_ok-read.ensures
