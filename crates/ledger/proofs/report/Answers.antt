-- Each return is one case of the definition.
use Rattle.std.proofs.Common.{arith}
use Rattle.std.proofs.lemmas.Result.{err_from_is_err_and}
use Rattle.paper.specs.DayFile.{read_day}
use Rattle.paper.specs.Ledger.{line_of, reporting}
use Rattle.ledger.proofs.Settled.{refusal, no_room, written}
use Rattle.ledger.proofs.report.Goals as goal

pub returns-in_err-r : goal.returns-in_err-r
unfolding reporting
returns-in_err-r c =
    let p = err_from_is_err_and c.from_residual.result c.from_residual.ensures.1 in
    rw (p.1, p.2) (refusal line_of c.args.key.now c.args.out.now (read_day c.args.file.now) c.in_err-r.field-0.0 c.in_err-r.ensures)

pub returns-then-out-length : goal.returns-then-out-length
unfolding reporting
returns-then-out-length c =
    no_room line_of c.args.key.now c.args.out.now (read_day c.args.file.now) c.in_ok-r.r c.in_ok-r.ensures (omega (arith, c.line_length-length.ensures, c.if-out-length.true))

pub put_line-requires : goal.put_line-requires
put_line-requires c = omega (arith, c.line_length-length.ensures, c.if-out-length.false)

pub returns : goal.returns
unfolding reporting
returns c =
    written line_of c.args.key.now c.args.out.now (read_day c.args.file.now) c.in_ok-r.r c.in_ok-r.ensures c.line_length-length.result c.put_line.new.out
    c.line_length-length.ensures (omega (arith, c.line_length-length.ensures, c.if-out-length.false)) c.put_line.ensures
