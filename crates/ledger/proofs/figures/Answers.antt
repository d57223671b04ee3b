-- Each return is one case of the definition.
use Rattle.std.proofs.Common.{refl, arith}
use Rattle.std.proofs.lemmas.Result.{err_from_is_err_and}
use Rattle.paper.specs.DayFile.{read_day}
use Rattle.paper.specs.Ledger.{figures_of, reporting_figures}
use Rattle.ledger.proofs.Settled.{refusal, written}
use Rattle.ledger.proofs.figures.Goals as goal

pub returns-in_err-r : goal.returns-in_err-r
unfolding reporting_figures
returns-in_err-r c =
    let p = err_from_is_err_and c.from_residual.result c.from_residual.ensures.1 in
    rw (p.1, p.2) (refusal figures_of c.args.key.now c.args.out.now (read_day c.args.file.now) c.in_err-r.field-0.0 c.in_err-r.ensures)

pub returns : goal.returns
unfolding reporting_figures figures_of
returns c =
    written figures_of c.args.key.now c.args.out.now (read_day c.args.file.now) c.in_ok-r.r c.in_ok-r.ensures 6 c.put_figures.new.out refl (omega arith) c.put_figures.ensures
