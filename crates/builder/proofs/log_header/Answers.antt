use Rattle.std.proofs.Common.{sym, ◌∙◌}
use Rattle.std.proofs.lemmas.Result.{err_from_is_err_and}
use Rattle.builder.proofs.Items.{builds_0}
use Rattle.builder.proofs.Answers.{refuses, accepts, wrote}
use Rattle.builder.proofs.log_header.Goals as goal

pub returns-in_err-size : goal.returns-in_err-size
returns-in_err-size c =
    let p = err_from_is_err_and c.from_residual.result c.from_residual.ensures.1 in
    let a = c.args in
    rw (p.1, p.2) (refuses a.nonce.now a.host.now a.collector.now a.locale.now _ a.out.now c.in_err-size.ensures)

pub put_log-requires : goal.put_log-requires
put_log-requires c =
    let a = c.args in
    (accepts a.nonce.now a.host.now a.collector.now a.locale.now _ _ c.in_ok-size.ensures).1

pub returns : goal.returns
returns c =
    let a = c.args in
    let fits = accepts a.nonce.now a.host.now a.collector.now a.locale.now _ _ c.in_ok-size.ensures in
    wrote a.nonce.now a.host.now a.collector.now a.locale.now _ a.out.now c.put_log.new.out fits.2 c.put_log.ensures
    ∙ sym (builds_0 a.nonce.now a.host.now a.collector.now a.locale.now fits.0 a.out.now fits.1)
