-- Each return is one case of the definition.
use Rattle.std.proofs.Common.{sym, ◌∙◌, Err}
use Rattle.std.proofs.lemmas.Result.{err_from_is_err_and}
use Rattle.pause.proofs.Fields.{by_mark, by_text, place_refused, place_read}
use Rattle.pause.proofs.read_field.Goals as goal

pub returns-in_err-mark-clause-value : goal.returns-in_err-mark-clause-value
returns-in_err-mark-clause-value c =
    let p = err_from_is_err_and c.from_residual.result c.from_residual.ensures.1 in
    rw (p.1, p.2) (sym (by_mark c.args.header.now c.args.text.now (Err c.in_err-mark.field-0.0) c.in_err-mark.ensures))

pub returns-in_err-mark-clause-place : goal.returns-in_err-mark-clause-place
returns-in_err-mark-clause-place c =
    let p = err_from_is_err_and c.from_residual.result c.from_residual.ensures.1 in
    rw (p.1, p.2) (place_refused c.args.header.now c.in_err-mark.field-0.0 c.in_err-mark.ensures)

pub returns-clause-value : goal.returns-clause-value
returns-clause-value c = rw c.ok_or.ensures.value (sym (by_mark c.args.header.now c.args.text.now _ c.in_ok-mark.ensures ∙ by_text _ _ c.read_text.ensures))

pub returns-clause-place : goal.returns-clause-place
returns-clause-place c = rw c.ok_or.ensures.value (place_read c.args.header.now _ _ c.in_ok-mark.ensures)
