-- `day_fit::headers_fit`: one header after the other.
use Rattle.std.proofs.Common.{true, false, ◌∙◌, ◌+◌, sym, ap, drop}
use Rattle.paper.specs.Strings.{Bytes}
use Rattle.paper.specs.DayFile.{present, header_fits, headers_of}
use Rattle.day_fit.proofs.Walks.{fits_as_read, header_turn, header_past, header_unfit, headers_end}
use Rattle.day_fit.proofs.headers_fit.Goals as goal

pub returns-then-rest-n : goal.returns-then-rest-n
returns-then-rest-n c =
    let l = c.loop-n in
    sym (l.invariant ∙ header_past c.args.lengths.now l.n-index l.rest.now c.loop-n-test.true c.if-rest-n.true)

pub returns-then-is_err : goal.returns-then-is_err
returns-then-is_err c =
    let l = c.loop-n in
    let unfit = ap header_fits (sym c.split_at.ensures.front) ∙ fits_as_read c.split_at.result.0.now c.read.result c.read.ensures true (sym c.is_err.ensures.value ∙ c.if-is_err.true) in
    sym (l.invariant ∙ header_unfit c.args.lengths.now l.n-index l.rest.now c.loop-n-test.true unfit)

pub loop-n-preserved : goal.loop-n-preserved
loop-n-preserved c =
    let l = c.loop-n in
    let fit = ap header_fits (sym c.split_at.ensures.front) ∙ fits_as_read c.split_at.result.0.now c.read.result c.read.ensures false (sym c.is_err.ensures.value ∙ c.if-is_err.false) in
    l.invariant
    ∙ header_turn c.args.lengths.now l.n-index l.rest.now c.loop-n-test.true c.if-rest-n.false fit
    ∙ ap (λ (X : Bytes). present (headers_of (drop (l.n-index + 1) c.args.lengths.now) X)) (sym c.split_at.ensures.back)

pub returns : goal.returns
returns c =
    let l = c.loop-n in
    let none = headers_end c.args.lengths.now l.n-index l.rest.now c.loop-n-test.false in
    cc
