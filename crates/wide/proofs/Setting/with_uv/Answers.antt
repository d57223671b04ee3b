use Rattle.std.proofs.Common.{length, sym, ◌∙◌, arith}
use borrow.Author.Tests.{eqb-true, eqb-false}
use Rattle.paper.specs.Figure6.{E}
use Rattle.tbc.specs.Meaning.{base}
use Rattle.wide.proofs.UvParts.{with_none, with_short, with_both}
use Rattle.wide.proofs.Setting.with_uv.Goals as goal

pub returns-then-is_empty : goal.returns-then-is_empty
returns-then-is_empty c =
    let a = c.args in
    with_none (E (base a.self.now.k)) a.total a.uv.now (eqb-true (length a.uv.now) 0 (sym c.is_empty.ensures ∙ c.if-is_empty.true))

pub returns-then-uv-le-SHORT : goal.returns-then-uv-le-SHORT
returns-then-uv-le-SHORT c =
    let a = c.args in
    let some = eqb-false (length a.uv.now) 0 (sym c.is_empty.ensures ∙ c.if-is_empty.false) in
    with_short (E (base a.self.now.k)) a.total a.uv.now some (omega (arith, c.if-uv-le-SHORT.true)) c.pad.result c.added.result c.pad.ensures c.added.ensures

pub returns-else-uv-le-SHORT : goal.returns-else-uv-le-SHORT
returns-else-uv-le-SHORT c =
    let a = c.args in
    with_both (E (base a.self.now.k)) a.total a.uv.now (omega (arith, c.if-uv-le-SHORT.false)) c.load-u.result c.added-more.result c.pad-v.result c.added-else-uv-le-SHORT.result
    c.load-u.ensures c.added-more.ensures c.pad-v.ensures c.added-else-uv-le-SHORT.ensures
