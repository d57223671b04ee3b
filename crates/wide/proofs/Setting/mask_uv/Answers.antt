use Rattle.std.proofs.Common.{ℕ, ◌≡◌, ◌++◌, ◌-◌, length, drop, sym, ◌∙◌, arith}
use borrow.Author.Tests.{eqb-true, eqb-false}
use lib.ListN.{length-append, length-drop}
use lib.Seq.{length-take-le}
use Rattle.paper.specs.Figure6.{E}
use Rattle.tbc.specs.Meaning.{base}
use Rattle.wide.proofs.UvParts.{masked_none, masked_short, masked_both}
use Rattle.wide.proofs.Setting.mask_uv.Goals as goal

pub returns-then-is_empty : goal.returns-then-is_empty
returns-then-is_empty c =
    let a = c.args in
    masked_none (E (base a.self.now.k)) a.sum a.uv.now (eqb-true (length a.uv.now) 0 (sym c.is_empty.ensures ∙ c.if-is_empty.true))

pub returns-then-uv-le-SHORT : goal.returns-then-uv-le-SHORT
returns-then-uv-le-SHORT c =
    let a = c.args in
    let some = eqb-false (length a.uv.now) 0 (sym c.is_empty.ensures ∙ c.if-is_empty.false) in
    masked_short (E (base a.self.now.k)) a.sum a.uv.now some (omega (arith, c.if-uv-le-SHORT.true)) c.e-e.result c.mask.new.part c.e-e.ensures c.mask.ensures

pub returns : goal.returns
returns c =
    let a = c.args in
    let t = a.uv.now in
    let ys = c.mask-2.new.part in
    let more = c.if-uv-le-SHORT.false in
    let long : length ys ≡ 16 = c.mask-2.auto.part ∙ length-take-le 16 t (omega (arith, more)) in
    let n : ℕ = length (ys ++ drop 16 t) - 16 in
    let is : n ≡ length t - 16 = omega (arith, length-append ys (drop 16 t), length-drop 16 t, long, more) in
    masked_both (E (base a.self.now.k)) a.sum t (omega (arith, more)) n c.e-e.result c.e-f.result ys c.mask-3.new.part is
    c.e-e.ensures c.e-f.ensures long c.mask-2.ensures c.mask-3.ensures
