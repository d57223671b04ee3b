-- The mask that is read is the number's multiple of J, and stands for the first key of a list: lines 404 and 405.
use Rattle.std.proofs.Common.{◌≡◌, ap, drop, sym, ◌∙◌}
use Rattle.paper.specs.Figure6.{k0, K10}
use Rattle.laws.proofs.BlockFunction.{E_404, E_405}
use Rattle.block.proofs.Arrays.{array_bytes}
use Rattle.aes.specs.Steps.{keys_of}
use Rattle.pairs.specs.Meaning.{row_of}
use Rattle.pairs.specs.declared.Row.TheVariants.{Is}
use Rattle.pairs.proofs.Pairs.{in_minus1, in_row, in_row_0, plain_small}
use Rattle.tbc.specs.Meaning.{base}
use Rattle.tbc.proofs.Masks.{first_masked, under_read}
use Rattle.tbc.proofs.e.Goals as goal

pub returns-in-MinusOne : goal.returns-in-MinusOne
returns-in-MinusOne c =
    let a = c.args in
    let K = base a.k in
    let small = plain_small (row_of a.p) a.p.number c.requires.0 in
    under_read a.k a.m.now c.requires.1 (drop 1 (K10 K)) c.keys10.result c.multiple-of_j.result (array_bytes 16 _ _ c.well_formed.1.1.1.0)
    c.keys10.ensures c.aes.ensures a.p.number small c.multiple-of_j.ensures
    ∙ sym (in_minus1 K a.x a.p c.in-MinusOne.is ∙ E_404 K a.x a.p.number)

pub returns-in-Is : goal.returns-in-Is
returns-in-Is c =
    let a = c.args in
    let K = base a.k in
    let small = plain_small (row_of a.p) a.p.number c.requires.0 in
    let zero : a.p.row ≡ Is 0 = c.in-Is.is ∙ ap Is (in_row_0 a.p _ c.requires.0 c.in-Is.is) in
    let keys = ap keys_of c.keys0.ensures ∙ first_masked a.k c.multiple-of_j.result in
    under_read a.k a.m.now c.requires.1 (drop 1 (k0 K)) c.keys0.result c.multiple-of_j.result (array_bytes 16 _ _ c.well_formed.1.1.1.0)
    keys c.aes-in-Is.ensures a.p.number small c.multiple-of_j.ensures
    ∙ sym (in_row K a.x a.p 0 zero ∙ E_405 K a.x a.p.number)
