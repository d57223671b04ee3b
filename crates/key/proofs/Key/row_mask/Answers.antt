-- A kept multiple of 8·J, or three doubles of one and what is left.
use Rattle.std.proofs.Common.{ℕ, ◌≡◌, ◌-◌, ◌*◌, ◌/◌, ◌%◌, ap, sym, arith, ◌∙◌}
use Rattle.paper.specs.Section7.{◌·◌}
use Rattle.laws.proofs.KeyBlocks.{double_block, times_block}
use Rattle.laws.proofs.Linear.{times_eight, times_low}
use Rattle.columns.specs.Columns.{columns_of}
use Rattle.columns.proofs.Conversions.{sum_of, double_of}
use Rattle.pairs.specs.Meaning.{first}
use Rattle.key.proofs.Keys.{key_bytes, row_low, row_read}
use Rattle.key.proofs.Key.row_mask.Goals as goal

pub returns-then-s-lt8 : goal.returns-then-s-lt8
returns-then-s-lt8 c =
    let k = c.args.self in
    let s = c.in-Is.row - 2 in
    let row : c.in-Is.row ≡ first c.args.p.row = sym (ap first c.in-Is.is) in
    let small : s % 8 ≡ s = omega (arith, c.if-s-lt8.true) in
    c.multiple.ensures ∙ row_read k s small ∙ ap columns_of (times_eight s k.j (key_bytes k _ c.well_formed.0).J)
    ∙ ap (λ (n : ℕ). columns_of (((n - 2) * 8) · k.j)) row

pub returns-else-s-lt8 : goal.returns-else-s-lt8
returns-else-s-lt8 c =
    let k = c.args.self in
    let s = c.in-Is.row - 2 in
    let row : c.in-Is.row ≡ first c.args.p.row = sym (ap first c.in-Is.is) in
    let J = (key_bytes k _ c.well_formed.0).J in
    let J8 = times_block 8 J in
    let X = times_block (s / 8) J8 in
    let small : s / 8 % 8 ≡ s / 8 = omega (arith, row, c.requires.1) in
    let two = double_of X (c.multiple-high.ensures ∙ row_read k (s / 8) small) c.double-two.ensures in
    let four = double_of (double_block X) two c.double-four.ensures in
    let eight = double_of (double_block (double_block X)) four c.double-eight.ensures in
    sum_of (double_block (double_block (double_block X))) (times_block (s % 8) J8) eight (c.multiple-else-s-lt8.ensures ∙ row_low k s) c.xor.ensures
    ∙ ap columns_of (sym (times_low s (8 · k.j) J8) ∙ times_eight s k.j J)
    ∙ ap (λ (n : ℕ). columns_of (((n - 2) * 8) · k.j)) row
