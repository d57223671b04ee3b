-- Each kept part is its multiple.
use Rattle.std.proofs.Common.{◌≡◌, ap, arith, refl, sym, ◌∙◌}
use Rattle.paper.specs.Strings.{Block}
use Rattle.paper.specs.Section7.{◌·◌}
use Rattle.laws.proofs.KeyBlocks.{times_block}
use Rattle.laws.proofs.Linear.{times_two}
use Rattle.laws.proofs.Multiples.{times_even}
use Rattle.block.proofs.Arrays.{array_bytes}
use Rattle.columns.specs.Columns.{columns_of}
use Rattle.columns.proofs.Conversions.{made, double_of}
use Rattle.multiples.specs.Eight.{multiples}
use Rattle.multiples.proofs.Kept.{kept}
use Rattle.key.proofs.record_of.Goals as goal

pub invariant_of-result : goal.invariant_of-result
invariant_of-result c =
    let a = c.args in
    let I : Block a.i = array_bytes 16 _ _ c.well_formed.0 in
    let J : Block a.j = array_bytes 16 _ _ c.well_formed.1.0 in
    let L : Block a.l = array_bytes 16 _ _ c.well_formed.1.1.0 in
    let Js : c.multiples-js.result ≡ multiples a.j = c.multiples-js.ensures ∙ ap multiples (made J c.of_block-of_j.ensures) in
    let read = kept a.j c.multiples-js.result Js in
    let four : c.multiple.result ≡ columns_of (4 · a.j) = c.multiple.ensures ∙ read 4 (omega arith) in
    let eight = double_of (times_block 4 J) four c.double-j8.ensures ∙ ap columns_of (sym (times_even 8 a.j (omega arith) refl)) in
    record {
      twice_i = double_of I c.of_block.ensures c.double.ensures ∙ ap columns_of (sym (times_two a.i I));
      twice_j = c.multiple-2.ensures ∙ read 2 (omega arith);
      of_l = c.multiples.ensures ∙ ap multiples (made L c.of_block-2.ensures);
      of_j = Js;
      of_8j = c.multiples-2.ensures ∙ ap multiples (made (times_block 8 J) eight);
    }
