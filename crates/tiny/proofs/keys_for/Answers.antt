-- Delta and the mark are added to each other, and to the multiple of J for the pair's number.
use Rattle.std.proofs.Common.{ℕ, ◌*◌, ◌≡◌, ◌≤◌, ap, ap₂, ◌∙◌}
use mathlib.Core.Path.{subst⁻¹}
use Rattle.paper.specs.Strings.{Bytes, ◌⊕◌}
use Rattle.paper.specs.Section7.{◌·◌}
use Rattle.paper.specs.Figure5.{tiny_index}
use Rattle.laws.proofs.Digits.{⊕_block}
use Rattle.block.proofs.Arrays.{array_bytes}
use Rattle.columns.specs.Columns.{columns_of}
use Rattle.columns.proofs.Conversions.{made, sum_of}
use Rattle.tbc.specs.Meaning.{base, masked0}
use Rattle.pairs.specs.declared.Pair.{Pair}
use Rattle.tiny.proofs.Indices.{index_le}
use Rattle.tiny.proofs.SummedHalves.{mark_block}
use Rattle.tiny.proofs.keys_for.Goals as goal

pub keys_adding-requires : goal.keys_adding-requires
keys_adding-requires c =
    let number : c.pair_for-p.result.number ≡ tiny_index (8 * c.args.n) = ap (λ (p : Pair). p.number) c.pair_for-p.ensures in
    (subst⁻¹ (λ (j : ℕ). j ≤ 7) number (index_le (8 * c.args.n)), c.requires.1)

pub returns : goal.returns
returns c =
    let a = c.args in
    let number : c.pair_for-p.result.number ≡ tiny_index (8 * a.n) = ap (λ (p : Pair). p.number) c.pair_for-p.ensures in
    let delta_block = array_bytes 16 _ _ c.well_formed.1.1.0 in
    let bit-block = mark_block a.n c.requires.0 in
    let fixed = made (⊕_block delta_block bit-block) (sum_of delta_block bit-block c.of_block.ensures c.mark.ensures c.xor-fixed.ensures) in
    c.keys_adding.ensures
    ∙ ap₂ (λ (F : Bytes) (j : ℕ). masked0 a.k (columns_of (F ⊕ j · (base a.k).J))) fixed number
