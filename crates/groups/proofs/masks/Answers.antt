-- `groups::masks`: a turn gives one number more its mask, and leads its power on.
use Rattle.std.proofs.Common.{◌≡◌, ℕ, ◌+◌, ◌*◌, ◌%◌, refl, ap, sym, ◌∙◌, arith}
use Rattle.paper.specs.Strings.{Bytes, ◌⊕◌}
use Rattle.paper.specs.Section7.{two_to}
use Rattle.laws.proofs.Made.{filled_none, filled_more, filled_all}
use Rattle.laws.proofs.Multiples.{two_to_zero}
use Rattle.columns.specs.Columns.{columns_of, block_of}
use Rattle.columns.proofs.Conversions.{block_of_block}
use Rattle.multiples.specs.Eight.{four_at}
use Rattle.groups.proofs.Powers.{steps, next_from}
use Rattle.groups.proofs.masks.Goals as goal

pub loop-i-init : goal.loop-i-init
loop-i-init c =
    let a = c.args in
    let none : steps a.b (a.b + 0) ≡ 0 = omega arith in
    (filled_none refl, sym (ap (λ (k : ℕ). two_to k (block_of a.power)) none ∙ two_to_zero (block_of a.power)))

pub loop-i-preserved : goal.loop-i-preserved
loop-i-preserved c =
    let a = c.args in
    let l = c.loop-i in
    let n = a.b + l.i in
    let next : n + 1 ≡ a.b + (l.i + 1) = omega arith in
    let made = ap (λ (X : Bytes). columns_of (block_of (four_at a.m.now (4 * (n % 8))) ⊕ X)) l.invariant.1 in (
      filled_more c.running_mask.result l.invariant.0 (omega arith) (c.running_mask.ensures ∙ made),
      ap block_of c.next_power-next.ensures
          ∙ next_from a.b n (block_of a.power) l.p (block_of_block a.power) c.requires.0 (omega arith) l.invariant.1
          ∙ ap (λ (k : ℕ). two_to (steps a.b k) (block_of a.power)) next,
    )

pub returns : goal.returns
returns c = filled_all c.loop-i.invariant.0 (omega arith)
