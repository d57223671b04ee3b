-- `groups::sum`: a turn adds one block more.
use Rattle.std.proofs.Common.{◌≡◌, ℕ, ◌+◌, ◌-◌, List, [], length, take, get_or, length-take-le, get_or-take, refl, ap, ap₂, sym, ◌∙◌, arith}
use native.Mathlib.Numerals.{unary_clauses}
use Rattle.paper.specs.Strings.{Bytes, ◌⊕◌, sum}
use Rattle.laws.proofs.Digits.{⊕_block}
use Rattle.columns.specs.Columns.{block_of}
use Rattle.columns.proofs.Conversions.{columns_block, block_of_block}
use Rattle.groups.specs.Groups.{entry}
use Rattle.groups.proofs.sum.Goals as goal

sum_next : (i : ℕ) (f : ℕ → Bytes) → sum (i + 1) f ≡ sum i f ⊕ f (i + 1)
unfolding sum
sum_next i f = simp unary_clauses refl

abbrev up_to : List (List ℕ) → ℕ → Bytes
up_to g n = sum n (λ i. block_of (entry g (i - 1)))

pub loop-block-init : goal.loop-block-init
unfolding sum
loop-block-init c = refl

pub loop-block-preserved : goal.loop-block-preserved
loop-block-preserved c =
    let g = c.args.g.now in
    let l = c.loop-block in
    let i = l.block-index in
    let long : length (take c.args.n g) ≡ c.args.n = length-take-le c.args.n g (omega arith) in
    let before : i + 1 - 1 ≡ i = omega arith in
    let block : get_or (take c.args.n g) i [] ≡ entry g (i + 1 - 1) = get_or-take c.args.n g i [] (omega arith) ∙ ap (entry g) (sym before) in
    ap block_of c.xor-more.ensures
    ∙ columns_block (⊕_block (block_of_block l.total) (block_of_block (get_or (take c.args.n g) i [])))
    ∙ ap₂ ◌⊕◌ l.invariant (ap block_of block)
    ∙ sym (sum_next i (λ i. block_of (entry g (i - 1))))

pub returns : goal.returns
returns c =
    let g = c.args.g.now in
    let long : length (take c.args.n g) ≡ c.args.n = length-take-le c.args.n g (omega arith) in
    let all : c.loop-block.block-index ≡ c.args.n = omega arith in
    c.to_block.ensures ∙ c.loop-block.invariant ∙ ap (up_to g) all
