use Rattle.std.proofs.Common.{ℕ, ◌≡◌, ◌++◌, length, take, drop, refl, ap, ap₂, ◌∙◌, arith}
use mathlib.Core.List.{append-nil}
use borrow.Author.Rules.{rules}
use lib.Seq.{take_all, drop-length}
use Rattle.paper.specs.Strings.{◌⊕◌}
use Rattle.laws.proofs.Strings.{⊕_length}
use Rattle.wide.proofs.Masks.{one_more}
use Rattle.wide.proofs.mask.Goals as goal

pub loop-i-init : goal.loop-i-init
loop-i-init c = refl

pub loop-i-preserved : goal.loop-i-preserved
loop-i-preserved c =
    let l = c.loop-i in
    let long : length c.args.e ≡ 16 = search rules in
    one_more c.args.part.now c.args.e l.part l.i (omega (arith, c.loop-i-test.true)) (omega (arith, c.requires)) l.invariant

pub returns : goal.returns
returns c =
    let l = c.loop-i in
    let s = c.args.part.now in
    let e = c.args.e in
    let long : length e ≡ 16 = search rules in
    let done : l.i ≡ length s = omega (arith, l.auto.i-end, c.loop-i-test.false) in
    l.invariant
    ∙ ap (λ (n : ℕ). take n (s ⊕ e) ++ drop n s) done
    ∙ ap₂ ◌++◌ (take_all (length s) (s ⊕ e) (omega (arith, ⊕_length s e (omega arith)))) (drop-length s)
    ∙ append-nil (s ⊕ e)
