-- Each return is one case of the definition.
use Rattle.std.proofs.Common.{arith, rules, ap, sym}
use Rattle.std.proofs.lemmas.Grind.{common_steps}
use Rattle.pause_unit.specs.Answers.{read_as}
use Rattle.pause_text.proofs.Reading.{no_whole, nothing_after, mark_after, no_mark_after}
use Rattle.pause_text.proofs.read_text.Goals as goal

pub returns-then-not-contains : goal.returns-then-not-contains
returns-then-not-contains c =
    ap read_as (sym (no_whole c.args.mark c.args.text.now c.digits-count.result c.digits-count.ensures.value (λ p q. grind (arith, common_steps))))

pub returns-in_err-get : goal.returns-in_err-get
returns-in_err-get c =
    let e = nothing_after c.args.mark c.args.text.now c.digits-count.result c.digits-count.ensures.value (search rules) (search rules) (search rules) in
    let value = ap read_as (sym e) in
    grind (arith, common_steps)

pub returns-then-branch-mark : goal.returns-then-branch-mark
returns-then-branch-mark c =
    let e = mark_after c.args.mark c.args.text.now c.digits-count.result c.digits-count.ensures.value (search rules) (search rules) (search rules) in
    let value = ap read_as (sym e) in
    grind (arith, common_steps)

pub returns : goal.returns
returns c =
    let e = no_mark_after c.args.mark c.args.text.now c.digits-count.result c.digits-count.ensures.value (search rules) (search rules) (search rules) in
    let value = ap read_as (sym e) in
    grind (arith, common_steps)
