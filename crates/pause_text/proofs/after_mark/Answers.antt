-- Each return is one case of the definition.
use Rattle.std.proofs.Common.{arith, rules, ap, sym, ◌≤◌}
use Rattle.std.proofs.lemmas.Grind.{common_steps}
use Rattle.pause_unit.specs.Answers.{read_as}
use Rattle.pause_text.proofs.Reading.{no_fraction, fraction}
use Rattle.pause_text.proofs.after_mark.Goals as goal

pub returns-then-not-contains : goal.returns-then-not-contains
returns-then-not-contains c =
    ap read_as (sym (no_fraction c.args.whole.now c.args.rest.now c.digits-count.result c.digits-count.ensures.value (λ p q. grind (arith, common_steps))))

pub returns : goal.returns
returns c =
    let least : 1 ≤ c.digits-count.result = search rules in
    let most : c.digits-count.result ≤ 3 = search rules in
    let e = fraction c.args.whole.now c.args.rest.now c.digits-count.result c.digits-count.ensures.value least most in
    let value = ap read_as (sym e) in
    grind (arith, common_steps)
