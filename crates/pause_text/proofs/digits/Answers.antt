-- The digits that the chain counts are the definition's.
use Rattle.std.proofs.Common.{rules, tests, ◌≡◌, ◌∙◌, ◌≤◌, subst, sym, length, take}
use Rattle.std.specs.Char.{is_ascii_digit}
use Rattle.std.specs.List.{AllPass}
use Rattle.std.proofs.lemmas.Iterator.{YieldsList-from_slice}
use Rattle.std.proofs.lemmas.Iterator.Consumers.{count_from_yields_List}
use Rattle.std.proofs.lemmas.Iterator.Search.{YieldsList-from_take_while}
use Rattle.std.proofs.lemmas.List.Folds.{length-prefix_len}
use Rattle.paper.specs.Pause.{is_digit, digits_first}
use Rattle.laws.proofs.PauseSteps.{digits_within}
use Rattle.pause_text.proofs.Texts.{digits_counted, digits_pass}
use Rattle.pause_text.proofs.digits.Goals as goal

counted : (c : goal.After-count) → c.count.result ≡ digits_first c.args.text.now
counted c =
    count_from_yields_List c.take_while.result _ c.count.ensures.ran (YieldsList-from_take_while _ is_ascii_digit (YieldsList-from_slice c.args.text.now cc) c.take_while.ensures.closure c.take_while.ensures.done (λ x b q k. search (rules, tests)))
    ∙ length-prefix_len is_ascii_digit c.args.text.now
    ∙ digits_counted c.args.text.now

pub returns : goal.returns
returns c = record {
  value = counted c;
  within = subst (λ n. n ≤ length c.args.text.now) (sym (counted c)) (digits_within c.args.text.now);
  digits = subst (λ n. AllPass is_digit (take n c.args.text.now)) (sym (counted c)) (digits_pass c.args.text.now);
}
