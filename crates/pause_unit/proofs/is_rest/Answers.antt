-- What is left of another length is another string.
use Rattle.std.proofs.Common.{length-drop, sym, ◌∙◌}
use borrow.Author.Tests.{ne_eqb}
use Rattle.pause_unit.proofs.Units.{differ}
use Rattle.pause_unit.proofs.is_rest.Goals as goal

pub returns-else-text-at : goal.returns-else-text-at
returns-else-text-at c =
    let other = c.if-text-at.false in
    ne_eqb _ _ other ∙ differ _ _ (λ e. other (sym (length-drop c.args.at c.args.text.now) ∙ e))
