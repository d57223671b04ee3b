-- `answer::StretchBytes::bits` meets its contract.
use mathlib.Core.Path.{refl}
use borrow.Author.Rules.{rules}
use Rattle.answer.proofs.StretchBytes.bits.Statement.{statement}
use Rattle.answer.proofs.StretchBytes.bits.Tie as tie

returns : tie.Need-returns
returns c = refl

pub bits_spec : {M : Type 1} → statement M
bits_spec = tie.close (tie.spec
    (λ c. search rules)
    returns)
