-- std's bytes of a number are the paper's digits.
use Rattle.std.proofs.Common.{ap, ◌∙◌}
use Rattle.block.proofs.Numbers.{bytes_digits}
use Rattle.paper.specs.Strings.{number}
use Rattle.block.proofs.number.Goals as goal

pub returns : goal.returns
returns c = c.to_be_bytes.ensures ∙ bytes_digits 16 c.from.result ∙ ap number c.from.ensures
