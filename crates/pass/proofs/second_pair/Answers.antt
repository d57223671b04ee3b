use Rattle.std.proofs.Common.{ap, ◌∙◌}
use Rattle.paper.specs.Strings.{Bytes, ◌⊕◌}
use Rattle.paper.specs.Figure6.{E}
use Rattle.tbc.specs.Meaning.{base}
use Rattle.pass.proofs.Steps.{second_made}
use Rattle.pass.proofs.second_pair.Goals as goal

pub returns : goal.returns
returns c =
    let first = c.xor-first.ensures ∙ ap (λ (l : Bytes). c.xor-z.result ⊕ l) c.e.ensures in
    let made =
    second_made (E (base c.args.at.now.k)) c.args.at.now.b c.args.part.now c.load.result c.load-2.result c.load.ensures c.load-2.ensures
    c.args.sum c.e-s.result c.xor-y.result c.xor-z.result c.added-second.result c.xor-first.result
    c.e-s.ensures c.xor-y.ensures c.xor-z.ensures c.added-second.ensures first in
    (made.0, c.put_two.ensures ∙ made.1)
