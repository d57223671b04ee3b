use Rattle.std.proofs.Common.{ap, ◌∙◌}
use Rattle.paper.specs.Strings.{Bytes, ◌⊕◌}
use Rattle.paper.specs.Figure6.{E}
use Rattle.tbc.specs.Meaning.{base}
use Rattle.pass.proofs.Steps.{first_made}
use Rattle.pass.proofs.first_pair.Goals as goal

pub returns : goal.returns
returns c =
    let w = c.xor-w.ensures ∙ ap (λ (l : Bytes). c.load-left.result ⊕ l) c.e.ensures in
    let made =
    first_made (E (base c.args.at.now.k)) c.args.at.now.b c.args.part.now c.load-left.result c.load-right.result c.load-left.ensures c.load-right.ensures
    c.xor-w.result c.added-x.result w c.added-x.ensures in
    (made.0, c.put_two.ensures ∙ made.1)
