use Rattle.std.proofs.Common.{◌≡◌, length, arith}
use borrow.Author.Rules.{rules}
use Rattle.paper.specs.Figure6.{E}
use Rattle.tbc.specs.Meaning.{base}
use Rattle.pass.specs.Pairs.{summand, new_pair}
use Rattle.pass.proofs.One.{one_summed, one_joined}
use Rattle.pass.proofs.some_pairs.Goals as goal

pub returns-then-part-eq32 : goal.returns-then-part-eq32
returns-then-part-eq32 c =
    let a = c.args in
    let f = E (base a.at.now.k) in
    let one : length a.part.now ≡ 32 = omega (arith, c.if-part-eq32.true) in
    let p = c.one_pair in
    let long : length p.result ≡ 16 = search rules in (
      one_summed (summand f a.pass) a.at.now.b a.part.now one a.at.now.from1 p.result p.ensures.0 (omega arith),
      one_joined (new_pair f a.pass) a.at.now.b a.part.now one a.at.now.from1 p.new.part p.ensures.1,
    )
