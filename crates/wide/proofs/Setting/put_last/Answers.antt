use Rattle.std.proofs.Common.{◌∙◌}
use Rattle.paper.specs.Figure6.{E}
use Rattle.tbc.specs.Meaning.{base}
use Rattle.wide.specs.Ways.{second_of}
use Rattle.wide.specs.declared.EndPairs.{EndPairs}
use Rattle.wide.proofs.Indices.{second_small, plain_of, added_of}
use Rattle.wide.proofs.Steps.{last_made}
use Rattle.wide.proofs.Setting.put_last.Goals as goal

pub added-cy-requires : goal.added-cy-requires
added-cy-requires c =
    let s = c.args.self.now in
    (plain_of s.way c.end_pairs-ends.result c.end_pairs-ends.ensures (λ (e : EndPairs). e.yy) (second_small s.way), s.of_j)

pub added-cx-requires : goal.added-cx-requires
added-cx-requires c =
    let s = c.args.self.now in
    (plain_of s.way c.end_pairs-ends.result c.end_pairs-ends.ensures (λ (e : EndPairs). e.y) (second_small s.way), s.of_j)

pub returns : goal.returns
returns c =
    let s = c.args.self.now in
    let sums = c.args.sums in
    let ends = c.end_pairs-ends in
    let K = base s.k in
    c.put_two.ensures
    ∙ last_made (E K) s.delta (second_of s.way) c.args.total sums.sx sums.sy
    c.added-cy.result c.xor-a.result c.xor-b.result c.added-cx.result
    (added_of s.way ends.result ends.ensures (λ (e : EndPairs). e.yy) K c.added-cy.result sums.sx sums.sy c.added-cy.ensures)
    c.xor-a.ensures c.xor-b.ensures
    (added_of s.way ends.result ends.ensures (λ (e : EndPairs). e.y) K c.added-cx.result c.xor-b.result c.added-cy.result c.added-cx.ensures)
