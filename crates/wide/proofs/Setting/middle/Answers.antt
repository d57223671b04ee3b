use Rattle.paper.specs.Figure6.{E}
use Rattle.tbc.specs.Meaning.{base}
use Rattle.wide.specs.Ways.{first_of}
use Rattle.wide.specs.declared.EndPairs.{EndPairs}
use Rattle.wide.proofs.Indices.{first_small, plain_of, added_of}
use Rattle.wide.proofs.Steps.{middle_made}
use Rattle.wide.proofs.Setting.middle.Goals as goal

pub added-sx-requires : goal.added-sx-requires
added-sx-requires c =
    let s = c.args.self.now in
    (plain_of s.way c.end_pairs-ends.result c.end_pairs-ends.ensures (λ (e : EndPairs). e.x) (first_small s.way), s.of_j)

pub added-sy-requires : goal.added-sy-requires
added-sy-requires c =
    let s = c.args.self.now in
    (plain_of s.way c.end_pairs-ends.result c.end_pairs-ends.ensures (λ (e : EndPairs). e.xx) (first_small s.way), s.of_j)

pub returns : goal.returns
returns c =
    let s = c.args.self.now in
    let ends = c.end_pairs-ends in
    let K = base s.k in
    let made =
    middle_made (E K) s.delta (first_of s.way) c.args.total c.args.last.now
    c.load-mx.result c.load-my.result c.xor-a.result c.xor-b.result c.added-sx.result c.added-sy.result
    c.load-mx.ensures c.load-my.ensures c.xor-a.ensures c.xor-b.ensures
    (added_of s.way ends.result ends.ensures (λ (e : EndPairs). e.x) K c.added-sx.result c.xor-b.result c.load-my.result c.added-sx.ensures)
    (added_of s.way ends.result ends.ensures (λ (e : EndPairs). e.xx) K c.added-sy.result c.load-my.result c.added-sx.result c.added-sy.ensures) in
    (made.0, made.1, c.xor-s.ensures)
