use Rattle.std.proofs.Common.{ℕ, ◌-◌, ◌/◌, ◌≤◌, length, refl, ap, ◌∙◌, arith}
use Rattle.paper.specs.Strings.{Digits, sum}
use Rattle.columns.specs.Columns.{block_of}
use Rattle.groups.specs.Groups.{entry}
use Rattle.laws.proofs.Digits.{below_of}
use Rattle.pass.proofs.GroupSteps.{firsts_summed, firsts_joined}
use Rattle.pass.proofs.first_group.Goals as goal

pub returns : goal.returns
returns c =
    let at = c.args.at.now in
    let P = c.args.part.now in
    let n : ℕ = length P / 32 in
    let few : n ≤ 16 = omega (arith, c.requires.1.0, c.requires.1.1) in
    let bytes : Digits 8 (length P) P = record { len = refl; low = below_of 256 P (λ i h. omega (arith, c.slice_known-1.given i)) } in (
      c.sum.ensures
          ∙ ap (λ (m : ℕ). sum (m / 32) (λ i. block_of (entry c.added_each-x.result (i - 1)))) c.put_pairs.auto.part
          ∙ firsts_summed at.k at.m.now at.of_j c.args.keys.now c.requires.2 n few at.b at.from1 at.power at.carried c.masks-masks.result c.masks-masks.ensures
          P c.requires.1.0 bytes c.load-left.result c.load-right.result c.load-left.ensures c.load-right.ensures
          c.added_at_each-w.result c.added_each-x.result c.added_at_each-w.ensures c.added_each-x.ensures,
      c.put_pairs.ensures
          ∙ firsts_joined at.k at.m.now at.of_j c.args.keys.now c.requires.2 n few at.b at.from1 at.power at.carried c.masks-masks.result c.masks-masks.ensures
          P c.requires.1.0 bytes c.load-left.result c.load-right.result c.load-left.ensures c.load-right.ensures
          c.added_at_each-w.result c.added_each-x.result c.added_at_each-w.ensures c.added_each-x.ensures,
    )
