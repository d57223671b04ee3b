use Rattle.std.proofs.Common.{ℕ, ◌-◌, ◌/◌, ◌≤◌, length, refl, ap, ◌∙◌, arith}
use Rattle.paper.specs.Strings.{Digits, Block, sum}
use Rattle.columns.specs.Columns.{block_of}
use Rattle.groups.specs.Groups.{entry}
use Rattle.laws.proofs.Digits.{below_of}
use Rattle.block.proofs.Arrays.{array_bytes}
use Rattle.pass.proofs.GroupSteps.{seconds_summed, seconds_joined}
use Rattle.pass.proofs.second_group.Goals as goal

pub returns : goal.returns
returns c =
    let at = c.args.at.now in
    let P = c.args.part.now in
    let n : ℕ = length P / 32 in
    let few : n ≤ 16 = omega (arith, c.requires.1.0, c.requires.1.1) in
    let block : Block c.args.sum = array_bytes 16 _ _ c.well_formed.1.1.0 in
    let bytes : Digits 8 (length P) P = record { len = refl; low = below_of 256 P (λ i h. omega (arith, c.slice_known-1.given i)) } in (
      c.sum.ensures
          ∙ ap (λ (m : ℕ). sum (m / 32) (λ i. block_of (entry c.xor-y.result (i - 1)))) c.put_pairs.auto.part
          ∙ seconds_summed at.k at.m.now at.of_j c.args.keys.now c.requires.2 n few at.b at.from1 at.power at.carried c.masks-masks.result c.masks-masks.ensures
          P c.requires.1.0 bytes c.load.result c.load-2.result c.load.ensures c.load-2.ensures
          c.args.sum block c.sum_at_each-s.result c.xor-y.result c.xor-z.result c.added_each-second.result c.added_at_each-first.result
          c.sum_at_each-s.ensures c.xor-y.ensures c.xor-z.ensures c.added_each-second.ensures c.added_at_each-first.ensures,
      c.put_pairs.ensures
          ∙ seconds_joined at.k at.m.now at.of_j c.args.keys.now c.requires.2 n few at.b at.from1 at.power at.carried c.masks-masks.result c.masks-masks.ensures
          P c.requires.1.0 bytes c.load.result c.load-2.result c.load.ensures c.load-2.ensures
          c.args.sum block c.sum_at_each-s.result c.xor-y.result c.xor-z.result c.added_each-second.result c.added_at_each-first.result
          c.sum_at_each-s.ensures c.xor-y.ensures c.xor-z.ensures c.added_each-second.ensures c.added_at_each-first.ensures,
    )
