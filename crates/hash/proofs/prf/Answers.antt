-- A block more is put where the blocks before it end, as far as it fits.
use Rattle.std.proofs.Common.{◌≡◌, ◌+◌, ◌-◌, ◌*◌, ◌<◌, ◌≤◌, ℕ, ap, arith, length, rules, subst, ◌∙◌}
use Rattle.paper.specs.Strings.{Bytes, ◌⊕◌, number}
use Rattle.paper.specs.Figure6 as figure6
use Rattle.paper.specs.Figure6.{minus1, E, prf_from}
use Rattle.tbc.specs.Meaning.{base}
use Rattle.key.specs.Meaning.{blocks}
use Rattle.key.proofs.Keys.{has_blocks, of_j}
use Rattle.hash.proofs.Fitting.{block_of_line, filled_none, filled_next, filled_all}
use Rattle.hash.proofs.prf.Goals as goal

pub loop-i-init : goal.loop-i-init
loop-i-init c = filled_none (block_of_line c.base-b.result c.args.delta) c.args.out.now

pub e-y-requires : goal.e-y-requires
e-y-requires c =
    let k = c.args.k in
    let b = c.base-b in
    let m = c.multiples-m in
    (omega arith, of_j k b.result m.result (has_blocks k _ c.well_formed.0 b.result b.ensures) m.ensures)

pub loop-i-preserved : goal.loop-i-preserved
loop-i-preserved c =
    let a = c.args in
    let b = c.base-b.result in
    let l = c.loop-i in
    let same : l.i ≡ l.i + 1 - 1 = omega arith in
    let x = c.xor.ensures ∙ ap (λ (u : Bytes). a.delta ⊕ u) (c.number-number.ensures ∙ ap number same) in
    let y : c.e-y.result ≡ block_of_line b a.delta (l.i + 1) = c.e-y.ensures ∙ ap (E (base b) minus1 3) x in
    let room : 16 * l.i < length l.out = omega (arith, c.div_ceil-i-end.ensures, c.loop-i-test.true, l.invariant.long) in
    let place : 16 * l.i + 16 ≡ 16 * (l.i + 1) = omega arith in
    filled_next l.invariant c.e-y.result c.put_front.new.s (16 * (l.i + 1)) place room (search rules) y c.put_front.ensures

pub returns : goal.returns
unfolding prf_from
returns c =
    let a = c.args in
    let b = c.base-b in
    let full : length a.out.now ≤ 16 * c.loop-i.i = omega (arith, c.div_ceil-i-end.ensures, c.loop-i-test.false) in
    filled_all c.loop-i.invariant full
    ∙ ap (λ (K : figure6.Key). prf_from (E K) a.delta (length a.out.now)) (has_blocks a.k _ c.well_formed.0 b.result b.ensures)
