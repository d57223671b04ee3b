use Rattle.std.proofs.Common.{ℕ, ◌≡◌, ◌+◌, ◌-◌, ◌*◌, length, take, drop, ap, sym, ◌∙◌, arith}
use Rattle.paper.specs.Figure6.{E}
use Rattle.laws.proofs.Multiples.{two_to_zero}
use Rattle.columns.specs.Columns.{columns_of}
use Rattle.tbc.specs.Meaning.{base}
use Rattle.pass.specs.Pairs.{summand, new_pair}
use Rattle.pass.proofs.Passes.{begun, passed_more, passed_all}
use Rattle.pass.proofs.Turns.{turn, part_long, several}
use Rattle.pass.proofs.all_pairs.Goals as goal

pub loop-s-init : goal.loop-s-init
loop-s-init c =
    let f = E (base c.args.k) in
    record {
      done = begun (new_pair f c.args.pass) (summand f c.args.pass) c.args.s.now c.requires.0;
      carried = c.power-power.ensures ∙ ap columns_of (sym (two_to_zero (base c.args.k).L));
    }

pub overflow_sub-s : goal.overflow_sub-s
overflow_sub-s c = omega (arith, c.loop-s.invariant.done.replaced.same, c.loop-s.invariant.done.within)

pub invariant_of-place : goal.invariant_of-place
invariant_of-place c = record { of_j = c.requires.2; from1 = c.loop-s.invariant.done.from1; carried = c.loop-s.invariant.carried }

pub some_pairs-x-requires : goal.some_pairs-x-requires
some_pairs-x-requires c =
    let l = c.loop-s in
    let p = l.invariant.done in
    let n = c.taken-n.result in
    let t = turn (length l.s) l.at n (omega (arith, c.loop-s-test.true)) c.taken-n.ensures in
    let long = part_long l.at n l.s (omega (arith, t.room)) in
    let enough = λ (more : length (take (l.at + 32 * n - l.at) (drop l.at l.s)) ≡ 32 → ⊥). t.group (several n t.from1 (λ one. more (long ∙ ap (λ (n : ℕ). 32 * n) one))) in
    (omega (arith, p.replaced.place, p.within, c.requires.1), (omega (arith, long), omega (arith, long, t.few)), λ more. c.requires.3 (omega (arith, enough more, p.replaced.same)))

pub power_after-next-requires : goal.power_after-next-requires
power_after-next-requires c =
    let l = c.loop-s in
    let p = l.invariant.done in
    let t = turn (length l.s) l.at c.taken-n.result (omega (arith, c.loop-s-test.true)) c.taken-n.ensures in
    (omega (arith, p.replaced.place, p.within, c.requires.1), t.few)

pub overflow_add-b : goal.overflow_add-b
overflow_add-b c =
    let l = c.loop-s in
    let p = l.invariant.done in
    let t = turn (length l.s) l.at c.taken-n.result (omega (arith, c.loop-s-test.true)) c.taken-n.ensures in
    omega (arith, p.replaced.place, p.within, c.requires.1, t.few)

pub loop-s-smaller : goal.loop-s-smaller
loop-s-smaller c =
    let l = c.loop-s in
    let t = turn (length l.s) l.at c.taken-n.result (omega (arith, c.loop-s-test.true)) c.taken-n.ensures in
    omega (arith, t.from1, t.room, l.invariant.done.replaced.same)

pub loop-s-preserved : goal.loop-s-preserved
loop-s-preserved c =
    let l = c.loop-s in
    let a = c.args in
    let f = E (base a.k) in
    let n : ℕ = c.taken-n.result in
    let t = turn (length l.s) l.at n (omega (arith, c.loop-s-test.true)) c.taken-n.ensures in
    let pairs = c.some_pairs-x in
    let size : ℕ = l.at + 32 * n - l.at in
    let is : size ≡ 32 * n = omega arith in
    let same : length pairs.new.part ≡ size = pairs.auto.part ∙ part_long l.at n l.s (omega (arith, t.room)) ∙ sym is in
    record {
      done =
          passed_more (new_pair f a.pass) (summand f a.pass) a.s.now l.total l.s l.at l.b n size pairs.result pairs.new.part c.xor-more.result
          l.invariant.done is (omega (arith, t.room)) pairs.ensures.0 pairs.ensures.1 same c.xor-more.ensures;
      carried = c.power_after-next.ensures;
    }

pub returns : goal.returns
returns c =
    let l = c.loop-s in
    let f = E (base c.args.k) in
    passed_all (new_pair f c.args.pass) (summand f c.args.pass) c.args.s.now l.total l.s l.at l.b l.invariant.done (omega (arith, c.loop-s-test.false))
