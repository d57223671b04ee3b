use Rattle.std.proofs.Common.{◌≡◌, ◌+◌, ◌-◌, ◌*◌, ◌/◌, ℕ, ap, ap₂, arith, drop, length, sym, take, ◌∙◌}
use Rattle.paper.specs.Strings.{Bytes, ◌⊕◌, sum}
use Rattle.paper.specs.Section7.{AES4}
use Rattle.paper.specs.Figure6.{k0, block_at}
use Rattle.laws.proofs.Joins.{sum_more}
use Rattle.laws.proofs.Multiples.{two_to_zero}
use Rattle.laws.proofs.Strings.{⊕_assoc, ⊕_zeros}
use Rattle.columns.specs.Columns.{columns_of, block_of}
use Rattle.tbc.specs.Meaning.{base}
use Rattle.tbc.proofs.Keys.{base_bytes}
use Rattle.masks.proofs.Powers.{next}
use Rattle.strings.specs.Waiting.{full_term}
use Rattle.strings.specs.Sums.{so_far}
use Rattle.strings.proofs.Rows.{masked_is}
use Rattle.strings.proofs.Waits.{so_short}
use Rattle.strings.proofs.Sum.add_full.Goals as goal

pub loop-n-init : goal.loop-n-init
unfolding sum
loop-n-init c =
    let K = base c.args.k in
    let s = c.args.self.now in
    record {
      summed = sym (⊕_zeros 16 (so_far K s) (so_short (k0 K) s.group s.waiting s.total));
      carried = c.power-power.ensures ∙ ap columns_of (sym (two_to_zero K.L));
    }

-- the block that is added is the j-th, masked
pub loop-n-preserved : goal.loop-n-preserved
loop-n-preserved c =
    let a = c.args in
    let l = c.loop-n in
    let K = base a.k in
    let t = a.t.now in
    let j : ℕ = l.n + 1 in
    let term = full_term K (block_of a.mask) t in
    let before = so_far K a.self.now in
    let place : 16 * l.n ≡ 16 * (j - 1) = omega arith in
    let x : c.load.result ≡ block_at t j = c.load.ensures ∙ ap (λ (n : ℕ). take 16 (drop n t)) place in
    let this : AES4 (k0 K) (block_of c.masked.result) ≡ term j =
    ap (AES4 (k0 K)) (c.masked.ensures ∙ masked_is a.k a.m.now c.requires.1 j l.power l.invariant.carried (block_of a.mask) x) in
    record {
      summed =
          c.add_block.ensures
          ∙ ap₂ ◌⊕◌ l.invariant.summed this
          ∙ ⊕_assoc before (sum (j - 1) term) (term j)
          ∙ ap (λ (S : Bytes). before ⊕ S) (sym (sum_more j term (omega arith)));
      carried = c.next_power-next.ensures ∙ next j l.power (base_bytes a.k).L (omega arith) l.invariant.carried;
    }

pub returns : goal.returns
returns c =
    let a = c.args in
    let K = base a.k in
    let t = a.t.now in
    let count : c.loop-n.n + 1 - 1 ≡ length t / 16 = omega (arith, c.loop-n-test.false) in
    c.loop-n.invariant.summed ∙ ap (λ (n : ℕ). so_far K a.self.now ⊕ sum n (full_term K (block_of a.mask) t)) count
