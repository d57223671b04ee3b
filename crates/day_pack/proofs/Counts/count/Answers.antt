-- `day_pack::Counts::count`: one bit more in each turn, and its group noted where it starts one.
use Rattle.std.proofs.Common.{ℕ, refl, ◌≡◌, ◌<◌, ◌+◌, ◌/◌, ◌%◌, ◌∙◌, Bool, List, length, set, ap, sym, arith}
use borrow.Author.Tests.{eq-eqb, ne_eqb}
use lib.Dec.{eqb}
use lib.ListN.{replicate, length-replicate}
use Rattle.std.specs.Prelude.{if◌then◌else◌}
use Rattle.day_pack.specs.declared.Counts.{Counts}
use Rattle.day_pack.specs.Bits.{bit_of, bits_below}
use Rattle.day_pack.proofs.Table.{bits_none, bits_more, bits_below_lem, noted_long, tallied_none, tallied_more}
use Rattle.day_pack.proofs.Counts.count.Goals as goal
use Rattle.day_pack.proofs.Counts.count.Goals.{then-i-eq0, else-i-eq0}

pub loop-i-init : goal.loop-i-init
loop-i-init c = record {
  table = refl;
  count = bits_none c.args.self.now.table.now;
  noted = rw c.requires.1 (tallied_none (replicate 205 0) c.args.self.now.table.now);
  long = ap length c.requires.1 ∙ length-replicate {A = ℕ} 205 0;
}

pub overflow_add-all : goal.overflow_add-all
overflow_add-all c = omega (arith, bits_below_lem c.args.self.now.table.now c.loop-i.i, c.loop-i.invariant.count)

pub loop-i-preserved : goal.loop-i-preserved
loop-i-preserved c =
    let l = c.loop-i in
    let there : l.i / 64 < length l.self.before = omega (arith, l.invariant.long) in
    let noted : c.if-i-eq0.self.before ≡ (if eqb (l.i % 64) 0 then set l.self.before (l.i / 64) l.all else l.self.before) =
    elim c.if-i-eq0.branch [
      | then-i-eq0 w ↦ ap (λ (x : Counts). x.before) w.self-is ∙ ap (λ (b : Bool). if b then set l.self.before (l.i / 64) l.all else l.self.before) (sym (eq-eqb (l.i % 64) 0 w.if-i-eq0.true))
      | else-i-eq0 w ↦ ap (λ (x : Counts). x.before) w.self-is ∙ ap (λ (b : Bool). if b then set l.self.before (l.i / 64) l.all else l.self.before) (sym (ne_eqb (l.i % 64) 0 w.if-i-eq0.false))
    ] in
    let same : c.if-i-eq0.self.table.now ≡ l.self.table.now =
    elim c.if-i-eq0.branch [
      | then-i-eq0 w ↦ ap (λ (x : Counts). x.table.now) w.self-is
      | else-i-eq0 w ↦ ap (λ (x : Counts). x.table.now) w.self-is
    ] in
    let one = c.bit-all.ensures.0 ∙ ap (λ (u : List ℕ). bit_of u l.i) (same ∙ l.invariant.table) in
    record {
      table = same ∙ l.invariant.table;
      count = (λ j. l.invariant.count j + one j) ∙ bits_more c.args.self.now.table.now l.i;
      noted = tallied_more l.self.before c.if-i-eq0.self.before c.args.self.now.table.now l.i l.all there l.invariant.count noted l.invariant.noted;
      long = noted_long l.self.before c.if-i-eq0.self.before l.i l.all noted ∙ l.invariant.long;
    }

pub returns : goal.returns
returns c =
    let all : c.loop-i.i ≡ c.args.n = omega arith in
    record {
      table = c.loop-i.invariant.table;
      all = c.loop-i.invariant.count ∙ ap (bits_below c.args.self.now.table.now) all;
      before = λ k p. c.loop-i.invariant.noted k (omega arith);
    }
