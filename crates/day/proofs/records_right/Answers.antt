-- `day::records_right` meets its contract.
use Rattle.std.proofs.Common.{◌≡◌, ◌∙◌, ◌+◌, ◌-◌, ◌*◌, ℕ, ap, sym, length, drop, arith}
use Rattle.std.proofs.Math.Dec.{eqb}
use borrow.Author.Tests.{ne_eqb}
use Rattle.paper.specs.Strings.{Below}
use Rattle.paper.specs.DayFile.{read_records}
use Rattle.laws.proofs.Digits.{below_of}
use Rattle.day.proofs.Index.{pending, begun, records_turn, records_wrong, records_stop, count_wrong, count_last}
use Rattle.day.proofs.records_right.Goals as goal

pub loop-k-init : goal.loop-k-init
loop-k-init c =
    let f = c.args.file.now in
    let m = c.args.records in
    let place : length f - 4 * m ≡ length f - 4 * m + 0 = omega arith in
    let left : m ≡ m - 0 = omega arith in
    record {
      inside = c.requires.0;
      seen =
          begun f (below_of 256 f (λ i p. omega (arith, c.type_inv.file i))) c.requires.1 m c.args.headers c.args.first c.requires.0
          ∙ (λ i. pending f m c.args.first (place i) (read_records c.args.headers (left i) (drop c.args.first f)));
    }

pub returns-in_default : goal.returns-in_default
returns-in_default c =
    let f = c.args.file.now in
    let low : Below 256 f = below_of 256 f (λ i p. omega (arith, c.type_inv.file i)) in
    let l = c.loop-k in
    sym
    (l.invariant.seen
    ∙ records_stop f low c.requires.1 c.args.records c.args.headers (c.args.records - l.k) l.at (length f - 4 * c.args.records + 4 * l.k) (omega arith) l.invariant.inside (omega arith) c.in_default.ensures)

pub returns-then-read-at : goal.returns-then-read-at
returns-then-read-at c =
    let f = c.args.file.now in
    let low : Below 256 f = below_of 256 f (λ i p. omega (arith, c.type_inv.file i)) in
    let l = c.loop-k in
    sym
    (l.invariant.seen
    ∙ records_wrong f low c.requires.1 c.args.records c.args.headers (c.args.records - l.k) l.at (length f - 4 * c.args.records + 4 * l.k) (omega arith) l.invariant.inside (omega arith) c.in-Some.e c.in-Some.ensures
    (λ w. let same = c.read.ensures.value ∙ w in omega arith))

pub loop-k-preserved : goal.loop-k-preserved
loop-k-preserved c =
    let f = c.args.file.now in
    let m = c.args.records in
    let low : Below 256 f = below_of 256 f (λ i p. omega (arith, c.type_inv.file i)) in
    let l = c.loop-k in
    let e = c.in-Some.e in
    let place : length f - 4 * m + 4 * l.k + 4 ≡ length f - 4 * m + 4 * (l.k + 1) = omega arith in
    let left : m - l.k - 1 ≡ m - (l.k + 1) = omega arith in
    record {
      inside = c.in-Some.ensures.1;
      seen =
          l.invariant.seen
          ∙ records_turn f low c.requires.1 m c.args.headers (m - l.k) l.at (length f - 4 * m + 4 * l.k) (omega arith) l.invariant.inside (omega arith) e c.in-Some.ensures (sym c.read.ensures.value ∙ (omega arith))
          ∙ (λ i. pending f m e.end (place i) (read_records c.args.headers (left i) (drop e.end f)));
    }

pub returns-then-file-at : goal.returns-then-file-at
returns-then-file-at c =
    let f = c.args.file.now in
    let low : Below 256 f = below_of 256 f (λ i p. omega (arith, c.type_inv.file i)) in
    let l = c.loop-k in
    ap (λ (n : ℕ). eqb n c.args.records) c.read-then-file-at.ensures.value
    ∙ sym
    (l.invariant.seen
    ∙ count_last f low c.requires.1 c.args.records c.args.headers (c.args.records - l.k) l.at (length f - 4 * c.args.records + 4 * l.k) (omega arith) l.invariant.inside (omega arith) (omega arith))

pub returns-else-file-at : goal.returns-else-file-at
returns-else-file-at c =
    let f = c.args.file.now in
    let low : Below 256 f = below_of 256 f (λ i p. omega (arith, c.type_inv.file i)) in
    let l = c.loop-k in
    ne_eqb (length f - l.at) (4 + 4 * c.args.records) c.if-file-at.false
    ∙ sym
    (l.invariant.seen
    ∙ count_wrong f low c.requires.1 c.args.records c.args.headers (c.args.records - l.k) l.at (length f - 4 * c.args.records + 4 * l.k) (omega arith) l.invariant.inside (omega arith) (omega arith))
