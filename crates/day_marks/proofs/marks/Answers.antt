-- `day_marks::marks` meets its contract.
use Rattle.std.proofs.Common.{◌≡◌, ◌∙◌, ◌+◌, ◌*◌, ◌≤◌, min, refl, ap, sym, arith}
use Rattle.std.proofs.Math.Nat.{min-le_left, min-le_right, le-min, le_trans}
use Rattle.paper.specs.DayFile.{read_day}
use Rattle.laws.proofs.Digits.{below_of}
use Rattle.laws.proofs.Fronts.{front_more, front_all}
use Rattle.day_find.specs.Finds.{length_place}
use Rattle.day_find.proofs.Finding.{first_header}
use Rattle.day_marks.proofs.Places.{place_smaller, places_short, marks_many, mark_at}
use Rattle.day_marks.proofs.marks.Goals as goal

pub loop-i-init : goal.loop-i-init
loop-i-init c =
    let o = read_day c.args.file.now in
    record { next = first_header o; made = record { long = sym (marks_many o); same = refl } }

pub overflow_cast-mark : goal.overflow_cast-mark
overflow_cast-mark c =
    let f = c.args.file.now in
    omega (arith, c.loop-i.invariant.next, places_short f (below_of 256 f (λ i p. omega (arith, c.type_inv.file i))) (64 * c.loop-i.i))

pub place_from-at-requires : goal.place_from-at-requires
place_from-at-requires c =
    let o = read_day c.args.file.now in
    let headers = c.args.headers in
    let i = c.loop-i.i in
    let most : min (64 * i) headers ≤ min (64 * i + 64) headers =
    le-min (le_trans (min-le_left (64 * i) headers) (omega arith)) (min-le_right (64 * i) headers) in (
      c.loop-i.invariant.next ∙ sym (ap (length_place o) c.min.ensures ∙ place_smaller o (64 * i) headers c.requires),
      omega (arith, c.min.ensures, c.min-in-loop-i.ensures, most),
      omega (arith, c.min-in-loop-i.ensures, min-le_right (64 * i + 64) headers),
    )

pub loop-i-preserved : goal.loop-i-preserved
loop-i-preserved c =
    let o = read_day c.args.file.now in
    let i = c.loop-i.i in
    let more : 64 * i + 64 ≡ 64 * (i + 1) = omega arith in
    record {
      next = c.place_from-at.ensures ∙ ap (length_place o) c.min-in-loop-i.ensures ∙ place_smaller o (64 * i + 64) c.args.headers c.requires ∙ ap (length_place o) more;
      made = front_more c.loop-i.at c.loop-i.invariant.made (omega (arith, marks_many o)) (c.loop-i.invariant.next ∙ sym (mark_at o i (omega arith)));
    }

pub returns : goal.returns
returns c = front_all c.loop-i.invariant.made (omega (arith, marks_many (read_day c.args.file.now)))
