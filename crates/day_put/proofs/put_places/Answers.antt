-- `day_put::put_places`: one place after the other.
use Rattle.std.proofs.Common.{◌≡◌, ℕ, add-zero, ◌++◌, ◌∙◌, ◌+◌, ◌*◌, ap, drop, get_or, arith}
use Rattle.paper.specs.Strings.{digits}
use Rattle.paper.specs.DayFile.{write_places}
use Rattle.laws.proofs.BitStrings.{length_digits}
use Rattle.day_put.specs.Written.{places_by}
use Rattle.day_put.proofs.Puts.{put_none, put_more, put_all, place_next, places_done}
use Rattle.day_put.proofs.put_places.Goals as goal

pub loop-i-init : goal.loop-i-init
loop-i-init c = record {
  put = rw add-zero (put_none (write_places (places_by c.args.first c.args.sizes.now)) c.args.start c.args.out.now);
  below = c.requires.0;
}

pub overflow_add-place : goal.overflow_add-place
overflow_add-place c =
    let l = c.loop-i in
    omega (arith, l.invariant.below, (place_next c.args.sizes.now l.i l.place c.loop-i-test.true).1)

pub overflow_add-place-in-loop-i : goal.overflow_add-place-in-loop-i
overflow_add-place-in-loop-i c =
    let l = c.loop-i in
    omega (arith, l.invariant.below, (place_next c.args.sizes.now l.i l.place c.loop-i-test.true).1)

pub loop-i-preserved : goal.loop-i-preserved
loop-i-preserved c =
    let l = c.loop-i in
    let n = get_or c.args.sizes.now l.i 0 in
    let next = place_next c.args.sizes.now l.i l.place c.loop-i-test.true in
    let after : l.place + 7 + n ≡ l.place + (7 + n) = omega arith in
    let parts = next.0 ∙ ap (λ (p : ℕ). digits 256 4 l.place ++ write_places (places_by p (drop (l.i + 1) c.args.sizes.now))) after in
    record {
      put =
          put_more (digits 256 4 l.place) (write_places (places_by (l.place + (7 + n)) (drop (l.i + 1) c.args.sizes.now))) c.put.new.out (c.args.start + 4 * (l.i + 1)) l.invariant.put
          parts c.put.ensures (omega (arith, length_digits 256 4 l.place)) (omega arith) c.put.auto.out;
      below = omega (arith, l.invariant.below, next.1);
    }

pub returns : goal.returns
returns c = let l = c.loop-i in (put_all l.invariant.put (places_done c.args.sizes.now l.i l.place c.loop-i-test.false)).1
