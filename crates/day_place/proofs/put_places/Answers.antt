-- `day_place::put_places`: one place more in each turn.
use Rattle.std.proofs.Common.{◌≡◌, ◌+◌, ◌*◌, ◌≤◌, length, take, ap, ◌∙◌, refl, arith}
use lib.Seq.{length-take-le}
use Rattle.day_steps.specs.declared.Entry.{Entry}
use Rattle.day_place.specs.Walked.{end_of}
use Rattle.day_place.proofs.Index.{no_places, before_the_end, one_place_more, one_step_more}
use Rattle.day_place.proofs.put_places.Goals as goal

pub loop-i-init : goal.loop-i-init
unfolding end_of
loop-i-init c = record { next = refl; put = no_places (take c.args.at c.args.out.now) c.args.out.now c.args.first (c.args.at + 4) }

pub entry_at-place-requires : goal.entry_at-place-requires
entry_at-place-requires c =
    let a = c.args in
    let l = c.loop-i in
    let long = length-take-le a.at c.put.new.out (omega arith) in
    let left = before_the_end (take a.at a.out.now) a.first a.records a.at l.i c.requires.0 c.loop-i-test.true in
    (omega (arith, long, left, l.invariant.next), omega (arith, long))

pub loop-i-preserved : goal.loop-i-preserved
loop-i-preserved c =
    let a = c.args in
    let l = c.loop-i in
    let room : a.at + 4 + 4 * (l.i + 1) ≤ length a.out.now = omega arith in
    let put = one_place_more a.out.now a.first a.at l.i room l.out c.put.new.out l.place l.invariant.next l.invariant.put c.put.ensures in
    record {
      next = ap (λ (e : Entry). e.end) c.entry_at-place.ensures.0 ∙ one_step_more a.out.now a.first a.at l.i room c.put.new.out l.place l.invariant.next put;
      put = put;
    }

pub returns : goal.returns
returns c = let all : c.args.records ≡ c.loop-i.i = omega arith in rw all c.loop-i.invariant.put
