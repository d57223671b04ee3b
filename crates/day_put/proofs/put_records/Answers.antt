-- `day_put::put_records`: one record after the other.
use Rattle.std.proofs.Common.{◌++◌, ◌∙◌, ◌+◌, ap, sym, length, drop, get_or, arith}
use Rattle.paper.specs.Strings.{Bytes}
use Rattle.paper.specs.DayFile.{write_record, present, records_of}
use Rattle.laws.proofs.DayWritten.{record_long}
use Rattle.day_put.specs.Written.{record_with, records_written}
use Rattle.day_put.proofs.Puts.{put_none, put_more, put_all, record_next, records_done, right}
use Rattle.day_put.proofs.put_records.Goals as goal

pub loop-i-init : goal.loop-i-init
loop-i-init c =
    let a = c.args in
    record {
      put = put_none (records_written (records_of a.headers a.numbers.now a.stretches.now a.sizes.now a.sealed.now)) a.start a.out.now;
      right = (right a.headers a.numbers.now a.stretches.now a.sizes.now a.sealed.now c.requires.0).records;
      room = omega arith;
    }

pub split_at-requires : goal.split_at-requires
split_at-requires c =
    let a = c.args in
    let l = c.loop-i in
    let next = record_next a.headers a.numbers.now a.stretches.now a.sizes.now l.i l.rest.now c.loop-i-test.true l.invariant.right in
    next.0

pub put_record-requires : goal.put_record-requires
put_record-requires c =
    let a = c.args in
    let l = c.loop-i in
    let next = record_next a.headers a.numbers.now a.stretches.now a.sizes.now l.i l.rest.now c.loop-i-test.true l.invariant.right in
    (omega (arith, next.1), omega (arith, next.0, l.invariant.room, c.split_at.ensures.front_len))

pub overflow_add-at-in-loop-i : goal.overflow_add-at-in-loop-i
overflow_add-at-in-loop-i c =
    let a = c.args in
    let l = c.loop-i in
    let next = record_next a.headers a.numbers.now a.stretches.now a.sizes.now l.i l.rest.now c.loop-i-test.true l.invariant.right in
    omega (arith, next.0, l.invariant.room, c.split_at.ensures.front_len)

pub loop-i-preserved : goal.loop-i-preserved
loop-i-preserved c =
    let a = c.args in
    let l = c.loop-i in
    let next = record_next a.headers a.numbers.now a.stretches.now a.sizes.now l.i l.rest.now c.loop-i-test.true l.invariant.right in
    let h = get_or a.numbers.now l.i 0 in
    let t = get_or a.stretches.now l.i 0 in
    let one = record_with h t c.split_at.result.0.now in
    let left : Bytes → Bytes = λ X. records_written (records_of a.headers (drop (l.i + 1) a.numbers.now) (drop (l.i + 1) a.stretches.now) (drop (l.i + 1) a.sizes.now) X) in
    let parts = next.2 ∙ (λ j. write_record (record_with h t (sym c.split_at.ensures.front j)) ++ left (sym c.split_at.ensures.back j)) in
    let long = record_long one in
    record {
      put =
          put_more (write_record one) (left c.split_at.result.1.now) c.put_record.new.out (l.at + (7 + length c.split_at.result.0.now)) l.invariant.put parts c.put_record.ensures
          (omega (arith, long)) (omega (arith, next.0, l.invariant.room, c.split_at.ensures.front_len)) c.put_record.auto.out;
      right =
          ap (λ (X : Bytes). present (records_of a.headers (drop (l.i + 1) a.numbers.now) (drop (l.i + 1) a.stretches.now) (drop (l.i + 1) a.sizes.now) X)) c.split_at.ensures.back ∙ next.3;
      room = omega (arith, next.0, l.invariant.room, c.split_at.ensures.front_len, c.split_at.ensures.back_len);
    }

pub returns : goal.returns
returns c =
    let a = c.args in
    let l = c.loop-i in
    put_all l.invariant.put (records_done a.headers a.numbers.now a.stretches.now a.sizes.now l.i l.rest.now c.loop-i-test.false)
