-- `day_put::put_headers`: one header after the other.
use Rattle.std.proofs.Common.{[], ◌∷◌, ◌++◌, ◌∙◌, ◌+◌, ap, sym, drop, arith}
use Rattle.paper.specs.Strings.{Bytes}
use Rattle.paper.specs.Document01.{write_strings}
use Rattle.paper.specs.DayFile.{present, headers_of}
use Rattle.builder.proofs.Items.{one_long}
use Rattle.day_put.specs.Written.{headers_written}
use Rattle.day_put.proofs.Puts.{put_none, put_more, put_all, header_next, headers_done}
use Rattle.day_put.proofs.put_headers.Goals as goal

pub loop-n-init : goal.loop-n-init
loop-n-init c = record {
  put = put_none (headers_written (headers_of c.args.lengths.now c.args.headers.now)) c.args.start c.args.out.now;
  right = c.requires.0;
  room = omega arith;
}

pub split_at-requires : goal.split_at-requires
split_at-requires c = let l = c.loop-n in (header_next c.args.lengths.now l.n-index l.rest.now c.loop-n-test.true l.invariant.right).0

pub put-at-requires : goal.put-at-requires
put-at-requires c =
    let l = c.loop-n in
    let next = header_next c.args.lengths.now l.n-index l.rest.now c.loop-n-test.true l.invariant.right in
    omega (arith, next.0, l.invariant.room, c.split_at.ensures.front_len)

pub loop-n-preserved : goal.loop-n-preserved
loop-n-preserved c =
    let l = c.loop-n in
    let next = header_next c.args.lengths.now l.n-index l.rest.now c.loop-n-test.true l.invariant.right in
    let one = write_strings (c.split_at.result.0.now ∷ []) in
    let left : Bytes → Bytes = λ X. headers_written (headers_of (drop (l.n-index + 1) c.args.lengths.now) X) in
    let parts = next.1 ∙ (λ j. write_strings (sym c.split_at.ensures.front j ∷ []) ++ left (sym c.split_at.ensures.back j)) in
    let long = one_long c.split_at.result.0.now in
    record {
      put =
          put_more one (left c.split_at.result.1.now) c.put-at.new.out c.put-at.result l.invariant.put parts c.put-at.ensures.1 c.put-at.ensures.0
          (omega (arith, c.put-at.ensures.0, long, next.0, l.invariant.room, c.split_at.ensures.front_len)) c.put-at.auto.out;
      right = ap (λ (X : Bytes). present (headers_of (drop (l.n-index + 1) c.args.lengths.now) X)) c.split_at.ensures.back ∙ next.2;
      room = omega (arith, c.put-at.ensures.0, long, next.0, l.invariant.room, c.split_at.ensures.front_len, c.split_at.ensures.back_len);
    }

pub returns : goal.returns
returns c = let l = c.loop-n in put_all l.invariant.put (headers_done c.args.lengths.now l.n-index l.rest.now c.loop-n-test.false)
