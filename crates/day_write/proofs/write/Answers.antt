-- `day_write::write`: a refusal, or the six parts of the file one after the other.
use Rattle.std.proofs.Common.{arith, length}
use Rattle.std.proofs.lemmas.Result.{err_from_is_err_and}
use Rattle.day_write.proofs.Writes.{write_refused, accepted, heads_long, records_long_here, total_is, wrote}
use Rattle.day_write.proofs.write.Goals as goal

pub returns-in_err-length : goal.returns-in_err-length
returns-in_err-length c =
    let p = err_from_is_err_and c.from_residual.result c.from_residual.ensures.1 in
    let a = c.args in
    rw (p.1, p.2) (write_refused a.lengths.now a.headers.now a.numbers.now a.stretches.now a.sizes.now a.sealed.now _ a.out.now c.in_err-length.ensures)

pub put-requires-clause-inside : goal.put-requires-clause-inside
put-requires-clause-inside c =
    let a = c.args in
    let p = accepted a.lengths.now a.headers.now a.numbers.now a.stretches.now a.sizes.now a.sealed.now c.in_ok-length.length (length a.out.now) c.in_ok-length.ensures in
    omega (arith, p.has_room)

pub put_headers-end-requires : goal.put_headers-end-requires
put_headers-end-requires c =
    let a = c.args in
    let p = accepted a.lengths.now a.headers.now a.numbers.now a.stretches.now a.sizes.now a.sealed.now c.in_ok-length.length (length a.out.now) c.in_ok-length.ensures in
    (p.headed, omega (arith, p.has_room, c.put.auto.out))

pub put-requires-2-clause-inside : goal.put-requires-2-clause-inside
put-requires-2-clause-inside c =
    let a = c.args in
    let p = accepted a.lengths.now a.headers.now a.numbers.now a.stretches.now a.sizes.now a.sealed.now c.in_ok-length.length (length a.out.now) c.in_ok-length.ensures in
    let heads = heads_long a.lengths.now a.headers.now a.numbers.now a.stretches.now a.sizes.now a.sealed.now p.all in
    omega (arith, p.has_room, c.put_headers-end.ensures.0, heads, c.put_headers-end.auto.out, c.put.auto.out)

pub put_records-index-requires : goal.put_records-index-requires
put_records-index-requires c =
    let a = c.args in
    let p = accepted a.lengths.now a.headers.now a.numbers.now a.stretches.now a.sizes.now a.sealed.now c.in_ok-length.length (length a.out.now) c.in_ok-length.ensures in
    let heads = heads_long a.lengths.now a.headers.now a.numbers.now a.stretches.now a.sizes.now a.sealed.now p.all in
    (p.recorded, omega (arith, p.has_room, c.put-2.auto.out, c.put_headers-end.ensures.0, heads, c.put_headers-end.auto.out, c.put.auto.out))

pub put-requires-3-clause-inside : goal.put-requires-3-clause-inside
put-requires-3-clause-inside c =
    let a = c.args in
    let p = accepted a.lengths.now a.headers.now a.numbers.now a.stretches.now a.sizes.now a.sealed.now c.in_ok-length.length (length a.out.now) c.in_ok-length.ensures in
    let heads = heads_long a.lengths.now a.headers.now a.numbers.now a.stretches.now a.sizes.now a.sealed.now p.all in
    let recs = records_long_here a.lengths.now a.headers.now a.numbers.now a.stretches.now a.sizes.now a.sealed.now p.all in
    omega (arith, p.has_room, c.put_records-index.ensures.0, recs, c.put_records-index.auto.out, c.put-2.auto.out, c.put_headers-end.ensures.0, heads, c.put_headers-end.auto.out, c.put.auto.out)

pub put_places-requires : goal.put_places-requires
put_places-requires c =
    let a = c.args in
    let p = accepted a.lengths.now a.headers.now a.numbers.now a.stretches.now a.sizes.now a.sealed.now c.in_ok-length.length (length a.out.now) c.in_ok-length.ensures in
    let heads = heads_long a.lengths.now a.headers.now a.numbers.now a.stretches.now a.sizes.now a.sealed.now p.all in
    let recs = records_long_here a.lengths.now a.headers.now a.numbers.now a.stretches.now a.sizes.now a.sealed.now p.all in
    let total = total_is a.lengths.now a.headers.now a.numbers.now a.stretches.now a.sizes.now a.sealed.now p.all in
    (omega (arith, p.short, total, c.put_headers-end.ensures.0, heads, c.put_headers-end.auto.out, c.put.auto.out), omega (arith, p.has_room, c.put-3.auto.out, c.put_records-index.ensures.0, recs, c.put_records-index.auto.out, c.put-2.auto.out, c.put_headers-end.ensures.0, heads, c.put_headers-end.auto.out, c.put.auto.out))

pub returns : goal.returns
returns c =
    let a = c.args in
    let p = accepted a.lengths.now a.headers.now a.numbers.now a.stretches.now a.sizes.now a.sealed.now c.in_ok-length.length (length a.out.now) c.in_ok-length.ensures in
    wrote a.lengths.now a.headers.now a.numbers.now a.stretches.now a.sizes.now a.sealed.now p.all a.out.now
    c.put.new.out c.put_headers-end.new.out c.put-2.new.out c.put_records-index.new.out c.put-3.new.out c.put_places.new.out
    c.put_headers-end.result c.put_records-index.result p.has_room
    c.put.ensures c.put.auto.out c.put_headers-end.ensures.0 c.put_headers-end.ensures.1 c.put_headers-end.auto.out c.put-2.ensures c.put-2.auto.out
    c.put_records-index.ensures.0 c.put_records-index.ensures.1 c.put_records-index.auto.out c.put-3.ensures c.put-3.auto.out c.put_places.ensures c.put_places.auto.out
    c.in_ok-length.length p.is p.short
