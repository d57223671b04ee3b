-- `day_grow::put_grown`: the header that is there, or the one that is brought.
use Rattle.std.proofs.Common.{◌∙◌, ap, arith, rules}
use Rattle.paper.specs.Strings.{Bytes}
use Rattle.laws.specs.Placing.{placed}
use Rattle.day_grow.proofs.Lent.{Lent, Brought, lent}
use Rattle.day_grow.proofs.Growing.{there_rows, there_short, there_room, there_closes, next_rows, next_short, next_room, next_closes}
use Rattle.day_grow.proofs.Sizes.{Sizes, sizes, room_next, file_is}
use Rattle.day_grow.proofs.put_grown.Goals as goal

pub overflow_sub-end : goal.overflow_sub-end
overflow_sub-end c =
    let l : Lent = lent c.requires (λ i. search rules) in
    let s : Sizes l = sizes l in
    omega (arith, s.heads, s.records_end, s.headers_end, s.few)

pub overflow_sub-last : goal.overflow_sub-last
overflow_sub-last c =
    let l : Lent = lent c.requires (λ i. search rules) in
    let s : Sizes l = sizes l in
    omega (arith, s.heads, s.records_end, s.headers_end, s.few)

pub overflow_mul-last : goal.overflow_mul-last
overflow_mul-last c =
    let l : Lent = lent c.requires (λ i. search rules) in
    let s : Sizes l = sizes l in
    omega (arith, s.heads, s.records_end, s.headers_end, s.few)

pub overflow_sub-last-2 : goal.overflow_sub-last-2
overflow_sub-last-2 c =
    let l : Lent = lent c.requires (λ i. search rules) in
    let s : Sizes l = sizes l in
    omega (arith, s.heads, s.records_end, s.headers_end, s.few)

pub put_last-requires : goal.put_last-requires
put_last-requires c =
    let l : Lent = lent c.requires (λ i. search rules) in
    let s : Sizes l = sizes l in
    let there = c.if-number-headers.true in
    (there_rows l there, omega (arith, s.heads), there_short l there, there_room l there, s.stretch)

pub returns-then-number-headers : goal.returns-then-number-headers
returns-then-number-headers c =
    let l : Lent = lent c.requires (λ i. search rules) in
    there_closes l c.if-number-headers.true c.put_last.new.out c.put_last.ensures ∙ ap (λ (w : Bytes). placed 0 w l.buffer) (file_is l)

pub overflow_add-end : goal.overflow_add-end
overflow_add-end c =
    let l : Lent = lent c.requires (λ i. search rules) in
    let s : Sizes l = sizes l in
    omega (arith, s.heads, s.records_end, s.headers_end, s.few, room_next l c.if-number-headers.false)

pub overflow_sub-last-else-number-headers : goal.overflow_sub-last-else-number-headers
overflow_sub-last-else-number-headers c =
    let l : Lent = lent c.requires (λ i. search rules) in
    let s : Sizes l = sizes l in
    omega (arith, s.heads, s.records_end, s.headers_end, s.few, room_next l c.if-number-headers.false)

pub move_bytes-requires : goal.move_bytes-requires
move_bytes-requires c =
    let l : Lent = lent c.requires (λ i. search rules) in
    let s : Sizes l = sizes l in
    let room = room_next l c.if-number-headers.false in
    (omega (arith, room, s.headers_end), omega (arith, room, s.heads, s.headers_end))

pub put-requires : goal.put-requires
put-requires c =
    let l : Lent = lent c.requires (λ i. search rules) in
    let s : Sizes l = sizes l in
    omega (arith, s.heads, s.records_end, s.headers_end, s.few, room_next l c.if-number-headers.false)

pub overflow_add-headers : goal.overflow_add-headers
overflow_add-headers c =
    let l : Lent = lent c.requires (λ i. search rules) in
    let s : Sizes l = sizes l in
    omega (arith, s.heads, s.records_end, s.headers_end, s.few, room_next l c.if-number-headers.false)

pub put-requires-else-number-headers-clause-inside : goal.put-requires-else-number-headers-clause-inside
put-requires-else-number-headers-clause-inside c =
    let l : Lent = lent c.requires (λ i. search rules) in
    let s : Sizes l = sizes l in
    omega (arith, s.heads, s.records_end, s.headers_end, s.few, room_next l c.if-number-headers.false)

pub overflow_add-first : goal.overflow_add-first
overflow_add-first c =
    let l : Lent = lent c.requires (λ i. search rules) in
    let s : Sizes l = sizes l in
    omega (arith, s.heads, s.records_end, s.headers_end, s.few, room_next l c.if-number-headers.false)

pub put_last-requires-else-number-headers : goal.put_last-requires-else-number-headers
put_last-requires-else-number-headers c =
    let l : Lent = lent c.requires (λ i. search rules) in
    let s : Sizes l = sizes l in
    let next = c.if-number-headers.false in
    let b : Brought l =
    record {
      moved = c.move_bytes.new.out;
      moved_is = c.move_bytes.ensures;
      headed = c.put.new.out;
      headed_is = c.put.ensures.1;
      out = c.put-else-number-headers.new.out;
      out_is = c.put-else-number-headers.ensures;
      kept = c.put-else-number-headers.auto.out ∙ c.put.auto.out ∙ c.move_bytes.auto.out;
    } in
    (next_rows l next b, omega (arith, s.heads), next_short l next b, next_room l next b, s.stretch)

pub returns-else-number-headers : goal.returns-else-number-headers
returns-else-number-headers c =
    let l : Lent = lent c.requires (λ i. search rules) in
    let b : Brought l =
    record {
      moved = c.move_bytes.new.out;
      moved_is = c.move_bytes.ensures;
      headed = c.put.new.out;
      headed_is = c.put.ensures.1;
      out = c.put-else-number-headers.new.out;
      out_is = c.put-else-number-headers.ensures;
      kept = c.put-else-number-headers.auto.out ∙ c.put.auto.out ∙ c.move_bytes.auto.out;
    } in
    let last = c.put_last-else-number-headers in
    next_closes l c.if-number-headers.false b last.new.out last.ensures ∙ ap (λ (w : Bytes). placed 0 w l.buffer) (file_is l)
