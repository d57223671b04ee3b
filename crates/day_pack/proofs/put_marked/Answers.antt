-- `day_pack::put_marked`: each step by what stands in the buffer after the one before it.
use Rattle.std.proofs.Common.{List, ℕ, ◌≡◌, ◌∙◌, ◌+◌, ◌-◌, ◌*◌, ap, sym, subst, refl, length, take, drop, length-drop, replicate, arith, rules}
use lib.Seq.{length-take-le}
use Rattle.paper.specs.Strings.{Bytes}
use Rattle.paper.specs.DayFile.{Day, write_day, read_day}
use Rattle.paper.specs.DayEdits.{cleared}
use Rattle.std.proofs.Math.Option.{Option}
use Rattle.day_pack.specs.Kept.{CountedAll}
use Rattle.day_pack.specs.Cleared.{cleared_file, cleared_buffer}
use Rattle.day_pack.proofs.Steps.{Begun, begun, last_of, Marked, CountPut, HeadersPut, NumberPut, RecordsPut, records_put, IndexPut}
use Rattle.day_pack.proofs.Clears as clears
use Rattle.day_pack.proofs.put_marked.Goals as goal

pub overflow_sub-last : goal.overflow_sub-last
overflow_sub-last c =
    let b : Begun = begun c.requires.0 (λ i. search rules) in
    omega (arith, clears.size_is b)

pub overflow_mul-last : goal.overflow_mul-last
overflow_mul-last c =
    let b : Begun = begun c.requires.0 (λ i. search rules) in
    omega (arith, clears.size_is b, clears.size_short b)

pub overflow_sub-last-2 : goal.overflow_sub-last-2
overflow_sub-last-2 c =
    let b : Begun = begun c.requires.0 (λ i. search rules) in
    omega (arith, clears.size_is b)

pub count-requires : goal.count-requires
count-requires c =
    let b : Begun = begun c.requires.0 (λ i. search rules) in
    (clears.headers_few b, refl)

pub put-requires-clause-inside : goal.put-requires-clause-inside
put-requires-clause-inside c =
    let b : Begun = begun c.requires.0 (λ i. search rules) in
    omega (arith, clears.size_is b, c.requires.0.inside)

pub pack_headers-to-requires : goal.pack_headers-to-requires
pack_headers-to-requires c =
    let b : Begun = begun c.requires.0 (λ i. search rules) in
    let m : Marked b = record { table = c.args.table.now; marks = c.requires.1 } in
    let h : CountPut b m = record { count = c.count.new.self.all; count_is = c.count.ensures.all; out = c.put.new.out; put = c.put.ensures } in
    (clears.heads_ready b m h, clears.headers_few b)

pub put-requires-2-clause-inside : goal.put-requires-2-clause-inside
put-requires-2-clause-inside c =
    let b : Begun = begun c.requires.0 (λ i. search rules) in
    let m : Marked b = record { table = c.args.table.now; marks = c.requires.1 } in
    let h : CountPut b m = record { count = c.count.new.self.all; count_is = c.count.ensures.all; out = c.put.new.out; put = c.put.ensures } in
    let to = c.pack_headers-to in
    let q : HeadersPut b m h = record { to = to.result; to_is = to.ensures.0; out = to.new.out; put = to.ensures.1 } in
    omega (arith, clears.to_room b m h q, clears.size_is b, c.requires.0.inside, c.pack_headers-to.auto.out, c.put.auto.out)

pub overflow_add-start : goal.overflow_add-start
overflow_add-start c =
    let b : Begun = begun c.requires.0 (λ i. search rules) in
    let m : Marked b = record { table = c.args.table.now; marks = c.requires.1 } in
    let h : CountPut b m = record { count = c.count.new.self.all; count_is = c.count.ensures.all; out = c.put.new.out; put = c.put.ensures } in
    let to = c.pack_headers-to in
    let q : HeadersPut b m h = record { to = to.result; to_is = to.ensures.0; out = to.new.out; put = to.ensures.1 } in
    omega (arith, clears.to_room b m h q, clears.size_is b, clears.size_short b)

pub pack_records-end-requires : goal.pack_records-end-requires
pack_records-end-requires c =
    let b : Begun = begun c.requires.0 (λ i. search rules) in
    let m : Marked b = record { table = c.args.table.now; marks = c.requires.1 } in
    let h : CountPut b m = record { count = c.count.new.self.all; count_is = c.count.ensures.all; out = c.put.new.out; put = c.put.ensures } in
    let to = c.pack_headers-to in
    let q : HeadersPut b m h = record { to = to.result; to_is = to.ensures.0; out = to.new.out; put = to.ensures.1 } in
    let n : NumberPut b m h q = record { count = c.args.kept; count_is = c.requires.2; out = c.put-2.new.out; put = c.put-2.ensures } in
    let counts = c.count in (
      clears.records_ready b m h q n,
      c.requires.0.rises,
      clears.to_room b m h q,
      omega (arith, clears.size_is b, c.requires.0.inside, clears.out₃_long b m h q n),
      subst (λ (u : List ℕ). CountedAll counts.new.self.before u (take (last_of b) n.out) b.first b.records) (sym counts.ensures.table)
          (clears.records_counted_at b m h q n counts.new.self.before counts.ensures.before),
    )

pub put_index-requires : goal.put_index-requires
put_index-requires c =
    let b : Begun = begun c.requires.0 (λ i. search rules) in
    let m : Marked b = record { table = c.args.table.now; marks = c.requires.1 } in
    let h : CountPut b m = record { count = c.count.new.self.all; count_is = c.count.ensures.all; out = c.put.new.out; put = c.put.ensures } in
    let to = c.pack_headers-to in
    let q : HeadersPut b m h = record { to = to.result; to_is = to.ensures.0; out = to.new.out; put = to.ensures.1 } in
    let n : NumberPut b m h q = record { count = c.args.kept; count_is = c.requires.2; out = c.put-2.new.out; put = c.put-2.ensures } in
    let end = c.pack_records-end in
    let r : RecordsPut b m h q n = records_put b m h q n c.count.new.self.table.now c.count.ensures.table end.result end.new.out end.ensures.0 end.ensures.1 in
    let room = clears.end_room b m h q n r in (
      clears.index_ready b m h q n r,
      omega (arith, room, c.requires.0.inside, clears.out₄_long b m h q n r),
      omega (arith, room, clears.size_short b),
    )

pub overflow_mul-n : goal.overflow_mul-n
overflow_mul-n c =
    let b : Begun = begun c.requires.0 (λ i. search rules) in
    let m : Marked b = record { table = c.args.table.now; marks = c.requires.1 } in
    let h : CountPut b m = record { count = c.count.new.self.all; count_is = c.count.ensures.all; out = c.put.new.out; put = c.put.ensures } in
    let to = c.pack_headers-to in
    let q : HeadersPut b m h = record { to = to.result; to_is = to.ensures.0; out = to.new.out; put = to.ensures.1 } in
    let n : NumberPut b m h q = record { count = c.args.kept; count_is = c.requires.2; out = c.put-2.new.out; put = c.put-2.ensures } in
    let end = c.pack_records-end in
    let r : RecordsPut b m h q n = records_put b m h q n c.count.new.self.table.now c.count.ensures.table end.result end.new.out end.ensures.0 end.ensures.1 in
    omega (arith, clears.end_room b m h q n r, clears.size_short b)

pub overflow_add-n-2 : goal.overflow_add-n-2
overflow_add-n-2 c =
    let b : Begun = begun c.requires.0 (λ i. search rules) in
    let m : Marked b = record { table = c.args.table.now; marks = c.requires.1 } in
    let h : CountPut b m = record { count = c.count.new.self.all; count_is = c.count.ensures.all; out = c.put.new.out; put = c.put.ensures } in
    let to = c.pack_headers-to in
    let q : HeadersPut b m h = record { to = to.result; to_is = to.ensures.0; out = to.new.out; put = to.ensures.1 } in
    let n : NumberPut b m h q = record { count = c.args.kept; count_is = c.requires.2; out = c.put-2.new.out; put = c.put-2.ensures } in
    let end = c.pack_records-end in
    let r : RecordsPut b m h q n = records_put b m h q n c.count.new.self.table.now c.count.ensures.table end.result end.new.out end.ensures.0 end.ensures.1 in
    omega (arith, clears.end_room b m h q n r, clears.size_short b)

pub slice_bounds-clear-count : goal.slice_bounds-clear-count
slice_bounds-clear-count c =
    let b : Begun = begun c.requires.0 (λ i. search rules) in
    let m : Marked b = record { table = c.args.table.now; marks = c.requires.1 } in
    let h : CountPut b m = record { count = c.count.new.self.all; count_is = c.count.ensures.all; out = c.put.new.out; put = c.put.ensures } in
    let to = c.pack_headers-to in
    let q : HeadersPut b m h = record { to = to.result; to_is = to.ensures.0; out = to.new.out; put = to.ensures.1 } in
    let n : NumberPut b m h q = record { count = c.args.kept; count_is = c.requires.2; out = c.put-2.new.out; put = c.put-2.ensures } in
    let end = c.pack_records-end in
    let r : RecordsPut b m h q n = records_put b m h q n c.count.new.self.table.now c.count.ensures.table end.result end.new.out end.ensures.0 end.ensures.1 in
    omega (arith, clears.end_room b m h q n r)

pub slice_bounds-clear-start : goal.slice_bounds-clear-start
slice_bounds-clear-start c =
    let b : Begun = begun c.requires.0 (λ i. search rules) in
    let m : Marked b = record { table = c.args.table.now; marks = c.requires.1 } in
    let h : CountPut b m = record { count = c.count.new.self.all; count_is = c.count.ensures.all; out = c.put.new.out; put = c.put.ensures } in
    let to = c.pack_headers-to in
    let q : HeadersPut b m h = record { to = to.result; to_is = to.ensures.0; out = to.new.out; put = to.ensures.1 } in
    let n : NumberPut b m h q = record { count = c.args.kept; count_is = c.requires.2; out = c.put-2.new.out; put = c.put-2.ensures } in
    let end = c.pack_records-end in
    let r : RecordsPut b m h q n = records_put b m h q n c.count.new.self.table.now c.count.ensures.table end.result end.new.out end.ensures.0 end.ensures.1 in
    omega (arith, clears.end_room b m h q n r)

pub returns : goal.returns
returns c =
    let b : Begun = begun c.requires.0 (λ i. search rules) in
    let m : Marked b = record { table = c.args.table.now; marks = c.requires.1 } in
    let h : CountPut b m = record { count = c.count.new.self.all; count_is = c.count.ensures.all; out = c.put.new.out; put = c.put.ensures } in
    let to = c.pack_headers-to in
    let q : HeadersPut b m h = record { to = to.result; to_is = to.ensures.0; out = to.new.out; put = to.ensures.1 } in
    let n : NumberPut b m h q = record { count = c.args.kept; count_is = c.requires.2; out = c.put-2.new.out; put = c.put-2.ensures } in
    let end = c.pack_records-end in
    let r : RecordsPut b m h q n = records_put b m h q n c.count.new.self.table.now c.count.ensures.table end.result end.new.out end.ensures.0 end.ensures.1 in
    let x : IndexPut b m h q n r = record { out = c.put_index.new.out; put = c.put_index.ensures } in
    let last = end.result + 4 + 4 * c.args.kept in
    let file : write_day (cleared b.dropped c.requires.0.day) ≡ cleared_file (read_day (take b.size b.buffer)) b.dropped =
    sym (ap (λ (o : Option Day). cleared_file o b.dropped) c.requires.0.reads) in
    let long : length (take (b.size - last) (drop last c.put_index.new.out)) ≡ b.size - last =
    length-take-le (b.size - last) (drop last c.put_index.new.out)
    (omega (arith, length-drop last c.put_index.new.out, clears.out₅_long b m h q n r x, c.requires.0.inside, clears.end_room b m h q n r)) in
    let zeros : c.clear.new.s ≡ replicate (b.size - last) 0 = c.clear.ensures ∙ ap (λ (j : ℕ). replicate j 0) long in (
      sym (clears.whole_long b m h q n r) ∙ ap length file,
      clears.cleared_all b m h q n r x _ c.clear.new.s zeros refl ∙ ap (λ (f : Bytes). cleared_buffer f b.size b.buffer) file,
    )
