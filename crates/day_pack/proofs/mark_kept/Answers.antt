-- `day_pack::mark_kept`: one record more in each turn.
use Rattle.std.proofs.Common.{◌≡◌, ◌∙◌, ℕ, ◌+◌, Bool, ap, sym, subst, refl, arith}
use Rattle.std.specs.Prelude.{if◌then◌else◌}
use Rattle.paper.specs.DayEdits.{count_below, has, keeps}
use Rattle.day_steps.specs.declared.Entry.{Entry}
use Rattle.day_steps.specs.Walks.{entry_at}
use Rattle.day_place.specs.Walked.{end_of}
use Rattle.day_place.proofs.Walk.{end_more}
use Rattle.day_pack.specs.Bits.{with_bit}
use Rattle.day_pack.specs.Kept.{number_of, MarksOf}
use Rattle.day_pack.proofs.Beside.{Beside, beside_first, beside_next}
use Rattle.day_pack.proofs.Turns.{marks_first, marks_turn, table_long, both_counted, stepped, record_room}
use Rattle.day_pack.proofs.mark_kept.Goals as goal

pub loop-k-init : goal.loop-k-init
unfolding end_of count_below
loop-k-init c =
    let a = c.args in
    record {
      here = refl;
      beside = beside_first a.dropped.now a.records c.requires.1;
      counted = refl;
      long = c.told-table;
      marks = marks_first a.table.now a.file.now a.dropped.now a.first c.requires.2;
    }

pub entry_at-e-requires : goal.entry_at-e-requires
entry_at-e-requires c =
    let a = c.args in
    let l = c.loop-k in
    (omega (arith, record_room a.file.now a.first a.records l.k c.requires.0 c.loop-k-test.true, l.invariant.here), c.requires.0.short)

pub mark-requires : goal.mark-requires
mark-requires c =
    let l = c.loop-k in
    let number = ap (λ (e : Entry). e.header) (c.entry_at-e.ensures.0 ∙ ap (entry_at c.args.file.now) l.invariant.here) in
    omega (arith, number, c.requires.0.few l.k c.loop-k-test.true)

pub loop-k-preserved : goal.loop-k-preserved
loop-k-preserved c =
    let a = c.args in
    let l = c.loop-k in
    let f = a.file.now in
    let dropped = a.dropped.now in
    let number = number_of f a.first l.k in
    let named = c.next_is-named.result in
    let next = beside_next l.invariant.beside in
    let entry = c.entry_at-e.ensures.0 ∙ ap (entry_at f) l.invariant.here in
    let so : has dropped l.k ≡ named = next.0 ∙ sym c.next_is-named.ensures in
    let step : l.j + c.from-j.result ≡ (if named then l.j + 1 else l.j) = stepped l.j c.from-j.result named c.from-j.ensures in
    let marked : c.mark.new.table ≡ (if named then l.table else with_bit l.table number) =
    c.mark.ensures ∙ ap (λ (e : Entry). if named then l.table else with_bit l.table e.header) entry in
    record {
      here = ap (λ (e : Entry). e.end) entry ∙ sym (end_more f a.first l.k);
      beside = subst (λ (j : ℕ). Beside dropped a.records j (l.k + 1)) (sym (step ∙ ap (λ (b : Bool). if b then l.j + 1 else l.j) c.next_is-named.ensures)) next.1;
      counted = ap (λ (j : ℕ). j + count_below (keeps dropped) (l.k + 1)) step ∙ both_counted dropped l.j l.k named so l.invariant.counted;
      long = table_long l.table c.mark.new.table named number l.invariant.long marked;
      marks = marks_turn l.table f dropped a.first l.k l.invariant.long (c.requires.0.few l.k c.loop-k-test.true) l.invariant.marks named so c.mark.new.table marked;
    }

pub overflow_sub-result : goal.overflow_sub-result
overflow_sub-result c = omega (arith, c.loop-k.invariant.counted)

pub returns : goal.returns
returns c =
    let a = c.args in
    let l = c.loop-k in
    let all : l.k ≡ a.records = omega arith in (
      omega (arith, l.invariant.counted, ap (count_below (keeps a.dropped.now)) all),
      subst (λ (n : ℕ). MarksOf l.table a.file.now a.dropped.now a.first n) all l.invariant.marks,
    )
