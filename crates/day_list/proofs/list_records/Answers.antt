-- `day_list::list_records` meets its contract.
use Rattle.std.proofs.Common.{◌∙◌, ◌*◌, ◌++◌, ◌∷◌, [], ℕ, List, refl, ap, sym, arith}
use Rattle.paper.specs.DayFile.{read_day}
use Rattle.laws.specs.Placing.{placed}
use Rattle.day_steps.specs.declared.Entry.{Entry}
use Rattle.day_list.specs.Lists.{records_listed}
use Rattle.day_list.proofs.Listing.{none_put, then_copied, passes, records_long_list, records_none}
use Rattle.day_list.proofs.list_records.Goals as goal

pub loop-i-init : goal.loop-i-init
loop-i-init c =
    let a = c.args in
    let o = read_day a.file.now in
    record { next = c.requires.1; put = none_put a.base a.places.now ∙ ap (λ (w : List ℕ). placed a.base w a.places.now) (sym (records_none o)) }

pub entry_at-e-requires : goal.entry_at-e-requires
entry_at-e-requires c =
    let s = passes c.args.file.now c.type_inv.file c.args.records c.loop-i.i c.loop-i.at c.requires.0 (omega arith) c.loop-i.invariant.next in
    (s.room, s.file_short)

pub loop-i-preserved : goal.loop-i-preserved
loop-i-preserved c =
    let f = c.args.file.now in
    let l = c.loop-i in
    let o = read_day f in
    let e = c.entry_at-e.result in
    let is = c.entry_at-e.ensures.0 in
    let s = passes f c.type_inv.file c.args.records l.i l.at c.requires.0 (omega arith) l.invariant.next in
    record {
      next = ap (λ (x : Entry). x.end) is ∙ s.next;
      put =
          then_copied c.args.base (4 * l.i) 4 (records_listed o l.i) (e.header ∷ e.stretch ∷ e.start ∷ e.end ∷ []) c.args.places.now l.places c.copy_from_slice.new.self l.invariant.put
          (records_long_list o l.i (omega arith)) c.copy_from_slice.ensures.after refl (omega arith)
          ∙ ap (λ (x : Entry). placed c.args.base (records_listed o l.i ++ x.header ∷ x.stretch ∷ x.start ∷ x.end ∷ []) c.args.places.now) is
          ∙ ap (λ (w : List ℕ). placed c.args.base w c.args.places.now) (sym s.more);
    }
