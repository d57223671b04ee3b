-- `day_list::list_headers` meets its contract.
use Rattle.std.proofs.Common.{◌≡◌, ◌∙◌, ◌+◌, ◌-◌, ◌*◌, ◌<◌, ◌++◌, ◌∷◌, [], ℕ, List, refl, ap, sym, arith}
use borrow.Rule.Slice.PartMut.{put_mid}
use Rattle.paper.specs.DayFile.{read_day}
use Rattle.laws.specs.Placing.{placed}
use Rattle.day_find.specs.Finds.{headers_in, length_place}
use Rattle.day_list.specs.Lists.{headers_listed}
use Rattle.day_find.proofs.Finding.{passed, first_header}
use Rattle.day_list.proofs.Listing.{then_copied, headers_long, headers_more, headers_none}
use Rattle.day_list.proofs.list_headers.Goals as goal

pub loop-i-init : goal.loop-i-init
loop-i-init c =
    let o = read_day c.args.file.now in
    record { next = first_header o; put = ap (λ (w : List ℕ). placed 0 w c.args.places.now) (sym (headers_none o)) }

pub overflow_add-start : goal.overflow_add-start
overflow_add-start c = omega (arith, (passed c.args.file.now c.type_inv.file c.loop-i.i c.loop-i.at (omega arith) c.loop-i.invariant.next).0)

pub read-requires-clause-inside : goal.read-requires-clause-inside
read-requires-clause-inside c = omega (arith, (passed c.args.file.now c.type_inv.file c.loop-i.i c.loop-i.at (omega arith) c.loop-i.invariant.next).0)

pub overflow_add-end : goal.overflow_add-end
overflow_add-end c =
    omega (arith, (passed c.args.file.now c.type_inv.file c.loop-i.i c.loop-i.at (omega arith) c.loop-i.invariant.next).0, c.read.ensures.value)

pub loop-i-preserved : goal.loop-i-preserved
loop-i-preserved c =
    let f = c.args.file.now in
    let l = c.loop-i in
    let o = read_day f in
    let inside : l.i < headers_in o = omega arith in
    let next : l.at + 2 + c.read.result ≡ length_place o (l.i + 1) =
    omega (arith, c.read.ensures.value) ∙ (passed f c.type_inv.file l.i l.at inside l.invariant.next).1 in
    let own : List ℕ = (l.at + 2) ∷ (l.at + 2 + c.read.result) ∷ [] in
    let more : headers_listed o (l.i + 1) ≡ headers_listed o l.i ++ own =
    headers_more o l.i inside ∙ (λ i. headers_listed o l.i ++ (sym l.invariant.next i + 2) ∷ sym next i ∷ []) in
    let here : 2 * l.i ≡ 0 + 2 * l.i = omega arith in
    record {
      next = next;
      put =
          ap (λ (n : ℕ). put_mid n (n + 2 - n) l.places c.copy_from_slice.new.self) here
          ∙ then_copied 0 (2 * l.i) 2 (headers_listed o l.i) own c.args.places.now l.places c.copy_from_slice.new.self l.invariant.put (headers_long o l.i (omega arith)) c.copy_from_slice.ensures.after refl (omega arith)
          ∙ ap (λ (w : List ℕ). placed 0 w c.args.places.now) (sym more);
    }
