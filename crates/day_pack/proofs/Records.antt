-- A turn of the walk that packs the records.
use mathlib.Core.Bool.{Bool, true, false}
use mathlib.Core.List.{List, ◌++◌, append_assoc, append-nil}
use mathlib.Core.Path.{◌≡◌, refl, ap, sym, subst, ◌∙◌}
use Prim.Native.Nat.{ℕ, ◌+◌, ◌-◌, ◌≤◌, ◌<◌}
use native.Mathlib.Omega.{arith}
use lib.ListN.{length, take, drop, length-append, length-drop}
use lib.Seq.{length-take-le, drop-drop}
use Rattle.std.specs.Prelude.{if◌then◌else◌}
use Rattle.paper.specs.Strings.{Bytes}
use Rattle.paper.specs.DayEdits.{has, rising_from}
use Rattle.laws.specs.Placing.{placed}
use Rattle.day_steps.specs.declared.Entry.{Entry}
use Rattle.day_steps.specs.Walks.{entry_at}
use Rattle.day_place.specs.Walked.{end_of}
use Rattle.day_place.proofs.Walk.{end_more}
use Rattle.day_pack.specs.Bits.{bits_below, Counted}
use Rattle.day_pack.specs.Kept.{next_is, Walkable, CountedAll, number_of, record_part, records_kept, Packed}
use Rattle.day_pack.proofs.Beside.{Beside, beside_first, beside_next}
use Rattle.day_pack.proofs.Packs.{packed_start, packed_more, packed_as, same_entry, same_front, part_front}
use Rattle.day_pack.proofs.Turns.{record_room, record_end, first_inside, records_more, record_short}

-- the kept ones of the first k records stand one after the other, and those to come are as they were
pub record RecordsPacked (out₀ : Bytes) (first records last start : ℕ) (dropped table : List ℕ) (k from to j : ℕ) (out : Bytes) : Type 0 where
  pub here : from ≡ end_of (take last out₀) first k
  pub beside : Beside dropped records j k
  pub few : j ≤ k
  pub after : to ≡ start + length (records_kept (take last out₀) table dropped first k)
  pub packed : Packed out₀ (take start out₀ ++ records_kept (take last out₀) table dropped first k) from out

module _ (out₀ : Bytes) (first records last start : ℕ) (dropped table : List ℕ) (walks : Walkable (take last out₀) first records)
    (before_first : start ≤ first) (lies : last ≤ length out₀) where
  abbrev f : Bytes
  f = take last out₀

  f_long : length f ≡ last
  f_long = length-take-le last out₀ lies

  abbrev kept : ℕ → Bytes
  kept k = records_kept f table dropped first k

  start_inside : start ≤ length out₀
  start_inside = omega (arith, before_first, first_inside f first records walks, f_long, lies)

  pub records_first : rising_from 0 records dropped ≡ true → RecordsPacked out₀ first records last start dropped table 0 first start 0 out₀
  unfolding end_of records_kept
  records_first rises =
      record {
        here = refl;
        beside = beside_first dropped records rises;
        few = omega arith;
        after = omega arith;
        packed =
            packed_as (sym (append-nil (take start out₀))) refl (packed_start out₀ start first before_first (omega (arith, first_inside f first records walks, f_long, lies)));
      }

  pub records_all : {k from to j : ℕ} {out : Bytes} → RecordsPacked out₀ first records last start dropped table k from to j out → k ≡ records
      → (to ≡ start + length (kept records)) × Packed out₀ (take start out₀ ++ kept records) last out
  records_all p all = (
    p.after ∙ ap (λ (n : ℕ). start + length (kept n)) all,
    packed_as (ap (λ (n : ℕ). take start out₀ ++ kept n) all) (p.here ∙ ap (end_of f first) all ∙ walks.ends ∙ f_long) p.packed,
  )

  module _ {k from to j : ℕ} {out : Bytes} (p : RecordsPacked out₀ first records last start dropped table k from to j out) (inside : k < records) where
    -- where the record stands and ends
    abbrev at : ℕ
    at = end_of f first k

    abbrev end : ℕ
    end = end_of f first (k + 1)

    room : at + 7 ≤ last
    room = omega (arith, record_room f first records k walks inside, f_long)

    end_inside : end ≤ last
    end_inside = omega (arith, record_end f first records k walks inside, f_long)

    long_enough : at + 7 ≤ end
    long_enough = omega (arith, end_more f first k)

    -- what is still to come is as it was
    same : drop at out ≡ drop at out₀
    same = ap (λ (n : ℕ). drop n out) (sym p.here) ∙ p.packed.rest ∙ ap (λ (n : ℕ). drop n out₀) p.here

    front_long : length (take last out) ≡ last
    front_long = length-take-le last out (omega (arith, p.packed.long, lies))

    pub record_there : (from + 7 ≤ length (take last out)) × (length (take last out) ≤ 65536)
    record_there = (omega (arith, room, p.here, front_long), omega (arith, front_long, f_long, walks.short))

    abbrev body : Bytes
    body = take (end - (at + 2)) (drop (at + 2) f)

    body_same : take (end - (at + 2)) (drop (at + 2) out) ≡ body
    body_same =
        ap (take (end - (at + 2))) (sym (drop-drop 2 at out) ∙ ap (drop 2) same ∙ drop-drop 2 at out₀)
        ∙ sym (part_front out₀ (at + 2) (end - (at + 2)) last (omega (arith, end_inside, long_enough)) lies)

    body_long : length body ≡ end - (at + 2)
    body_long = length-take-le (end - (at + 2)) (drop (at + 2) f) (omega (arith, length-drop (at + 2) f, f_long, end_inside, long_enough))

    written_long : length (take start out₀ ++ kept k) ≡ to
    written_long = omega (arith, length-append (take start out₀) (kept k), length-take-le start out₀ start_inside, p.after)

    -- the record is read
    module _ (e : Entry) (read : e ≡ entry_at (take last out) from) where
      entry_is : e ≡ entry_at f at
      entry_is =
          read
          ∙ ap (entry_at (take last out)) p.here
          ∙ same_entry (take last out) f at (same_front out out₀ at last (omega (arith, room)) (omega (arith, p.packed.long, lies)) p.packed.long same)

      number_is : e.header ≡ number_of f first k
      number_is = ap (λ (x : Entry). x.header) entry_is

      end_is : e.end ≡ end
      end_is = ap (λ (x : Entry). x.end) entry_is ∙ sym (end_more f first k)

      pub record_moves : (before : List ℕ) → CountedAll before table f first records
          → (to ≤ from) × (from + 7 ≤ e.end) × (e.end ≤ length out) × (e.header < 13104) × Counted before table e.header
      record_moves before counted = (
        omega (arith, p.packed.behind, written_long),
        omega (arith, long_enough, end_is, p.here),
        omega (arith, end_inside, end_is, p.packed.long, lies),
        omega (arith, number_is, walks.few k inside),
        subst (Counted before table) (sym number_is) (counted k inside),
      )

      at_most : (c : Bool) (r : ℕ) → r ≡ (if c then j + 1 else j) → r ≤ k + 1
      at_most true r q = omega (arith, q, p.few)
      at_most false r q = omega (arith, q, p.few)

      pub records_next : (named : Bool) (j' to' : ℕ) (out' : Bytes) → named ≡ next_is dropped j k → j' ≡ (if named then j + 1 else j)
          → to' ≡ to + length (record_part named (bits_below table e.header) (take (e.end - (from + 2)) (drop (from + 2) out)))
          → out' ≡ placed to (record_part named (bits_below table e.header) (take (e.end - (from + 2)) (drop (from + 2) out))) out
          → RecordsPacked out₀ first records last start dropped table (k + 1) e.end to' j' out'
      records_next named j' to' out' is step q r =
          let next = beside_next p.beside in
          let so : has dropped k ≡ named = next.0 ∙ sym is in
          let number = bits_below table (number_of f first k) in
          let part : record_part named (bits_below table e.header) (take (e.end - (from + 2)) (drop (from + 2) out)) ≡ record_part (has dropped k) number body =
          (λ i. record_part (sym so i) (bits_below table (number_is i)) (take (end_is i - (p.here i + 2)) (drop (p.here i + 2) out)))
          ∙ ap (record_part (has dropped k) number) body_same in
          let own = record_part (has dropped k) number body in
          let more = records_more f table dropped first k in
          let short = record_short (has dropped k) number body in
          record {
            here = end_is;
            beside = subst (λ (m : ℕ). Beside dropped records m (k + 1)) (sym (step ∙ ap (λ (b : Bool). if b then j + 1 else j) is)) next.1;
            few = at_most named j' step;
            after = q ∙ omega (arith, ap length part, p.after, ap length more, length-append (kept k) own);
            packed =
                packed_as (append_assoc (take start out₀) (kept k) own ∙ ap (λ (X : Bytes). take start out₀ ++ X) (sym more)) refl
                (packed_more p.packed to (sym written_long) own e.end (omega (arith, end_is, p.here, long_enough))
                (omega (arith, short, body_long, p.packed.behind, written_long, end_is, p.here, long_enough)) (omega (arith, end_is, end_inside, lies)) out'
                (r ∙ ap (λ (X : Bytes). placed to X out) part));
          }
