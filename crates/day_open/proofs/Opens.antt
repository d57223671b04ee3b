-- Opening a record of a file: 9 by what the check found, and else what stands at the places that were found.
use mathlib.Core.List.{List, [], ◌∷◌}
use mathlib.Core.Option.{Option, none, some}
use mathlib.Core.Path.{◌≡◌, refl, ap, sym, ◌∙◌}
use Prim.Native.Nat.{ℕ, zero, suc, ◌+◌, ◌-◌, ◌≤◌}
use native.Mathlib.Omega.{arith}
use lib.ListN.{length, take, drop, get_elem?}
use Rattle.paper.specs.Strings.{Bytes, Below}
use Rattle.paper.specs.Document01.{refused, opening}
use Rattle.paper.specs.DayFile.{Record, Day, place_of, header_place, header_of, read_day, open_record, open_in, opening_record}
use Rattle.laws.proofs.DayPlaces.{header_stands}
use Rattle.answer.specs.declared.Refusal.{Refusal}
use Rattle.answer.specs.Outcomes.{outcome, outcome_at}
use Rattle.std.specs.Prelude.{None, Some, Result}
use Rattle.day_find.specs.declared.Found.{Found}
use Rattle.day.specs.Checks.{checked_as, checked_day}
use Rattle.day.proofs.Found.{counts_are}
use Rattle.day_find.specs.Finds.{records_in, found_at, found_in}
use Rattle.day_find.proofs.Finding.{Stands}

-- ---- 9

pub opens_unread : (key f : Bytes) (k : ℕ) (out : Bytes) → None ≡ checked_as (read_day f) → refused 9 out ≡ opening_record key f k out
unfolding opening_record open_in
opens_unread key f k out e = go (read_day f) e
  where
    go : (o : Option Day) → None ≡ checked_as o → refused 9 out ≡ open_in key o k out
    go none e = refl
    go (some day) e = cc

elem_past : {A : Type 0} (l : List A) (k : ℕ) → length l ≤ k → get_elem? l k ≡ none
elem_past [] k p = refl
elem_past (x ∷ l) zero p = absurd (omega arith)
elem_past (x ∷ l) (suc k) p = elem_past l k (omega arith)

-- the number of records that the check found
pub checked_records : (o : Option Day) (headers records first : ℕ) → Some (checked_day headers records first) ≡ checked_as o → records ≡ records_in o
checked_records none headers records first e = cc
checked_records (some day) headers records first e = (counts_are day headers records first e).1

pub opens_absent : (key f : Bytes) (k : ℕ) (out : Bytes) (headers records first : ℕ) → Some (checked_day headers records first) ≡ checked_as (read_day f) → records ≤ k
    → refused 9 out ≡ opening_record key f k out
unfolding opening_record open_in open_record
opens_absent key f k out headers records first e p = go (read_day f) (checked_records (read_day f) headers records first e)
  where
    go : (o : Option Day) → records ≡ records_in o → refused 9 out ≡ open_in key o k out
    go none e = refl
    go (some day) e = ap (λ (r : Option Record). open_record key day r out) (sym (elem_past day.records k (omega (arith, e))))

-- ---- Else 01's opening

module _ (key f : Bytes) (low : Below 256 f) (records k : ℕ) (s : Stands f records k) (found : Found) (is : found ≡ found_in (read_day f) k) where
  abbrev own : Found
  own = found_at s.day k (some s.own)

  found_own : found ≡ own
  unfolding found_in
  found_own = is ∙ ap (λ (o : Option Day). found_in o k) s.reads ∙ ap (found_at s.day k) s.elem

  pub header_part : take (found.header_end - found.header_start) (drop found.header_start f) ≡ header_of s.day s.own
  unfolding found_at
  header_part =
      let long : header_place s.day.headers s.own.header + length (header_of s.day s.own) - header_place s.day.headers s.own.header ≡ length (header_of s.day s.own) = omega arith in
      (λ i. take ((found_own i).header_end - (found_own i).header_start) (drop (found_own i).header_start f))
      ∙ ap (λ (n : ℕ). take n (drop (header_place s.day.headers s.own.header) f)) long
      ∙ header_stands f s.day low s.reads s.own.header s.named

  pub sealed_part : take (found.end - found.start) (drop found.start f) ≡ s.own.sealed
  unfolding found_at
  sealed_part =
      let long : place_of s.day k + 7 + length s.own.sealed - (place_of s.day k + 7) ≡ length s.own.sealed = omega arith in
      (λ i. take ((found_own i).end - (found_own i).start) (drop (found_own i).start f))
      ∙ ap (λ (n : ℕ). take n (drop (place_of s.day k + 7) f)) long
      ∙ s.sealed_there

  pub stretch_is : found.stretch ≡ s.own.stretch
  unfolding found_at
  stretch_is = ap (λ (x : Found). x.stretch) found_own

  pub opens_found : (a : Result ℕ Refusal) (last out : Bytes)
      → outcome_at a last ≡ opening key (take (found.header_end - found.header_start) (drop found.header_start f)) found.stretch (take (found.end - found.start) (drop found.start f)) out
      → outcome a last ≡ opening_record key f k out
  unfolding opening_record open_in open_record
  opens_found a last out e =
      let p = e ∙ (λ i. opening key (header_part i) (stretch_is i) (sealed_part i) out) in
      (λ i. record { number = (p i).number; size = (p i).size; output = (p i).output })
      ∙ sym (ap (λ (o : Option Day). open_in key o k out) s.reads ∙ ap (λ (o : Option Record). open_record key s.day o out) s.elem)
