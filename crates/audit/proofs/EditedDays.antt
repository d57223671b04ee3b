-- CLEARING AND APPENDING (request E13). After a call that answered 0 the buffer starts with a file that reads as the cleared or the grown day. Every
-- record that was kept, or was there, opens as it did before. Clearing again with an empty list changes nothing. What was appended opens to its
-- text.
use mathlib.Core.Bool.{Bool, true, false, not}
use mathlib.Core.List.{List, [], ◌++◌, append_assoc, append-nil}
use mathlib.Core.Option.{Option, some}
use mathlib.Core.Path.{◌≡◌, refl, ap, sym, ◌∙◌}
use Prim.Native.Nat.{ℕ, ◌+◌, ◌-◌, ◌≤◌, ◌<◌}
use native.Mathlib.Omega.{arith}
use borrow.Author.Tests.{ltb-false, le-ltb}
use lib.Dec.{ltb}
use lib.ListN.{length, take, drop, replicate, get_elem?, length-append}
use lib.Seq.{take-append_seam, drop-append_seam}
use Rattle.std.specs.Prelude.{Result, if◌then◌else◌}
use Rattle.paper.specs.Strings.{Bytes, Below}
use Rattle.paper.specs.Document01.{Outcome, OutcomeAt, refused, done, opening}
use Rattle.paper.specs.DayFile.{Record, Day, header_of, write_day, longest_file, read_day, open_record, open_in, opening_record}
use Rattle.paper.specs.DayEdits.{pick_from, count_below, keeps, mended, cleared, rising_from, shrunk, clear_in, clearing, grown, append_fits, append_in, appending}
use Rattle.laws.proofs.Digits.{below_take}
use Rattle.laws.proofs.Demand3.{Fixed}
use Rattle.laws.proofs.DayWritten.{Layout}
use Rattle.laws.proofs.DayReading.{write_read, read_write, record_fits_lem}
use Rattle.laws.proofs.DayPlaces.{elem_drop, elem_fits}
use Rattle.laws.proofs.DayCleared.{cleared_within, cleared_again, kept_record, kept_header}
use Rattle.laws.proofs.DayGrown.{grown_within, grown_before, grown_last, same_headers}
use Rattle.answer.specs.Outcomes.{number_in, size_in, outcome, AnswerAt}
use Rattle.answer.specs.declared.Refusal.{Refusal}
use Rattle.day_clear.proofs.clear.Reads as clear_reads
use Rattle.day_append.proofs.append.Reads as append-reads
use Rattle.audit.proofs.Demands.{Sealed, open_after_seal}
use Rattle.audit.proofs.DayFiles.{OpenedRecord, written, sealed_passes}

-- ---- The two contracts

-- a call that was lent this buffer and list answered r and left these bytes in the buffer
abbrev pub Cleared : (B : Bytes) (size : ℕ) (dropped : List ℕ) (r : Result ℕ Refusal) (last : Bytes) → Type 0
Cleared B size dropped r last = outcome r last ≡ clearing B size dropped

abbrev pub Appended : (B : Bytes) (size number : ℕ) (header : Bytes) (stretch : ℕ) (sealed : Bytes) (r : Result ℕ Refusal) (last : Bytes) → Type 0
Appended B size number header stretch sealed r last = outcome r last ≡ appending B size number header stretch sealed

-- they are the contracts that the checker made from the source
pub clear_promises : (κs : _) (a : _) (r : _) (e : _) → clear_reads.Learnt κs a r e → Cleared a.0.now a.1.0 a.1.1.0.now r e.0.now
clear_promises κs a r e p = p

pub append_promises : (κs : _) (a : _) (r : _) (e : _) → append-reads.Learnt κs a r e
    → Appended a.0.now a.1.0 a.1.1.0 a.1.1.1.0.now a.1.1.1.1.0 a.1.1.1.1.1.0.now r e.0.now
append_promises κs a r e p = p

-- a record under the same header's bytes opens the same
opens_same : (key out : Bytes) (day after : Day) (own new : Record) → header_of after new ≡ header_of day own → new.stretch ≡ own.stretch → new.sealed ≡ own.sealed
    → open_record key after (some new) out ≡ open_record key day (some own) out
unfolding open_record
opens_same key out day after own new h t s = λ i. let o = opening key (h i) (t i) (s i) out in record { number = o.number; size = o.size; output = o.output }

-- a file that does read, and the record of a number
by_reading : (key file : Bytes) (k : ℕ) (out : Bytes) (day : Day) (own : Record) → read_day file ≡ some day → get_elem? day.records k ≡ some own
    → opening_record key file k out ≡ open_record key day (some own) out
unfolding opening_record open_in
by_reading key file k out day own e f = ap (λ (o : Option Day). open_in key o k out) e ∙ ap (λ (o : Option Record). open_record key day o out) f

-- ---- Clearing

module _ (B : Bytes) (low : Below 256 B) (size : ℕ) (day : Day) (reads : read_day (take size B) ≡ some day) (dropped : List ℕ) (r : Result ℕ Refusal) (last : Bytes)
    (call : Cleared B size dropped r last) (zero : number_in r ≡ 0) where
  abbrev file : Bytes
  file = write_day (cleared dropped day)

  -- answer 0 says that the file and the list are right
  is : outcome r last ≡ shrunk file size B
  unfolding clearing clear_in
  is = by_length (ltb (length B) size) call
    where
      not_0 : (n : ℕ) → (0 < n) → outcome r last ≡ refused n B → outcome r last ≡ shrunk file size B
      not_0 n p e = absurd (omega (arith, p, ap (λ (o : Outcome). o.number) e, zero))

      by_list : (b : Bool) → outcome r last ≡ (if b then shrunk file size B else refused 17 B) → outcome r last ≡ shrunk file size B
      by_list true e = e
      by_list false e = not_0 17 (omega arith) e

      by_length : (b : Bool) → outcome r last ≡ (if b then refused 9 B else clear_in (read_day (take size B)) size dropped B) → outcome r last ≡ shrunk file size B
      by_length true e = not_0 9 (omega arith) e
      by_length false e = by_list (rising_from 0 (length day.records) dropped) (e ∙ ap (λ (o : Option Day). clear_in o size dropped B) reads)

  within : Layout day
  within = (read_write (take size B) day (below_take 256 size B low) reads).within

  size_is : size_in r ≡ length file
  size_is = ap (λ (o : Outcome). o.size) is

  whole : last ≡ file ++ (replicate (size - length file) 0 ++ drop size B)
  whole = ap (λ (o : Outcome). o.output) is ∙ append_assoc file (replicate (size - length file) 0) (drop size B)

  pub cleared_first : written r last ≡ file
  cleared_first = (λ i. take (size_is i) (whole i)) ∙ take-append_seam file (replicate (size - length file) 0 ++ drop size B)

  -- it reads as the cleared day
  pub cleared_reads : read_day (written r last) ≡ some (cleared dropped day)
  cleared_reads = ap read_day cleared_first ∙ write_read (cleared dropped day) (cleared_within dropped day within)

  -- record k, where it is kept, opens by its new number as it did by its old one
  pub open_after_clear : (key : Bytes) (k : ℕ) (own : Record) (out : Bytes) → keeps dropped k ≡ true → get_elem? day.records k ≡ some own
      → opening_record key (written r last) (count_below (keeps dropped) k) out ≡ opening_record key (take size B) k out
  open_after_clear key k own out keep e =
      let fits = elem_fits (length day.headers) day.records k own within.records_fit e in
      let new = mended (pick_from (keeps dropped) 0 day.records) own in
      by_reading key (written r last) (count_below (keeps dropped) k) out (cleared dropped day) new cleared_reads (kept_record dropped day within k own keep e)
      ∙ opens_same key out day (cleared dropped day) own new (kept_header dropped day within k own keep e fits) refl refl
      ∙ sym (by_reading key (take size B) k out day own reads e)

  -- clearing again with an empty list returns the same length and changes no byte
  pub clear_again : (s : Result ℕ Refusal) (end : Bytes) → Cleared last (size_in r) [] s end → (number_in s ≡ 0) × (size_in s ≡ (size_in r)) × (end ≡ last)
  unfolding clearing clear_in rising_from
  clear_again s end again =
      let rest = replicate (size - length file) 0 ++ drop size B in
      let inside : size_in r ≤ length last = omega (arith, size_is, ap length whole, length-append file rest) in
      let same : write_day (cleared [] (cleared dropped day)) ≡ file = ap write_day (cleared_again dropped day within) in
      let none_left : size_in r - length file ≡ 0 = omega (arith, size_is) in
      let past : drop (size_in r) last ≡ rest = (λ i. drop (size_is i) (whole i)) ∙ drop-append_seam file rest in
      let e : outcome s end ≡ shrunk file (size_in r) last =
      again
      ∙ ap (λ (b : Bool). if b then refused 9 last else clear_in (read_day (take (size_in r) last)) (size_in r) [] last) (le-ltb (length last) (size_in r) inside)
      ∙ ap (λ (o : Option Day). clear_in o (size_in r) [] last) cleared_reads
      ∙ ap (λ (w : Bytes). shrunk w (size_in r) last) same in (
        ap (λ (o : Outcome). o.number) e,
        ap (λ (o : Outcome). o.size) e ∙ sym size_is,
        ap (λ (o : Outcome). o.output) e
            ∙ (λ i. file ++ replicate (none_left i) 0 ++ past i)
            ∙ ap (λ (w : Bytes). w ++ rest) (append-nil file)
            ∙ sym whole,
      )

-- ---- Appending

module _ (B : Bytes) (low : Below 256 B) (size : ℕ) (day : Day) (reads : read_day (take size B) ≡ some day) (number : ℕ) (header : Bytes) (stretch : ℕ) (sealed : Bytes)
    (r : Result ℕ Refusal) (last : Bytes) (call : Appended B size number header stretch sealed r last) (zero : number_in r ≡ 0) where
  abbrev after : Day
  after = grown number header stretch sealed day

  abbrev new : Record
  new = record { header = number; stretch = stretch; sealed = sealed }

  -- answer 0 says that the file reads, that the record is within the layout, and that the grown file is short enough
  record Grew : Type 0 where
    fits : append_fits number header stretch (length day.headers) ≡ true
    short : length (write_day after) ≤ longest_file
    is : outcome r last ≡ done (length (write_day after)) (write_day after) B

  grew : Grew
  unfolding appending append_in
  grew = by_length (ltb (length B) size) call
    where
      not_0 : (n : ℕ) → (0 < n) → outcome r last ≡ refused n B → Grew
      not_0 n p e = absurd (omega (arith, p, ap (λ (o : Outcome). o.number) e, zero))

      by_tests : (a b c : Bool) → append_fits number header stretch (length day.headers) ≡ a → ltb longest_file (length (write_day after)) ≡ b
          → outcome r last ≡ (if not a then refused 9 B else if b then refused 6 B else if c then refused 6 B else done (length (write_day after)) (write_day after) B) → Grew
      by_tests true false false p q e = record { fits = p; short = ltb-false longest_file (length (write_day after)) q; is = e }
      by_tests true false true p q e = not_0 6 (omega arith) e
      by_tests true true c p q e = not_0 6 (omega arith) e
      by_tests false b c p q e = not_0 9 (omega arith) e

      by_length : (b : Bool) → outcome r last ≡ (if b then refused 9 B else append_in (read_day (take size B)) number header stretch sealed B) → Grew
      by_length true e = not_0 9 (omega arith) e
      by_length false e =
          by_tests (append_fits number header stretch (length day.headers)) (ltb longest_file (length (write_day after))) (ltb (length B) (length (write_day after))) refl refl
          (e ∙ ap (λ (o : Option Day). append_in o number header stretch sealed B) reads)

  layout : Layout day
  layout = (read_write (take size B) day (below_take 256 size B low) reads).within

  pub grown_first : written r last ≡ write_day after
  grown_first = (λ i. take (grew.is i).size (grew.is i).output) ∙ take-append_seam (write_day after) (drop (length (write_day after)) B)

  -- it reads as the grown day
  pub grown_reads : read_day (written r last) ≡ some after
  grown_reads = ap read_day grown_first ∙ write_read after (grown_within number header stretch sealed day grew.fits layout grew.short)

  -- the records that were there open as they did
  pub open_others : (key : Bytes) (k : ℕ) (own : Record) (out : Bytes) → get_elem? day.records k ≡ some own → opening_record key (written r last) k out ≡ opening_record key (take size B) k out
  open_others key k own out e =
      let fits = record_fits_lem (length day.headers) own (elem_fits (length day.headers) day.records k own layout.records_fit e) in
      by_reading key (written r last) k out after own grown_reads (grown_before number header stretch sealed day k (elem_drop day.records k own e).0 ∙ e)
      ∙ opens_same key out day after own own (same_headers number header stretch sealed day own fits.1) refl refl
      ∙ sym (by_reading key (take size B) k out day own reads e)

  -- what was appended, where a call of sealing made it under the header that it names, opens to its text
  pub open_after_append : (key M room : Bytes) (q : AnswerAt) (left : Bytes) → Below 256 key → Below 256 (header_of after new) → Below 256 M
      → Sealed key (header_of after new) stretch M room q left → q.number ≡ 0 → take q.length left ≡ sealed
      → (buffer : Bytes) (s : Result ℕ Refusal) (end : Bytes) → length M + stretch ≤ length buffer → OpenedRecord key (written r last) (length day.records) buffer s end
      → (number_in s ≡ 0) × (size_in s ≡ length M) × (end ≡ M ++ replicate stretch 0 ++ drop (length M + stretch) buffer)
  unfolding open_record
  open_after_append key M room q left key_low header_low text seal done-0 made buffer s end enough opened =
      let h = header_of after new in
      let passed = (sealed_passes key h stretch M room q left seal done-0).common in
      let fixed : Fixed key h passed.strings stretch =
      record { key_bytes = record { len = passed.key_long; low = key_low }; header_bytes = header_low; reads = passed.reads; short = passed.short } in
      let by_day : outcome s end ≡ open_record key after (some new) buffer =
      opened ∙ by_reading key (written r last) (length day.records) buffer after new grown_reads (grown_last number header stretch sealed day) in
      let o : OutcomeAt = opening key h stretch sealed buffer in
      open_after_seal key h passed.strings stretch fixed M room text q left seal done-0 buffer (record { number = number_in s; length = size_in s; place = o.place }) end enough
      ((λ i. record { number = (by_day i).number; place = o.place; size = (by_day i).size; output = (by_day i).output }) ∙ ap (λ (C : Bytes). opening key h stretch C buffer) (sym made))

-- ---- When an append fits

-- where the file reads and the layout allows the record, the append answers 0 exactly where the grown file fits the buffer and the limit. Its
-- length is `DayGrown.grown_long`: eleven bytes, the sealed bytes and a new header more
module _ (B : Bytes) (size : ℕ) (day : Day) (inside : size ≤ length B) (reads : read_day (take size B) ≡ some day) (number : ℕ) (header : Bytes) (stretch : ℕ)
    (sealed : Bytes) (fits : append_fits number header stretch (length day.headers) ≡ true) (r : Result ℕ Refusal) (last : Bytes) (call : Appended B size number header stretch sealed r last) where
  abbrev grown_file_lem : Bytes
  grown_file_lem = write_day (grown number header stretch sealed day)

  settled : outcome r last ≡ (if ltb longest_file (length grown_file_lem) then refused 6 B else if ltb (length B) (length grown_file_lem) then refused 6 B else done (length grown_file_lem) grown_file_lem B)
  unfolding appending append_in
  settled =
      call
      ∙ ap (λ (b : Bool). if b then refused 9 B else append_in (read_day (take size B)) number header stretch sealed B) (le-ltb (length B) size inside)
      ∙ ap (λ (o : Option Day). append_in o number header stretch sealed B) reads
      ∙ ap (λ (b : Bool). if not b then refused 9 B else if ltb longest_file (length grown_file_lem) then refused 6 B else if ltb (length B) (length grown_file_lem) then refused 6 B else done (length grown_file_lem) grown_file_lem B) fits

  pub fits_in_room : length grown_file_lem ≤ longest_file → length grown_file_lem ≤ length B → number_in r ≡ 0
  fits_in_room p q =
      ap (λ (o : Outcome). o.number)
      (settled
      ∙ ap (λ (b : Bool). if b then refused 6 B else if ltb (length B) (length grown_file_lem) then refused 6 B else done (length grown_file_lem) grown_file_lem B) (le-ltb longest_file (length grown_file_lem) p)
      ∙ ap (λ (b : Bool). if b then refused 6 B else done (length grown_file_lem) grown_file_lem B) (le-ltb (length B) (length grown_file_lem) q))

  pub room_where_fits : number_in r ≡ 0 → (length grown_file_lem ≤ longest_file) × (length grown_file_lem ≤ length B)
  room_where_fits z = go (ltb longest_file (length grown_file_lem)) refl (ltb (length B) (length grown_file_lem)) refl settled
    where
      go : (a : Bool) → ltb longest_file (length grown_file_lem) ≡ a → (b : Bool) → ltb (length B) (length grown_file_lem) ≡ b
          → outcome r last ≡ (if a then refused 6 B else if b then refused 6 B else done (length grown_file_lem) grown_file_lem B) → (length grown_file_lem ≤ longest_file) × (length grown_file_lem ≤ length B)
      go true p b q e = absurd (omega (arith, ap (λ (o : Outcome). o.number) e, z))
      go false p true q e = absurd (omega (arith, ap (λ (o : Outcome). o.number) e, z))
      go false p false q e = (ltb-false longest_file (length grown_file_lem) p, ltb-false (length B) (length grown_file_lem) q)
