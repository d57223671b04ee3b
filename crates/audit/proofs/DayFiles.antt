-- THE DAY FILE (request E1). What a call of the writer wrote reads as the day that it was handed, and each of its records that a call of sealing
-- made opens to its text.
use mathlib.Core.Bool.{Bool, true, false}
use mathlib.Core.List.{List, ◌++◌}
use mathlib.Core.Option.{Option, some}
use mathlib.Core.Path.{◌≡◌, refl, ap, sym, subst, ◌∙◌}
use Prim.Native.Nat.{ℕ, ◌+◌, ◌*◌, ◌≤◌}
use native.Mathlib.Omega.{arith}
use borrow.Author.Tests.{eqb-true, eqb-false, le-ltb}
use lib.Dec.{eqb}
use lib.ListN.{length, take, drop, replicate, get_elem?}
use lib.Seq.{take-append_seam}
use Rattle.std.specs.Prelude.{Result, Ok, Err, if◌then◌else◌}
use Rattle.paper.specs.Strings.{Bytes, Below}
use Rattle.paper.specs.Document01.{Outcome, OutcomeAt, refused, done, opening}
use Rattle.paper.specs.DayFile.{Record, Day, header_of, write_day, longest_file, read_day, open_record, open_in, opening_record, headers_of, day_from, write_as, writing}
use Rattle.laws.proofs.Demand3.{Fixed}
use Rattle.laws.proofs.DayWritten.{RecordsFit, Layout}
use Rattle.laws.proofs.DayReading.{write_read}
use Rattle.laws.proofs.DayLists.{headers_listed_lem, records_listed_lem}
use Rattle.answer.specs.Outcomes.{number_in, size_in, outcome, AnswerAt}
use Rattle.answer.specs.declared.Refusal.{Refusal}
use Rattle.answer.proofs.Refusals.{refuses}
use Rattle.settle.specs.Settled.{Settled, settled_sealing}
use Rattle.settle.proofs.Settles.{Fits, sealing_fits, sealing_refused}
use Rattle.day_write.specs.Settled.{settled_for}
use Rattle.day_write.proofs.Writes.{Accepted, accepted, write_refused}
use Rattle.day_write.proofs.write.Reads as write-reads
use Rattle.day_open.proofs.«open».Reads as open-reads
use Rattle.audit.proofs.Demands.{Sealed, open_after_seal}

-- ---- The two contracts

-- a call that was lent these lists answered r and left these bytes in the output
abbrev pub Wrote : (ls : List ℕ) (J : Bytes) (hs ts ns : List ℕ) (X out : Bytes) (r : Result ℕ Refusal) (last : Bytes) → Type 0
Wrote ls J hs ts ns X out r last = outcome r last ≡ writing ls J hs ts ns X out

abbrev pub OpenedRecord : (key file : Bytes) (k : ℕ) (out : Bytes) (r : Result ℕ Refusal) (last : Bytes) → Type 0
OpenedRecord key file k out r last = outcome r last ≡ opening_record key file k out

-- they are the contracts that the checker made from the source
pub write_promises : (κs : _) (a : _) (r : _) (e : _) → write-reads.Learnt κs a r e
    → Wrote a.0.now a.1.0.now a.1.1.0.now a.1.1.1.0.now a.1.1.1.1.0.now a.1.1.1.1.1.0.now a.1.1.1.1.1.1.0.now r e.1.1.1.1.1.1.0.now
write_promises κs a r e p = p

pub open_record_promises : (κs : _) (a : _) (r : _) (e : _) → open-reads.Learnt κs a r e
    → OpenedRecord a.0.now a.1.0.now a.1.1.0 a.1.1.1.0.now r e.1.1.1.0.now
open_record_promises κs a r e p = p

-- what stands first in the output of a call that answered r
abbrev pub written : Result ℕ Refusal → Bytes → Bytes
written r last = take (size_in r) last

-- sealing that answers 0 passed its tests
pub sealed_passes : (key header : Bytes) (t : ℕ) (M out : Bytes) (r : AnswerAt) (last : Bytes) → Sealed key header t M out r last → r.number ≡ 0 → Fits key header t (length M) (length out)
sealed_passes key header t M out r last call z = go (settled_sealing key header t (length M) (length out)) refl (eqb (settled_sealing key header t (length M) (length out)).number 0) refl
  where
    go : (n : Settled) → n ≡ settled_sealing key header t (length M) (length out) → (b : Bool) → eqb n.number 0 ≡ b → Fits key header t (length M) (length out)
    go n s true e = sealing_fits key header t (length M) (length out) n s (eqb-true n.number 0 e)
    go n s false e =
        absurd (eqb-false n.number 0 e (sym (ap (λ (o : OutcomeAt). o.number) (call ∙ sealing_refused key header t M out n s (eqb-false n.number 0 e))) ∙ z))

module _ (ls : List ℕ) (J : Bytes) (hs ts ns : List ℕ) (X out : Bytes) (r : Result ℕ Refusal) (last : Bytes) (call : Wrote ls J hs ts ns X out r last) (zero : number_in r ≡ 0) where
  -- answer 0 says that the lists are within the layout, and that their file is short enough and has room
  fits : (n : ℕ) × Accepted ls J hs ts ns X n (length out)
  fits = go (settled_for (day_from (headers_of ls J) hs ts ns X) (length out)) refl
    where
      go : (a : Result ℕ Refusal) → a ≡ settled_for (day_from (headers_of ls J) hs ts ns X) (length out) → (n : ℕ) × Accepted ls J hs ts ns X n (length out)
      go (Ok n) s = (n, accepted ls J hs ts ns X n (length out) s)
      go (Err q) s = absurd (refuses q (ap (λ (o : Outcome). o.number) (write_refused ls J hs ts ns X q out s ∙ sym call) ∙ zero))

  -- the day that the lists are
  pub handed_day : Day
  handed_day = fits.1.all.day

  pub handed_lists : day_from (headers_of ls J) hs ts ns X ≡ some handed_day
  unfolding handed_day
  handed_lists = fits.1.all.is

  day_fits : Layout handed_day
  unfolding handed_day
  day_fits =
      let h = fits.1.all in
      record {
        headers_fit = (headers_listed_lem ls J h.day.headers h.headers_are).each;
        records_fit = subst (λ (n : ℕ). RecordsFit n h.day.records) (sym h.headers_many) (records_listed_lem (length ls) hs ts ns X h.day.records h.records_are).each;
        short = omega (arith, h.size, fits.1.short);
      }

  wrote_file : outcome r last ≡ done (length (write_day handed_day)) (write_day handed_day) out
  unfolding handed_day writing write_as
  wrote_file =
      let h = fits.1.all in
      let file = write_day h.day in
      call
      ∙ ap (λ (o : Option Day). write_as o out) h.is
      ∙ (λ i. if le-ltb longest_file (length file) (omega (arith, h.size, fits.1.short)) i then refused 4 out else if le-ltb (length out) (length file) (omega (arith, h.size, fits.1.has_room)) i then refused 6 out else done (length file) file out)

  -- the file stands first in the output
  pub file_first : written r last ≡ write_day handed_day
  file_first = (λ i. take (wrote_file i).size (wrote_file i).output) ∙ take-append_seam (write_day handed_day) (drop (length (write_day handed_day)) out)

  -- and its length follows from the lists
  pub file_length : (size_in r ≡ 12 + 2 * length ls + length J + 11 * length ns + length X) × (size_in r ≤ length out)
  unfolding handed_day
  file_length =
      let size : size_in r ≡ length (write_day handed_day) = ap (λ (o : Outcome). o.size) wrote_file in
      (size ∙ fits.1.all.size, omega (arith, size, fits.1.all.size, fits.1.has_room))

  -- what the writer wrote reads as the day
  pub written_day : read_day (written r last) ≡ some handed_day
  written_day = ap read_day file_first ∙ write_read handed_day day_fits

  -- a record whose sealed bytes a call of sealing wrote, under the record's own header and stretch, opens to the text
  pub open_after_write : (k : ℕ) (own : Record) → get_elem? handed_day.records k ≡ some own
      → (key M room : Bytes) (q : AnswerAt) (left : Bytes) → Below 256 key → Below 256 (header_of handed_day own) → Below 256 M
      → Sealed key (header_of handed_day own) own.stretch M room q left → q.number ≡ 0 → take q.length left ≡ own.sealed
      → (buffer : Bytes) (s : Result ℕ Refusal) (end : Bytes) → length M + own.stretch ≤ length buffer → OpenedRecord key (written r last) k buffer s end
      → (number_in s ≡ 0) × (size_in s ≡ length M) × (end ≡ M ++ replicate own.stretch 0 ++ drop (length M + own.stretch) buffer)
  unfolding opening_record open_in open_record
  open_after_write k own elem key M room q left key_low header_low text seal done-0 is buffer s end enough opened =
      let header = header_of handed_day own in
      let t = own.stretch in
      let passed = (sealed_passes key header t M room q left seal done-0).common in
      let fixed : Fixed key header passed.strings t =
      record { key_bytes = record { len = passed.key_long; low = key_low }; header_bytes = header_low; reads = passed.reads; short = passed.short } in
      let by_day : outcome s end ≡ open_record key handed_day (some own) buffer =
      opened ∙ ap (λ (o : Option Day). open_in key o k buffer) written_day ∙ ap (λ (o : Option Record). open_record key handed_day o buffer) elem in
      let o : OutcomeAt = opening key header t own.sealed buffer in
      open_after_seal key header passed.strings t fixed M room text q left seal done-0 buffer (record { number = number_in s; length = size_in s; place = o.place }) end enough
      ((λ i. record { number = (by_day i).number; place = o.place; size = (by_day i).size; output = (by_day i).output }) ∙ ap (λ (C : Bytes). opening key header t C buffer) (sym is))
