-- THE LENGTHS. After answer 0 the length of what stands first in the output follows from the lengths of what was lent, and it lies within
-- the output. A program that has only the number works it out by these.
use mathlib.Core.Bool.{Bool, true, false, ◌||◌}
use mathlib.Core.List.{List, [], ◌∷◌, ◌++◌}
use mathlib.Core.Path.{◌≡◌, refl, ap, sym, ◌∙◌}
use Prim.Native.Nat.{ℕ, ◌+◌, ◌-◌, ◌*◌, ◌≤◌}
use native.Mathlib.Omega.{arith}
use borrow.Author.Tests.{eqb-true, eqb-false, ltb-false}
use lib.Dec.{eqb, ltb}
use lib.ListN.{length, length-append}
use Rattle.std.specs.Prelude.{if◌then◌else◌}
use Rattle.paper.specs.Strings.{Bytes, Below, digits}
use Rattle.paper.specs.Document01.{Outcome, OutcomeAt, refused, done, longest_string, write_strings, write_header, log_items, log_header, building_log_header}
use Rattle.paper.specs.DayFile.{Record, Day, first_place, header_places, record_places, day_places}
use Rattle.laws.proofs.BitStrings.{length_digits}
use Rattle.laws.proofs.Demand3 as laws
use Rattle.laws.proofs.Demand3.{Fixed}
use Rattle.answer.specs.Outcomes.{AnswerAt}
use Rattle.settle.specs.Settled.{Settled, settled_sealing, settled_opening}
use Rattle.settle.proofs.Settles.{sealing_fits, sealing_refused, sealing_done, opening_fits, opening_refused}
use Rattle.audit.proofs.Demands.{Sealed, Opened, Within, seals_defined, opens_iff_sealed, opening_returns}

-- sealing: the text's length and the stretch
pub sealed_length : (key header : Bytes) (t : ℕ) (text out : Bytes) (r : AnswerAt) (last : Bytes) → Sealed key header t text out r last → r.number ≡ 0
    → (r.length ≡ length text + t) × (r.length ≤ length out)
sealed_length key header t text out r last call z =
    go (settled_sealing key header t (length text) (length out)) refl (eqb (settled_sealing key header t (length text) (length out)).number 0) refl
  where
    go : (n : Settled) → n ≡ settled_sealing key header t (length text) (length out) → (b : Bool) → eqb n.number 0 ≡ b → (r.length ≡ length text + t) × (r.length ≤ length out)
    go n s true e =
        let fits = sealing_fits key header t (length text) (length out) n s (eqb-true n.number 0 e) in
        let size = ap (λ (o : OutcomeAt). o.size) (call ∙ sealing_done key header t text out n fits.common.strings s (eqb-true n.number 0 e) fits.common.reads) in
        (size, omega (arith, size, fits.has_room))
    go n s false e =
        absurd (eqb-false n.number 0 e (sym (ap (λ (o : OutcomeAt). o.number) (call ∙ sealing_refused key header t text out n s (eqb-false n.number 0 e))) ∙ z))

-- opening: the sealed string's length less the stretch, which is not above it
pub opened_length : (key header : Bytes) (t : ℕ) (C out : Bytes) (r : AnswerAt) (last : Bytes) → Below 256 key → Below 256 header → Below 256 C
    → Opened key header t C out r last → r.number ≡ 0 → (t ≤ length C) × (r.length ≡ length C - t) × (r.length ≤ length out)
opened_length key header t C out r last k h b call z =
    go (settled_opening key header t (length C) (length out)) refl (eqb (settled_opening key header t (length C) (length out)).number 0) refl
  where
    go : (n : Settled) → n ≡ settled_opening key header t (length C) (length out) → (b : Bool) → eqb n.number 0 ≡ b → (t ≤ length C) × (r.length ≡ length C - t) × (r.length ≤ length out)
    go n s true e =
        let fits = opening_fits key header t (length C) (length out) n s (eqb-true n.number 0 e) in
        let ss : List Bytes = fits.common.strings in
        let fixed : Fixed key header ss t =
        record { key_bytes = record { len = fits.common.key_long; low = k }; header_bytes = h; reads = fits.common.reads; short = fits.common.short } in
        let within : Within key header ss t fixed C = record { bytes = b; limit = fits.within } in
        let text = (opens_iff_sealed key header ss t fixed C out within fits.has_room r last call).0 z in
        let size = (opening_returns key header ss t fixed C out within fits.has_room r last call text.0 text.1).0 in
        let long : length C ≡ length text.0 + t =
        ap length (sym (seals_defined key header ss t fixed text.0 C text.1).to) ∙ laws.sealed_length key header ss t fixed text.0 text.1.text in
        (omega (arith, long), omega (arith, long, size), omega (arith, long, size, fits.has_room))
    go n s false e =
        absurd (eqb-false n.number 0 e (sym (ap (λ (o : OutcomeAt). o.number) (call ∙ opening_refused key header t C out n s (eqb-false n.number 0 e))) ∙ z))

-- ---- The log header

strings_length : (s : Bytes) (ss : List Bytes) → length (write_strings (s ∷ ss)) ≡ 2 + length s + length (write_strings ss)
unfolding write_strings
strings_length s ss = omega (arith, length-append (digits 256 2 (length s) ++ s) (write_strings ss), length-append (digits 256 2 (length s)) s, length_digits 256 2 (length s))

no_strings : length (write_strings []) ≡ 0
unfolding write_strings
no_strings = refl

module _ (nonce host collector locale : Bytes) where
  header_length : length (log_header nonce host collector locale) ≡ 1 + (2 + length nonce) + (2 + length host) + (2 + length collector) + (2 + length locale)
  unfolding log_header log_items write_header
  header_length =
      omega
      (arith, strings_length nonce (host ∷ collector ∷ locale ∷ []), strings_length host (collector ∷ locale ∷ []), strings_length collector (locale ∷ []), strings_length locale [], no_strings)

  -- the builder: the count, and each of the four items after its two bytes of length
  pub log_header_length : (out : Bytes) → (building_log_header nonce host collector locale out).number ≡ 0
      → ((building_log_header nonce host collector locale out).size ≡ 1 + (2 + length nonce) + (2 + length host) + (2 + length collector) + (2 + length locale))
      × ((building_log_header nonce host collector locale out).size ≤ length out)
  unfolding building_log_header
  log_header_length out =
      go (ltb longest_string (length nonce) || ltb longest_string (length host) || ltb longest_string (length collector) || ltb longest_string (length locale))
      (ltb (length out) (length header)) refl
    where
      header : Bytes
      header = log_header nonce host collector locale

      answer : Bool → Bool → Outcome
      answer a b = if a then refused 8 out else if b then refused 6 out else done (length header) header out

      go : (a b : Bool) → ltb (length out) (length header) ≡ b → (answer a b).number ≡ 0
          → ((answer a b).size ≡ 1 + (2 + length nonce) + (2 + length host) + (2 + length collector) + (2 + length locale)) × ((answer a b).size ≤ length out)
      go true b e z = absurd (omega (arith, z))
      go false true e z = absurd (omega (arith, z))
      go false false e z = (header_length, omega (arith, ltb-false (length out) (length header) e))

-- ---- The list of a day file's places (request E1); the length of a written day file is `file_length` of DayFiles

header_places_length : (at : ℕ) (hs : List Bytes) → length (header_places at hs) ≡ 2 * length hs
unfolding header_places
header_places_length at [] = refl
header_places_length at (h ∷ hs) = omega (arith, header_places_length (at + 2 + length h) hs)

record_places_length : (at : ℕ) (rs : List Record) → length (record_places at rs) ≡ 4 * length rs
unfolding record_places
record_places_length at [] = refl
record_places_length at (r ∷ rs) = omega (arith, record_places_length (at + 7 + length r.sealed) rs)

-- two numbers for each header, and four for each record
pub places_length : (day : Day) → length (day_places day) ≡ 2 * length day.headers + 4 * length day.records
unfolding day_places
places_length day =
    omega
    (arith, length-append (header_places 4 day.headers) (record_places (first_place day.headers) day.records), header_places_length 4 day.headers, record_places_length (first_place day.headers) day.records)
