-- In a file that reads: a walk over its headers comes to each at its place, and the index leads to each record.
use mathlib.Core.List.{List, [], ◌∷◌, ◌++◌}
use mathlib.Core.Option.{Option, none, some}
use mathlib.Core.Path.{◌≡◌, refl, ap, sym, subst, ◌∙◌}
use Prim.Native.Nat.{ℕ, zero, suc, ◌+◌, ◌-◌, ◌*◌, ◌≤◌, ◌<◌}
use native.Mathlib.Numerals.{add-one}
use native.Mathlib.Omega.{arith}
use lib.ListN.{length, get_or, take, drop, get_elem?, length-append, length-drop}
use Rattle.std.proofs.Common.{Fits, w8}
use lib.Seq.{take-suc, take_at, drop-drop, get_or-drop, take-append_seam}
use Rattle.paper.specs.Strings.{Bytes, Below, digits}
use Rattle.paper.specs.Document01.{write_strings}
use Rattle.paper.specs.DayFile.{Record, Day, write_record, place_of, header_place, header_of, write_day, value, read_day}
use Rattle.laws.proofs.BitStrings.{length_digits}
use Rattle.laws.proofs.Digits.{below_of}
use Rattle.laws.proofs.DayNumbers.{value_two, value_four}
use Rattle.laws.proofs.Headers.{write_append}
use Rattle.laws.proofs.DayWritten.{strings_long, record_long, day_long}
use Rattle.laws.proofs.DayReading.{read_write, record_fits_lem}
use Rattle.laws.proofs.DayPlaces.{elem_fits, record_there, header_there, entry_true}
use Rattle.day_steps.specs.declared.Entry.{Entry}
use Rattle.day_find.specs.declared.Found.{Found}
use Rattle.day_steps.specs.Walks.{entry_at}
use Rattle.day_find.specs.Finds.{headers_in, records_in, entry_by, entry_in, length_place, found_at, found_in, FoundWithin}

-- where there is a header or a record, the file reads
with_header : (o : Option Day) (n : ℕ) → n < headers_in o → (day : Day) × (o ≡ some day)
with_header none n p = absurd (omega arith)
with_header (some day) n p = (day, refl)

pub with_record : (o : Option Day) (n : ℕ) → n < records_in o → (day : Day) × (o ≡ some day)
with_record none n p = absurd (omega arith)
with_record (some day) n p = (day, refl)

elem_some : {A : Type 0} (l : List A) (k : ℕ) → k < length l → (x : A) × (get_elem? l k ≡ some x)
elem_some [] k p = absurd (omega arith)
elem_some (x ∷ l) zero p = (x, refl)
elem_some (x ∷ l) (suc k) p = elem_some l k (omega arith)

module _ (f : Bytes) (low : Below 256 f) (day : Day) (reads : read_day f ≡ some day) where
  is : write_day day ≡ f
  is = (read_write f day low reads).bytes

  short : length f ≤ 65536
  short = omega (arith, ap length is, (read_write f day low reads).within.short)

  -- ---- A header

  module _ (n : ℕ) (p : n < length day.headers) where
    abbrev at : ℕ
    at = 4 + length (write_strings (take n day.headers))

    abbrev h : Bytes
    h = get_or day.headers n []

    -- its length bytes, itself, and what follows
    header_bytes : (X : Bytes) × (drop at f ≡ digits 256 2 (length h) ++ (h ++ X))
    header_bytes = (_, ap (drop at) (sym is) ∙ header_there day n p)

    pub header_room : at + 2 + length h ≤ length f
    header_room =
        omega
        (arith, ap length header_bytes.1, length-drop at f, length-append (digits 256 2 (length h)) (h ++ header_bytes.0), length-append h header_bytes.0, length_digits 256 2 (length h))

    pub header_size : value (take 2 (drop at f)) ≡ length h
    header_size =
        ap (λ (X : Bytes). value (take 2 X)) header_bytes.1
        ∙ ap value (take_at (digits 256 2 (length h)) (h ++ header_bytes.0) 2 (length_digits 256 2 (length h)))
        ∙ value_two (length h) (omega (arith, header_room, short))

    next_place : at + 2 + length h ≡ 4 + length (write_strings (take (n + 1) day.headers))
    unfolding write_strings
    next_place =
        let more : write_strings (take (n + 1) day.headers) ≡ write_strings (take n day.headers) ++ write_strings (h ∷ []) =
        ap (λ (k : ℕ). write_strings (take k day.headers)) (add-one n)
        ∙ ap write_strings (take-suc day.headers n [] p)
        ∙ write_append (take n day.headers) (h ∷ []) in
        omega (arith, ap length more, length-append (write_strings (take n day.headers)) (write_strings (h ∷ [])), strings_long h [])

-- the bytes of a slice are below 256
pub read_below : (f : Bytes) → ((i : ℕ) → Fits w8 (get_or f i 0)) → Below 256 f
read_below f low = below_of 256 f (λ i p. omega (arith, low i))

-- a step over a header: it lies within the file, and the next one's length bytes follow
pub passed : (f : Bytes) → ((i : ℕ) → Fits w8 (get_or f i 0)) → (n at : ℕ) → n < headers_in (read_day f) → at ≡ length_place (read_day f) n
    → (at + 2 + value (take 2 (drop at f)) ≤ length f) × (at + 2 + value (take 2 (drop at f)) ≡ length_place (read_day f) (n + 1))
unfolding length_place
passed f fits n at p e =
    let low = read_below f fits in
    let found = with_header (read_day f) n p in
    let day = found.0 in
    let reads = found.1 in
    let inside : n < length day.headers = subst (λ (o : Option Day). n < headers_in o) reads p in
    let here : at ≡ 4 + length (write_strings (take n day.headers)) = e ∙ ap (λ (o : Option Day). length_place o n) reads in
    let size : value (take 2 (drop at f)) ≡ length (get_or day.headers n []) = ap (λ (k : ℕ). value (take 2 (drop k f))) here ∙ header_size f low day reads n inside in (
      omega (arith, here, size, header_room f low day reads n inside),
      omega (arith, here, size, next_place f low day reads n inside) ∙ ap (λ (o : Option Day). length_place o (n + 1)) (sym reads),
    )

pub first_header : (o : Option Day) → 4 ≡ length_place o 0
unfolding length_place write_strings
first_header none = refl
first_header (some day) = refl

-- ---- A record

-- record k of a file with so many records: the day that the file reads as, the record, and what stands at its place
pub record Stands (f : Bytes) (records k : ℕ) : Type 0 where
  pub day : Day
  pub reads : read_day f ≡ some day
  pub own : Record
  pub elem : get_elem? day.records k ≡ some own
  pub short : length f ≤ 65536
  pub index : 4 * records ≤ length f
  pub place : value (take 4 (drop (length f - 4 * records + 4 * k) f)) ≡ place_of day k
  pub room : place_of day k + 7 + length own.sealed ≤ length f
  pub fields : entry_at f (place_of day k) ≡ record { header = own.header; stretch = own.stretch; start = place_of day k + 7; end = place_of day k + 7 + length own.sealed }
  pub sealed_there : take (length own.sealed) (drop (place_of day k + 7) f) ≡ own.sealed
  pub named : own.header < length day.headers

module _ (f : Bytes) (low : Below 256 f) (day : Day) (reads : read_day f ≡ some day) (k : ℕ) (r : Record) (e : get_elem? day.records k ≡ some r) where
  abbrev there_record : (X : Bytes) × (drop (place_of day k) f ≡ write_record r ++ X)
  there_record = (_, ap (drop (place_of day k)) (sym (is f low day reads)) ∙ record_there day k r e)

  record_room : place_of day k + 7 + length r.sealed ≤ length f
  record_room =
      omega (arith, ap length there_record.1, length-drop (place_of day k) f, length-append (write_record r) there_record.0, record_long r)

  abbrev fits : (r.header < 65536) × (r.header < length day.headers) × (r.stretch ≤ 64)
  fits = record_fits_lem (length day.headers) r (elem_fits (length day.headers) day.records k r (read_write f day low reads).within.records_fit e)

  number_there : value (take 2 (drop (place_of day k) f)) ≡ r.header
  unfolding write_record digits
  number_there = ap (λ (X : Bytes). value (take 2 X)) there_record.1 ∙ value_two r.header fits.0

  stretch_there : get_or f (place_of day k + 2) 0 ≡ r.stretch
  unfolding write_record digits
  stretch_there = sym (get_or-drop (place_of day k) f 2 0) ∙ ap (λ (X : Bytes). get_or X 2 0) there_record.1

  size_there : value (take 4 (drop (place_of day k + 3) f)) ≡ length r.sealed
  unfolding write_record digits
  size_there =
      ap (λ (X : Bytes). value (take 4 X)) (sym (drop-drop 3 (place_of day k) f))
      ∙ ap (λ (X : Bytes). value (take 4 (drop 3 X))) there_record.1
      ∙ value_four (length r.sealed) (omega (arith, record_room, short f low day reads))

  bytes_there : take (length r.sealed) (drop (place_of day k + 7) f) ≡ r.sealed
  unfolding write_record digits
  bytes_there =
      ap (take (length r.sealed)) (sym (drop-drop 7 (place_of day k) f) ∙ ap (drop 7) there_record.1)
      ∙ take-append_seam r.sealed there_record.0

pub stands : (f : Bytes) → Below 256 f → (records k : ℕ) → records ≡ records_in (read_day f) → k < records → Stands f records k
stands f low records k e p =
    let found = with_record (read_day f) k (omega (arith, e)) in
    let day = found.0 in
    let reads = found.1 in
    let many : records ≡ length day.records = e ∙ ap records_in reads in
    let own = elem_some day.records k (omega (arith, many)) in
    let r = own.0 in
    record {
      day = day;
      reads = reads;
      own = r;
      elem = own.1;
      short = short f low day reads;
      index = omega (arith, many, day_long day, ap length (is f low day reads));
      place = ap (λ (n : ℕ). value (take 4 (drop (length f - 4 * n + 4 * k) f))) many ∙ entry_true f day low reads k r own.1;
      room = record_room f low day reads k r own.1;
      fields =
          λ i. record {
            header = number_there f low day reads k r own.1 i;
            stretch = stretch_there f low day reads k r own.1 i;
            start = place_of day k + 7;
            end = place_of day k + 7 + size_there f low day reads k r own.1 i;
          };
      sealed_there = bytes_there f low day reads k r own.1;
      named = (fits f low day reads k r own.1).1;
    }

-- the record that is asked for stands
pub there : (f : Bytes) → ((i : ℕ) → Fits w8 (get_or f i 0)) → (records k : ℕ) → (records ≡ records_in (read_day f)) × (k < records) → Stands f records k
there f low records k p = stands f (read_below f low) records k p.0 p.1

-- ---- What is found of it

abbrev found_by : Entry → ℕ → ℕ → Found
found_by e place size = record { header_start = place + 2; header_end = place + 2 + size; stretch = e.stretch; start = e.start; end = e.end }

module _ (f : Bytes) (low : Below 256 f) (records k : ℕ) (s : Stands f records k) where
  entry_in_lem : entry_in (read_day f) k ≡ record { header = s.own.header; stretch = s.own.stretch; start = place_of s.day k + 7; end = place_of s.day k + 7 + length s.own.sealed }
  unfolding entry_in entry_by
  entry_in_lem = ap (λ (o : Option Day). entry_in o k) s.reads ∙ ap (entry_by s.day k) s.elem

  -- by the index
  module _ (place : ℕ) (placed : place ≡ value (take 4 (drop (length f - 4 * records + 4 * k) f))) where
    abbrev here : place ≡ place_of s.day k
    here = placed ∙ s.place

    pub entry_room : place + 7 ≤ length f
    entry_room = omega (arith, here, s.room)

    pub entry_read : (e : Entry) → e ≡ entry_at f place → e ≡ entry_in (read_day f) k
    entry_read e read = read ∙ ap (entry_at f) here ∙ s.fields ∙ sym entry_in_lem

  module _ (e : Entry) (read : e ≡ entry_in (read_day f) k) where
    entry_is : e ≡ record { header = s.own.header; stretch = s.own.stretch; start = place_of s.day k + 7; end = place_of s.day k + 7 + length s.own.sealed }
    entry_is = read ∙ entry_in_lem

    header_is : e.header ≡ s.own.header
    header_is = ap (λ (x : Entry). x.header) entry_is

    pub header_named : e.header < headers_in (read_day f)
    header_named = subst (λ (o : Option Day). e.header < headers_in o) (sym s.reads) (omega (arith, header_is, s.named))

    module _ (at : ℕ) (walked : at ≡ length_place (read_day f) e.header) where
      at_is : at ≡ 4 + length (write_strings (take s.own.header s.day.headers))
      unfolding length_place
      at_is = walked ∙ (λ i. length_place (s.reads i) (header_is i))

      size_is : value (take 2 (drop at f)) ≡ length (header_of s.day s.own)
      size_is = ap (λ (n : ℕ). value (take 2 (drop n f))) at_is ∙ header_size f low s.day s.reads s.own.header s.named

      pub length_room : at + 2 + value (take 2 (drop at f)) ≤ length f
      length_room = omega (arith, at_is, size_is, header_room f low s.day s.reads s.own.header s.named)

      pub found_is : (size : ℕ) → size ≡ value (take 2 (drop at f)) → found_by e at size ≡ found_in (read_day f) k
      unfolding found_in found_at header_place
      found_is size q =
          let start : at + 2 ≡ header_place s.day.headers s.own.header = omega (arith, at_is) in
          (λ i. record {
            header_start = start i;
            header_end = start i + (q ∙ size_is) i;
            stretch = (entry_is i).stretch;
            start = (entry_is i).start;
            end = (entry_is i).end;
          })
          ∙ sym (ap (λ (o : Option Day). found_in o k) s.reads ∙ ap (found_at s.day k) s.elem)

      pub found_within : (size : ℕ) → size ≡ value (take 2 (drop at f)) → FoundWithin (found_by e at size) f
      found_within size q = (
        omega arith,
        omega (arith, q, length_room),
        omega (arith, ap (λ (x : Entry). x.start) entry_is, ap (λ (x : Entry). x.end) entry_is),
        omega (arith, ap (λ (x : Entry). x.end) entry_is, s.room),
      )
