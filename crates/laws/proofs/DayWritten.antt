-- What is written of a day's headers and records, and how long it is. A day within the layout.
use mathlib.Core.Bool.{true}
use mathlib.Core.List.{List, [], ◌∷◌, ◌++◌, append_assoc}
use mathlib.Core.Path.{◌≡◌, refl, ap, sym, ◌∙◌}
use Prim.Native.Nat.{ℕ, suc, ◌+◌, ◌*◌, ◌≤◌}
use native.Mathlib.Omega.{arith}
use lib.ListN.{length, length-append}
use Rattle.paper.specs.Strings.{Bytes, digits}
use Rattle.paper.specs.Document01.{write_strings}
use Rattle.paper.specs.DayFile.{Record, Day, write_record, write_records, write_headers, first_place, places_from, write_places, write_index, write_day, longest_file, header_fits, record_fits}
use Rattle.laws.proofs.BitStrings.{length_digits}

-- ---- A day within the layout

abbrev pub HeadersFit : List Bytes → Type 0
HeadersFit [] = Unit {0}
HeadersFit (h ∷ hs) = (header_fits h ≡ true) × HeadersFit hs

abbrev pub RecordsFit : ℕ → List Record → Type 0
RecordsFit headers [] = Unit {0}
RecordsFit headers (r ∷ rs) = (record_fits headers r ≡ true) × RecordsFit headers rs

pub record Layout (day : Day) : Type 0 where
  pub headers_fit : HeadersFit day.headers
  pub records_fit : RecordsFit (length day.headers) day.records
  pub short : length (write_day day) ≤ longest_file

-- ---- Parts after each other

-- a header in front of what follows
pub strings_then : (h : Bytes) (hs : List Bytes) (X : Bytes) → write_strings (h ∷ hs) ++ X ≡ digits 256 2 (length h) ++ (h ++ (write_strings hs ++ X))
unfolding write_strings
strings_then h hs X =
    append_assoc (digits 256 2 (length h) ++ h) (write_strings hs) X
    ∙ append_assoc (digits 256 2 (length h)) h (write_strings hs ++ X)

-- a record in front of what follows
pub records_then : (r : Record) (rs : List Record) (X : Bytes) → write_records (r ∷ rs) ++ X ≡ write_record r ++ (write_records rs ++ X)
unfolding write_records
records_then r rs X = append_assoc (write_record r) (write_records rs) X

pub records_append : (rs ss : List Record) → write_records (rs ++ ss) ≡ write_records rs ++ write_records ss
unfolding write_records
records_append [] ss = refl
records_append (r ∷ rs) ss =
    ap (λ (X : Bytes). write_record r ++ X) (records_append rs ss)
    ∙ sym (append_assoc (write_record r) (write_records rs) (write_records ss))

-- the sections after each other, from the front
pub day_then : (day : Day)
    → write_day day ≡ digits 256 4 (length day.headers) ++ (write_strings day.headers ++ (digits 256 4 (length day.records) ++ (write_records day.records ++ write_index day)))
unfolding write_day write_headers
day_then day =
    let c = digits 256 4 (length day.headers) in
    let h = write_strings day.headers in
    let d = digits 256 4 (length day.records) in
    let r = write_records day.records in
    let x = write_index day in
    append_assoc (c ++ h ++ d) r x ∙ append_assoc (c ++ h) d (r ++ x) ∙ append_assoc c h (d ++ (r ++ x))

-- ---- Lengths

pub strings_long : (h : Bytes) (hs : List Bytes) → length (write_strings (h ∷ hs)) ≡ 2 + length h + length (write_strings hs)
unfolding write_strings
strings_long h hs =
    omega (arith, length-append (digits 256 2 (length h) ++ h) (write_strings hs), length-append (digits 256 2 (length h)) h, length_digits 256 2 (length h))

pub record_long : (r : Record) → length (write_record r) ≡ 7 + length r.sealed
unfolding write_record
record_long r =
    omega
    (arith, length-append (digits 256 2 r.header ++ r.stretch ∷ digits 256 4 (length r.sealed)) r.sealed, length-append (digits 256 2 r.header) (r.stretch ∷ digits 256 4 (length r.sealed)), length_digits 256 2 r.header, length_digits 256 4 (length r.sealed))

pub records_long : (r : Record) (rs : List Record) → length (write_records (r ∷ rs)) ≡ 7 + length r.sealed + length (write_records rs)
unfolding write_records
records_long r rs = omega (arith, length-append (write_record r) (write_records rs), record_long r)

-- there are not more headers than bytes of them, nor more records
pub headers_few : (hs : List Bytes) → 2 * length hs ≤ length (write_strings hs)
unfolding write_strings
headers_few [] = omega arith
headers_few (h ∷ hs) = omega (arith, strings_long h hs, headers_few hs)

pub records_few : (rs : List Record) → 7 * length rs ≤ length (write_records rs)
unfolding write_records
records_few [] = omega arith
records_few (r ∷ rs) = omega (arith, records_long r rs, records_few rs)

pub first_place_lem : (hs : List Bytes) → first_place hs ≡ 8 + length (write_strings hs)
unfolding first_place write_headers
first_place_lem hs = omega (arith, length-append (digits 256 4 (length hs)) (write_strings hs), length_digits 256 4 (length hs))

pub places_many : (at : ℕ) (rs : List Record) → length (places_from at rs) ≡ length rs
unfolding places_from
places_many at [] = refl
places_many at (r ∷ rs) = ap suc (places_many (at + length (write_record r)) rs)

pub places_long : (places : List ℕ) → length (write_places places) ≡ 4 * length places
unfolding write_places
places_long [] = refl
places_long (at ∷ places) = omega (arith, length-append (digits 256 4 at) (write_places places), length_digits 256 4 at, places_long places)

pub index_long : (day : Day) → length (write_index day) ≡ 4 + 4 * length day.records
unfolding write_index
index_long day =
    let n = length day.records in
    let places = places_from (first_place day.headers) day.records in
    omega (arith, length-append (digits 256 4 n) (write_places places), length_digits 256 4 n, places_long places, places_many (first_place day.headers) day.records)

pub day_long : (day : Day) → length (write_day day) ≡ first_place day.headers + length (write_records day.records) + (4 + 4 * length day.records)
unfolding write_day first_place
day_long day =
    let h = write_headers day.headers in
    let d = digits 256 4 (length day.records) in
    let r = write_records day.records in
    omega
    (arith, length-append (h ++ d ++ r) (write_index day), length-append (h ++ d) r, length-append h d, length_digits 256 4 (length day.records), index_long day)
