-- THE HEADERS OF A FILE THAT READS. Each of them reads too, whatever the bytes are: opening one of its records answers no 3.
use mathlib.Core.Bool.{Bool, true, false, true≢false, ◌&&◌}
use mathlib.Core.List.{List, [], ◌∷◌}
use mathlib.Core.Option.{Option, none, some}
use mathlib.Core.Path.{◌≡◌, refl, ap, sym, ◌∙◌}
use Prim.Native.Nat.{ℕ, zero, suc, ◌+◌, ◌<◌}
use native.Mathlib.Omega.{arith}
use borrow.Author.Tests.{ltb-true}
use lib.Dec.{eqb, leb}
use lib.ListN.{length, get_or, take, drop, get_elem?}
use Rattle.std.specs.Prelude.{if◌then◌else◌}
use Rattle.paper.specs.Strings.{Bytes, same}
use Rattle.paper.specs.Figure6.{key_of, E}
use Rattle.paper.specs.Figure5.{decrypt}
use Rattle.paper.specs.Document01.{OutcomeAt, beside, Read, bad_entry, reading, strings_of, read_header, opened, opening}
use Rattle.paper.specs.DayFile.{Record, Day, longest_file, value, header_fits, record_fits, present, before, read_headers, read_records, read_index, read_rest, read_day, write_index, header_of, open_record, open_in, opening_record}
use Rattle.laws.proofs.Sealing.{and_true}
use Rattle.laws.proofs.DayWritten.{HeadersFit, RecordsFit}
use Rattle.laws.proofs.DayPlaces.{elem_fits}
use Rattle.settle.proofs.Settles.{opening_in}

-- ---- What has been read is within the layout

abbrev IfHeaders : Option (List Bytes × Bytes) → Type 0
IfHeaders none = Unit {0}
IfHeaders (some (hs, rest)) = HeadersFit hs

headers_fit : (n : ℕ) (X : Bytes) → IfHeaders (read_headers n X)
unfolding read_headers
headers_fit zero X = tt
headers_fit (suc n) X = go (leb (2 + size) (length X)) (header_fits header) refl (read_headers n (drop (2 + size) X)) (headers_fit n (drop (2 + size) X))
  where
    size : ℕ
    size = value (take 2 X)

    header : Bytes
    header = take size (drop 2 X)

    go : (a b : Bool) → header_fits header ≡ b → (o : Option (List Bytes × Bytes)) → IfHeaders o → IfHeaders (if a && b then before header o else none)
    go true true f none r = tt
    go true true f (some (hs, rest)) r = (f, r)
    go true false f o r = tt
    go false b f o r = tt

abbrev IfRecords : ℕ → Option (List Record × Bytes) → Type 0
IfRecords headers none = Unit {0}
IfRecords headers (some (rs, rest)) = RecordsFit headers rs

records_fit : (headers n : ℕ) (X : Bytes) → IfRecords headers (read_records headers n X)
unfolding read_records
records_fit headers zero X = tt
records_fit headers (suc n) X = go (leb (7 + size) (length X)) (record_fits headers r) refl (read_records headers n (drop (7 + size) X)) (records_fit headers n (drop (7 + size) X))
  where
    size : ℕ
    size = value (take 4 (drop 3 X))

    r : Record
    r = record { header = value (take 2 X); stretch = get_or X 2 0; sealed = take size (drop 7 X) }

    go : (a b : Bool) → record_fits headers r ≡ b → (o : Option (List Record × Bytes)) → IfRecords headers o → IfRecords headers (if a && b then before r o else none)
    go true true f none w = tt
    go true true f (some (rs, rest)) w = (f, w)
    go true false f o w = tt
    go false b f o w = tt

abbrev IfDay : Option Day → Type 0
IfDay none = Unit {0}
IfDay (some day) = HeadersFit day.headers × RecordsFit (length day.headers) day.records

index_fits : (hs : List Bytes) → HeadersFit hs → (o : Option (List Record × Bytes)) → IfRecords (length hs) o → IfDay (read_index hs o)
unfolding read_index
index_fits hs p none w = tt
index_fits hs p (some (rs, X)) w = go (same X (write_index (record { headers = hs; records = rs })))
  where
    go : (b : Bool) → IfDay (if b then some (record { headers = hs; records = rs }) else none)
    go true = (p, w)
    go false = tt

rest_fits : (o : Option (List Bytes × Bytes)) → IfHeaders o → IfDay (read_rest o)
unfolding read_rest
rest_fits none p = tt
rest_fits (some (hs, X)) p = go (leb 4 (length X))
  where
    go : (b : Bool) → IfDay (if b then read_index hs (read_records (length hs) (value (take 4 X)) (drop 4 X)) else none)
    go true = index_fits hs p (read_records (length hs) (value (take 4 X)) (drop 4 X)) (records_fit (length hs) (value (take 4 X)) (drop 4 X))
    go false = tt

day_fits : (file : Bytes) → IfDay (read_day file)
unfolding read_day
day_fits file = go (leb 4 (length file) && leb (length file) longest_file)
  where
    go : (b : Bool) → IfDay (if b then read_rest (read_headers (value (take 4 file)) (drop 4 file)) else none)
    go true = rest_fits (read_headers (value (take 4 file)) (drop 4 file)) (headers_fit (value (take 4 file)) (drop 4 file))
    go false = tt

-- the header that a record names reads
header_reads : (hs : List Bytes) (n : ℕ) → HeadersFit hs → n < length hs → header_fits (get_or hs n []) ≡ true
header_reads [] n p q = absurd (omega arith)
header_reads (h ∷ hs) zero p q = p.0
header_reads (h ∷ hs) (suc n) p q = header_reads hs n p.1 (omega arith)

-- ---- Opening a record

abbrev No3 : OutcomeAt → Type 0
No3 o = eqb o.number 3 ≡ false

opening_no_3 : (key header : Bytes) (t : ℕ) (sealed out : Bytes) → header_fits header ≡ true → No3 (opening key header t sealed out)
unfolding read_header opened
opening_no_3 key header t sealed out f =
    opening_in key header t sealed out No3 refl refl (λ k e. absurd (true≢false (sym f ∙ unread k e))) refl refl refl
    (λ strings. by_text (decrypt (E (key_of key)) strings t sealed))
  where
    unread : (k : ℕ) → reading header ≡ bad_entry k → header_fits header ≡ false
    unread k e = ap (λ (r : Read). present (strings_of r)) e

    by_text : (o : Option Bytes) → No3 (beside 0 (opened o t (length sealed) out))
    by_text none = refl
    by_text (some M) = refl

pub opening_record_no_3 : (key file : Bytes) (k : ℕ) (out : Bytes) → (opening_record key file k out).number ≡ 3 → ⊥
unfolding opening_record open_in open_record
opening_record_no_3 key file k out e = true≢false (sym (ap (λ (n : ℕ). eqb n 3) e) ∙ go (read_day file) (day_fits file))
  where
    by : (day : Day) → IfDay (some day) → (o : Option Record) → get_elem? day.records k ≡ o → eqb (open_record key day o out).number 3 ≡ false
    by day p none f = refl
    by day p (some r) f =
        let fits = elem_fits (length day.headers) day.records k r p.1 f in
        let named = (and_true _ _ (and_true _ _ fits).0).1 in
        opening_no_3 key (header_of day r) r.stretch r.sealed out (header_reads day.headers r.header p.0 (ltb-true r.header (length day.headers) named))

    go : (o : Option Day) → IfDay o → eqb (open_in key o k out).number 3 ≡ false
    go none p = refl
    go (some day) p = by day p (get_elem? day.records k) refl
