-- Request E1: the day file. A day as lists, what is written of it, what reads, and for each call what it returns and every byte of its output.
-- A number in the file stands high byte first. Places are counted from the start of the file.
use Rattle.std.specs.Prelude.{Bool, true, false, ◌&&◌, List, [], ◌∷◌, ◌++◌, ℕ, zero, suc, ◌+◌, ◌*◌, eqb, leb, ltb, length, get_or, take, drop, if◌then◌else◌}
use Rattle.std.proofs.Math.Option.{Option, none, some}
use Rattle.std.proofs.Math.ListN.{get_elem?}
use Rattle.paper.specs.Strings.{Bytes, same, digits}
use Rattle.paper.specs.Document01.{read_header, write_strings, longest_stretch, Outcome, refused, done, opening}

-- ---- A day

pub record Record : Type 0 where
  pub header : ℕ
  pub stretch : ℕ
  pub sealed : Bytes

-- headers are numbered from 0, in their order
pub record Day : Type 0 where
  pub headers : List Bytes
  pub records : List Record

-- ---- What is written of it

-- the header's number, the stretch, the sealed length, the sealed bytes
unfoldable pub write_record : Record → Bytes
write_record r = digits 256 2 r.header ++ r.stretch ∷ digits 256 4 (length r.sealed) ++ r.sealed

unfoldable pub write_records : List Record → Bytes
write_records [] = []
write_records (r ∷ rs) = write_record r ++ write_records rs

-- the headers after their count, each after its two-byte length, as 01 writes the strings of a header
unfoldable pub write_headers : List Bytes → Bytes
write_headers headers = digits 256 4 (length headers) ++ write_strings headers

-- where the first record stands: after the headers and the records' count
unfoldable pub first_place : List Bytes → ℕ
first_place headers = length (write_headers headers) + 4

-- the place of each record's first byte, where the first stands at a place
unfoldable pub places_from : ℕ → List Record → List ℕ
places_from at [] = []
places_from at (r ∷ rs) = at ∷ places_from (at + length (write_record r)) rs

-- the place of record k, from 0
abbrev pub place_of : Day → ℕ → ℕ
place_of day k = get_or (places_from (first_place day.headers) day.records) k 0

-- the place of header n, after its two length bytes
unfoldable pub header_place : List Bytes → ℕ → ℕ
header_place headers n = 4 + length (write_strings (take n headers)) + 2

unfoldable pub write_places : List ℕ → Bytes
write_places [] = []
write_places (at ∷ places) = digits 256 4 at ++ write_places places

-- the index: its own count, and the place of each record
unfoldable pub write_index : Day → Bytes
write_index day = digits 256 4 (length day.records) ++ write_places (places_from (first_place day.headers) day.records)

-- headers, records, index, each after its count
unfoldable pub write_day : Day → Bytes
write_day day = write_headers day.headers ++ digits 256 4 (length day.records) ++ write_records day.records ++ write_index day

-- ---- What reads

abbrev pub longest_file : ℕ
longest_file = 65536

-- the number that n and then some bytes represent
unfoldable pub value_after : ℕ → Bytes → ℕ
value_after n [] = n
value_after n (b ∷ X) = value_after (n * 256 + b) X

abbrev pub value : Bytes → ℕ
value X = value_after 0 X

abbrev pub present : {A : Type 0} → Option A → Bool
present none = false
present (some x) = true

-- a header within the layout: it reads
abbrev pub header_fits : Bytes → Bool
header_fits h = present (read_header h)

-- a record within the layout, where there are so many headers: its header's number has two bytes and is one of theirs, and its stretch is at
-- most 64
abbrev pub record_fits : ℕ → Record → Bool
record_fits headers r = leb r.header 65535 && ltb r.header headers && leb r.stretch longest_stretch

-- one in front of the others, where these read
abbrev pub before : {A : Type 0} → A → Option (List A × Bytes) → Option (List A × Bytes)
before x none = none
before x (some (xs, rest)) = some (x ∷ xs, rest)

-- n headers, each after its two-byte length, and what follows them
unfoldable pub read_headers : ℕ → Bytes → Option (List Bytes × Bytes)
read_headers zero X = some ([], X)
read_headers (suc n) X =
    let size = value (take 2 X) in
    let header = take size (drop 2 X) in
    if leb (2 + size) (length X) && header_fits header then before header (read_headers n (drop (2 + size) X)) else none

-- n records, where there are so many headers, and what follows them
unfoldable pub read_records : ℕ → ℕ → Bytes → Option (List Record × Bytes)
read_records headers zero X = some ([], X)
read_records headers (suc n) X =
    let size = value (take 4 (drop 3 X)) in
    let r : Record = record { header = value (take 2 X); stretch = get_or X 2 0; sealed = take size (drop 7 X) } in
    if leb (7 + size) (length X) && record_fits headers r then before r (read_records headers n (drop (7 + size) X)) else none

-- the index is exactly the one of these headers and records, and nothing follows it
unfoldable pub read_index : List Bytes → Option (List Record × Bytes) → Option Day
read_index headers none = none
read_index headers (some (records, X)) =
    let day : Day = record { headers = headers; records = records } in
    if same X (write_index day) then some day else none

-- the records after their count, and then the index
unfoldable pub read_rest : Option (List Bytes × Bytes) → Option Day
read_rest none = none
read_rest (some (headers, X)) = if leb 4 (length X) then read_index headers (read_records (length headers) (value (take 4 X)) (drop 4 X)) else none

-- none where the file does not read
unfoldable pub read_day : Bytes → Option Day
read_day file = if leb 4 (length file) && leb (length file) longest_file then read_rest (read_headers (value (take 4 file)) (drop 4 file)) else none

-- ---- Counting the records

pub record Count : Type 0 where
  pub number : ℕ
  pub records : ℕ

abbrev pub counted : Option Day → Count
counted none = record { number = 9; records = 0 }
counted (some day) = record { number = 0; records = length day.records }

unfoldable pub counting : Bytes → Count
counting file = counted (read_day file)

-- ---- Opening a record by its number, from 0

-- the record's header
abbrev pub header_of : Day → Record → Bytes
header_of day r = get_or day.headers r.header []

-- 9 where there is no such record, else exactly 01's opening
unfoldable pub open_record : Bytes → Day → Option Record → Bytes → Outcome
open_record key day none out = refused 9 out
open_record key day (some r) out =
    let o = opening key (header_of day r) r.stretch r.sealed out in
    record { number = o.number; size = o.size; output = o.output }

unfoldable pub open_in : Bytes → Option Day → ℕ → Bytes → Outcome
open_in key none k out = refused 9 out
open_in key (some day) k out = open_record key day (get_elem? day.records k) out

-- 9 before 01's other numbers
unfoldable pub opening_record : Bytes → Bytes → ℕ → Bytes → Outcome
opening_record key file k out = open_in key (read_day file) k out

-- ---- Listing: where the headers and the records stand

-- for each header its start and its end, where the first header's two length bytes stand at a place
unfoldable pub header_places : ℕ → List Bytes → List ℕ
header_places at [] = []
header_places at (h ∷ hs) = (at + 2) ∷ (at + 2 + length h) ∷ header_places (at + 2 + length h) hs

-- for each record its header's number, its stretch, and the start and the end of its sealed bytes, where the first record stands at a place
unfoldable pub record_places : ℕ → List Record → List ℕ
record_places at [] = []
record_places at (r ∷ rs) = r.header ∷ r.stretch ∷ (at + 7) ∷ (at + 7 + length r.sealed) ∷ record_places (at + 7 + length r.sealed) rs

-- first the headers, then the records
unfoldable pub day_places : Day → List ℕ
day_places day = header_places 4 day.headers ++ record_places (first_place day.headers) day.records

pub record Listing : Type 0 where
  pub number : ℕ
  pub headers : ℕ
  pub records : ℕ
  pub places : List ℕ

-- 9, then 6 for a list that is too short, each with nothing changed; else the places stand first in the list
abbrev pub listed : Option Day → List ℕ → Listing
listed none places = record { number = 9; headers = 0; records = 0; places = places }
listed (some day) places =
    if ltb (length places) (length (day_places day)) then record { number = 6; headers = 0; records = 0; places = places }
    else record { number = 0; headers = length day.headers; records = length day.records; places = day_places day ++ drop (length (day_places day)) places }

unfoldable pub listing : Bytes → List ℕ → Listing
listing file places = listed (read_day file) places

-- ---- Writing. Headers and sealed strings come joined, each with a list of their lengths; the records as three lists beside

-- one in front of the others, where there are some
abbrev pub in_front_of : {A : Type 0} → A → Option (List A) → Option (List A)
in_front_of x none = none
in_front_of x (some xs) = some (x ∷ xs)

-- joined headers of these lengths: none where one is outside the layout, or where the lengths are not those of all the bytes
unfoldable pub headers_of : List ℕ → Bytes → Option (List Bytes)
headers_of [] [] = some []
headers_of [] (b ∷ X) = none
headers_of (n ∷ ns) X = if leb n (length X) && header_fits (take n X) then in_front_of (take n X) (headers_of ns (drop n X)) else none

-- the records of these headers' numbers, stretches, lengths and joined sealed bytes, where there are so many headers: none where one is outside
-- the layout, or where the lengths are not those of all the bytes
unfoldable pub records_of : ℕ → List ℕ → List ℕ → List ℕ → Bytes → Option (List Record)
records_of headers hs ts [] [] = some []
records_of headers hs ts [] (b ∷ X) = none
records_of headers hs ts (n ∷ ns) X =
    let r : Record = record { header = get_or hs 0 0; stretch = get_or ts 0 0; sealed = take n X } in
    if leb n (length X) && record_fits headers r then in_front_of r (records_of headers (drop 1 hs) (drop 1 ts) ns (drop n X)) else none

abbrev pub day_of : List Bytes → Option (List Record) → Option Day
day_of headers none = none
day_of headers (some records) = some (record { headers = headers; records = records })

-- the day of the lists: none where they are outside the layout, or where the three of the records differ in length
unfoldable pub day_from : Option (List Bytes) → List ℕ → List ℕ → List ℕ → Bytes → Option Day
day_from none hs ts ns X = none
day_from (some headers) hs ts ns X =
    if eqb (length hs) (length ns) && eqb (length ts) (length ns) then day_of headers (records_of (length headers) hs ts ns X) else none

-- 9, 4, 6, 0
unfoldable pub write_as : Option Day → Bytes → Outcome
write_as none out = refused 9 out
write_as (some day) out =
    let file = write_day day in
    if ltb longest_file (length file) then refused 4 out
    else if ltb (length out) (length file) then refused 6 out
    else done (length file) file out

unfoldable pub writing : List ℕ → Bytes → List ℕ → List ℕ → List ℕ → Bytes → Bytes → Outcome
writing lengths headers hs ts ns sealed out = write_as (day_from (headers_of lengths headers) hs ts ns sealed) out
