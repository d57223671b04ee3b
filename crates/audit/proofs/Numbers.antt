-- THE NUMBERS. What each function of `aez`, which `aez_c` exports with the same clauses, returns is one of document 01's numbers for that call, and no other number.
use mathlib.Core.Bool.{Bool, true, false, true≢false, ◌||◌, not}
use mathlib.Core.List.{List, [], ◌∷◌}
use mathlib.Core.Option.{Option, none, some}
use mathlib.Core.Path.{◌≡◌, refl, ap, sym, ◌∙◌}
use Prim.Native.Nat.{ℕ}
use lib.Dec.{eqb, ltb}
use lib.ListN.{length, take, get_elem?}
use Rattle.std.specs.Prelude.{if◌then◌else◌}
use Rattle.paper.specs.Strings.{Bytes}
use Rattle.paper.specs.Figure6.{key_of, E}
use Rattle.paper.specs.Figure5.{decrypt}
use Rattle.paper.specs.Document01.{Outcome, OutcomeAt, beside, refused, done, Read, as_strings, bad_entry, reading, told, longest_string, log_header, sealing, opened, opening, building_log_header}
use Rattle.paper.specs.DayFile.{Record, Day, header_of, write_day, longest_file, read_day, counted, counting, open_record, open_in, opening_record, day_places, listed, listing, headers_of, day_from, write_as, writing}
use Rattle.paper.specs.DayEdits.{cleared, rising_from, shrunk, clear_in, clearing, grown, append_fits, append_in, appending}
use Rattle.settle.proofs.Settles.{sealing_in, opening_in}
use Rattle.aez.proofs.aez_seal.Reads as aez-seal
use Rattle.aez.proofs.aez_open.Reads as aez-open
use Rattle.aez.proofs.aez_seal_at.Reads as aez-seal-at
use Rattle.aez.proofs.aez_open_at.Reads as aez-open-at
use Rattle.aez.proofs.aez_header_read.Reads as aez-header-read
use Rattle.aez.proofs.aez_log_header.Reads as aez-log-header
use Rattle.aez.proofs.aez_day_write.Reads as aez-day-write
use Rattle.aez.proofs.aez_day_records.Reads as aez-day-records
use Rattle.aez.proofs.aez_day_open.Reads as aez-day-open
use Rattle.aez.proofs.aez_day_list.Reads as aez-day-list
use Rattle.aez.proofs.aez_day_clear.Reads as aez-day-clear
use Rattle.aez.proofs.aez_day_append.Reads as aez-day-append

-- whether n is one of the numbers ns
abbrev pub among : List ℕ → ℕ → Bool
among [] n = false
among (m ∷ ns) n = eqb n m || among ns n

abbrev Gives : List ℕ → Outcome → Type 0
Gives ns o = among ns o.number ≡ true

abbrev GivesAt : List ℕ → OutcomeAt → Type 0
GivesAt ns o = among ns o.number ≡ true

-- ---- Sealing

abbrev pub of_sealing : List ℕ
of_sealing = 0 ∷ 1 ∷ 2 ∷ 3 ∷ 4 ∷ 6 ∷ []

sealing_gives : (key header : Bytes) (t : ℕ) (text out : Bytes) → GivesAt of_sealing (sealing key header t text out)
sealing_gives key header t text out = sealing_in key header t text out (GivesAt of_sealing) refl refl (λ k e. refl) refl refl (λ strings. refl)

pub seal_number : (κs : _) (a : _) (n : _) (e : _) → aez-seal.Learnt κs a n e → among of_sealing n ≡ true
seal_number κs a n e p =
    ap (among of_sealing) p.0 ∙ sealing_gives a.0.now a.1.0.now a.1.1.0 a.1.1.1.0.now a.1.1.1.1.0.now

pub seal_at_number : (κs : _) (a : _) (n : _) (e : _) → aez-seal-at.Learnt κs a n e → among of_sealing n ≡ true
seal_at_number κs a n e p =
    ap (among of_sealing) p.0 ∙ sealing_gives a.0.now a.1.0.now a.1.1.0 a.1.1.1.0.now a.1.1.1.1.0.now

-- ---- Opening

abbrev pub of_opening : List ℕ
of_opening = 0 ∷ 1 ∷ 2 ∷ 3 ∷ 4 ∷ 5 ∷ 6 ∷ 7 ∷ []

opened_gives : (o : Option Bytes) (t n : ℕ) (out : Bytes) → GivesAt of_opening (beside 0 (opened o t n out))
unfolding opened
opened_gives none t n out = refl
opened_gives (some M) t n out = refl

opening_gives : (key header : Bytes) (t : ℕ) (sealed out : Bytes) → GivesAt of_opening (opening key header t sealed out)
opening_gives key header t sealed out =
    opening_in key header t sealed out (GivesAt of_opening) refl refl (λ k e. refl) refl refl refl
    (λ strings. opened_gives (decrypt (E (key_of key)) strings t sealed) t (length sealed) out)

pub open_number : (κs : _) (a : _) (n : _) (e : _) → aez-open.Learnt κs a n e → among of_opening n ≡ true
open_number κs a n e p =
    ap (among of_opening) p.0 ∙ opening_gives a.0.now a.1.0.now a.1.1.0 a.1.1.1.0.now a.1.1.1.1.0.now

pub open_at_number : (κs : _) (a : _) (n : _) (e : _) → aez-open-at.Learnt κs a n e → among of_opening n ≡ true
open_at_number κs a n e p =
    ap (among of_opening) p.0 ∙ opening_gives a.0.now a.1.0.now a.1.1.0 a.1.1.1.0.now a.1.1.1.1.0.now

-- ---- Reading a header

abbrev pub of_reading : List ℕ
of_reading = 0 ∷ 3 ∷ []

reading_gives : (r : Read) → among of_reading (told r).number ≡ true
reading_gives (bad_entry k) = refl
reading_gives (as_strings ss) = refl

pub header_read_number : (κs : _) (a : _) (n : _) (e : _) → aez-header-read.Learnt κs a n e → among of_reading n ≡ true
header_read_number κs a n e p = ap (among of_reading) p.0 ∙ reading_gives (reading a.0.now)

-- ---- The log header

abbrev pub of_building : List ℕ
of_building = 0 ∷ 6 ∷ 8 ∷ []

building_gives : (nonce host collector locale out : Bytes) → Gives of_building (building_log_header nonce host collector locale out)
unfolding building_log_header
building_gives nonce host collector locale out =
    go (ltb longest_string (length nonce) || ltb longest_string (length host) || ltb longest_string (length collector) || ltb longest_string (length locale))
    (ltb (length out) (length (log_header nonce host collector locale)))
  where
    go : (a b : Bool) → Gives of_building (if a then refused 8 out else if b then refused 6 out else done (length (log_header nonce host collector locale)) (log_header nonce host collector locale) out)
    go true b = refl
    go false true = refl
    go false false = refl

-- 3 is none of these
pub building_no_3 : (nonce host collector locale out : Bytes) → (building_log_header nonce host collector locale out).number ≡ 3 → ⊥
building_no_3 nonce host collector locale out e = true≢false (sym (building_gives nonce host collector locale out) ∙ ap (among of_building) e)

pub log_header_number : (κs : _) (a : _) (n : _) (e : _) → aez-log-header.Learnt κs a n e → among of_building n ≡ true
log_header_number κs a n e p =
    ap (among of_building) p.0 ∙ building_gives a.0.now a.1.0.now a.1.1.0.now a.1.1.1.0.now a.1.1.1.1.0.now

-- ---- The day file (request E1)

abbrev pub of_day_writing : List ℕ
of_day_writing = 0 ∷ 4 ∷ 6 ∷ 9 ∷ []

writing_gives : (ls : List ℕ) (J : Bytes) (hs ts ns : List ℕ) (X out : Bytes) → Gives of_day_writing (writing ls J hs ts ns X out)
unfolding writing write_as
writing_gives ls J hs ts ns X out = go (day_from (headers_of ls J) hs ts ns X)
  where
    by : (day : Day) (a b : Bool) → Gives of_day_writing (if a then refused 4 out else if b then refused 6 out else done (length (write_day day)) (write_day day) out)
    by day true b = refl
    by day false true = refl
    by day false false = refl

    go : (o : Option Day) → Gives of_day_writing (write_as o out)
    go none = refl
    go (some day) = by day (ltb longest_file (length (write_day day))) (ltb (length out) (length (write_day day)))

pub writing_no_3 : (ls : List ℕ) (J : Bytes) (hs ts ns : List ℕ) (X out : Bytes) → (writing ls J hs ts ns X out).number ≡ 3 → ⊥
writing_no_3 ls J hs ts ns X out e = true≢false (sym (writing_gives ls J hs ts ns X out) ∙ ap (among of_day_writing) e)

pub day_write_number : (κs : _) (a : _) (n : _) (e : _) → aez-day-write.Learnt κs a n e → among of_day_writing n ≡ true
day_write_number κs a n e p =
    ap (among of_day_writing) p.0
    ∙ writing_gives a.0.now a.1.0.now a.1.1.0.now a.1.1.1.0.now a.1.1.1.1.0.now a.1.1.1.1.1.0.now a.1.1.1.1.1.1.0.now

abbrev pub of_day_records : List ℕ
of_day_records = 0 ∷ 9 ∷ []

counting_gives : (file : Bytes) → among of_day_records (counting file).number ≡ true
unfolding counting
counting_gives file = go (read_day file)
  where
    go : (o : Option Day) → among of_day_records (counted o).number ≡ true
    go none = refl
    go (some day) = refl

pub day_records_number : (κs : _) (a : _) (n : _) (e : _) → aez-day-records.Learnt κs a n e → among of_day_records n ≡ true
day_records_number κs a n e p = ap (among of_day_records) p.0 ∙ counting_gives a.0.now

-- 9, or one of opening's numbers
abbrev pub of_day_opening : List ℕ
of_day_opening = 9 ∷ of_opening

or_true : (a b : Bool) → b ≡ true → (a || b) ≡ true
or_true true b e = refl
or_true false b e = e

opening_record_gives : (key file : Bytes) (k : ℕ) (out : Bytes) → Gives of_day_opening (opening_record key file k out)
unfolding opening_record open_in open_record
opening_record_gives key file k out = go (read_day file)
  where
    by : (day : Day) (o : Option Record) → Gives of_day_opening (open_record key day o out)
    by day none = refl
    by day (some r) =
        or_true (eqb (opening key (header_of day r) r.stretch r.sealed out).number 9) _ (opening_gives key (header_of day r) r.stretch r.sealed out)

    go : (o : Option Day) → Gives of_day_opening (open_in key o k out)
    go none = refl
    go (some day) = by day (get_elem? day.records k)

pub day_open_number : (κs : _) (a : _) (n : _) (e : _) → aez-day-open.Learnt κs a n e → among of_day_opening n ≡ true
day_open_number κs a n e p =
    ap (among of_day_opening) p.0 ∙ opening_record_gives a.0.now a.1.0.now a.1.1.0 a.1.1.1.0.now

abbrev pub of_day_listing : List ℕ
of_day_listing = 0 ∷ 6 ∷ 9 ∷ []

listing_gives : (file : Bytes) (places : List ℕ) → among of_day_listing (listing file places).number ≡ true
unfolding listing
listing_gives file places = go (read_day file)
  where
    pick : (day : Day) (a : Bool) → ltb (length places) (length (day_places day)) ≡ a → among of_day_listing (listed (some day) places).number ≡ true
    pick day true e = simp e
    pick day false e = simp e

    go : (o : Option Day) → among of_day_listing (listed o places).number ≡ true
    go none = refl
    go (some day) = pick day (ltb (length places) (length (day_places day))) refl

pub listing_no_3 : (file : Bytes) (places : List ℕ) → (listing file places).number ≡ 3 → ⊥
listing_no_3 file places e = true≢false (sym (listing_gives file places) ∙ ap (among of_day_listing) e)

pub day_list_number : (κs : _) (a : _) (n : _) (e : _) → aez-day-list.Learnt κs a n e → among of_day_listing n ≡ true
day_list_number κs a n e p = ap (among of_day_listing) p.0 ∙ listing_gives a.0.now a.1.0.now

-- ---- Clearing and appending (request E13)

abbrev pub of_day_clearing : List ℕ
of_day_clearing = 0 ∷ 9 ∷ 17 ∷ []

clearing_gives : (B : Bytes) (size : ℕ) (dropped : List ℕ) → Gives of_day_clearing (clearing B size dropped)
unfolding clearing clear_in
clearing_gives B size dropped = by_length (ltb (length B) size)
  where
    by_list : (day : Day) (b : Bool) → Gives of_day_clearing (if b then shrunk (write_day (cleared dropped day)) size B else refused 17 B)
    by_list day true = refl
    by_list day false = refl

    by_day : (o : Option Day) → Gives of_day_clearing (clear_in o size dropped B)
    by_day none = refl
    by_day (some day) = by_list day (rising_from 0 (length day.records) dropped)

    by_length : (b : Bool) → Gives of_day_clearing (if b then refused 9 B else clear_in (read_day (take size B)) size dropped B)
    by_length true = refl
    by_length false = by_day (read_day (take size B))

pub clearing_no_3 : (B : Bytes) (size : ℕ) (dropped : List ℕ) → (clearing B size dropped).number ≡ 3 → ⊥
clearing_no_3 B size dropped e = true≢false (sym (clearing_gives B size dropped) ∙ ap (among of_day_clearing) e)

pub day_clear_number : (κs : _) (a : _) (n : _) (e : _) → aez-day-clear.Learnt κs a n e → among of_day_clearing n ≡ true
day_clear_number κs a n e p = ap (among of_day_clearing) p.0 ∙ clearing_gives a.0.now a.1.0 a.1.1.0.now

abbrev pub of_day_appending : List ℕ
of_day_appending = 0 ∷ 6 ∷ 9 ∷ []

appending_gives : (B : Bytes) (size number : ℕ) (header : Bytes) (stretch : ℕ) (sealed : Bytes) → Gives of_day_appending (appending B size number header stretch sealed)
unfolding appending append_in
appending_gives B size number header stretch sealed = by_length (ltb (length B) size)
  where
    file : Day → Bytes
    file day = write_day (grown number header stretch sealed day)

    by_tests : (day : Day) (a b c : Bool) → Gives of_day_appending (if not a then refused 9 B else if b then refused 6 B else if c then refused 6 B else done (length (file day)) (file day) B)
    by_tests day true false false = refl
    by_tests day true false true = refl
    by_tests day true true c = refl
    by_tests day false b c = refl

    by_day : (o : Option Day) → Gives of_day_appending (append_in o number header stretch sealed B)
    by_day none = refl
    by_day (some day) = by_tests day (append_fits number header stretch (length day.headers)) (ltb longest_file (length (file day))) (ltb (length B) (length (file day)))

    by_length : (b : Bool) → Gives of_day_appending (if b then refused 9 B else append_in (read_day (take size B)) number header stretch sealed B)
    by_length true = refl
    by_length false = by_day (read_day (take size B))

pub appending_no_3 : (B : Bytes) (size number : ℕ) (header : Bytes) (stretch : ℕ) (sealed : Bytes) → (appending B size number header stretch sealed).number ≡ 3 → ⊥
appending_no_3 B size number header stretch sealed e = true≢false (sym (appending_gives B size number header stretch sealed) ∙ ap (among of_day_appending) e)

pub day_append_number : (κs : _) (a : _) (n : _) (e : _) → aez-day-append.Learnt κs a n e → among of_day_appending n ≡ true
day_append_number κs a n e p =
    ap (among of_day_appending) p.0
    ∙ appending_gives a.0.now a.1.0 a.1.1.0 a.1.1.1.0.now a.1.1.1.1.0 a.1.1.1.1.1.0.now
