-- Request E13, on the day file of E1: a day after clearing out records and after an append, and for each of the two calls what it returns and
-- every byte of the buffer that holds the file.
use Rattle.std.specs.Prelude.{Bool, true, false, ◌&&◌, ◌||◌, not, List, [], ◌∷◌, ◌++◌, map, ℕ, zero, suc, ◌+◌, ◌-◌, eqb, leb, ltb, length, take, drop, replicate, if◌then◌else◌}
use Rattle.std.proofs.Math.Option.{Option, none, some}
use Rattle.paper.specs.Strings.{Bytes}
use Rattle.paper.specs.Document01.{longest_stretch, Outcome, refused, done}
use Rattle.paper.specs.DayFile.{Record, Day, write_day, longest_file, header_fits, read_day}

-- ---- Entries by their numbers

-- the entries, the first of which is number n, whose number passes a test
unfoldable pub pick_from : {A : Type 0} → (ℕ → Bool) → ℕ → List A → List A
pick_from p n [] = []
pick_from p n (x ∷ xs) = if p n then x ∷ pick_from p (suc n) xs else pick_from p (suc n) xs

-- how many numbers below n pass it: the number that entry n gets among those that are picked
unfoldable pub count_below : (ℕ → Bool) → ℕ → ℕ
count_below p zero = 0
count_below p (suc n) = count_below p n + (if p n then 1 else 0)

-- ---- Clearing

-- the list has the number n
unfoldable pub has : List ℕ → ℕ → Bool
has [] n = false
has (x ∷ xs) n = eqb x n || has xs n

-- record k is kept: the list does not name it
abbrev pub keeps : List ℕ → ℕ → Bool
keeps dropped k = not (has dropped k)

-- some record names header n
unfoldable pub named : List Record → ℕ → Bool
named [] n = false
named (r ∷ rs) n = eqb r.header n || named rs n

-- the record with its header's number mended
abbrev pub mended : List Record → Record → Record
mended rs r = record { header = count_below (named rs) r.header; stretch = r.stretch; sealed = r.sealed }

-- a day of these headers and records without the headers that no record names
unfoldable pub packed : List Bytes → List Record → Day
packed headers rs = record { headers = pick_from (named rs) 0 headers; records = map (mended rs) rs }

-- the day after clearing
unfoldable pub cleared : List ℕ → Day → Day
cleared dropped day = packed day.headers (pick_from (keeps dropped) 0 day.records)

-- the list is strictly rising, from low on, and each is below the count of records
unfoldable pub rising_from : ℕ → ℕ → List ℕ → Bool
rising_from low count [] = true
rising_from low count (x ∷ xs) = leb low x && ltb x count && rising_from (suc x) count xs

-- answer 0: the file of so many bytes is now a shorter one, the bytes that it no longer takes are zero, and those past its old end as they were
abbrev pub shrunk : Bytes → ℕ → Bytes → Outcome
shrunk file size buffer =
    record { number = 0; size = length file; output = file ++ replicate (size - length file) 0 ++ drop size buffer }

-- 9, 17, 0
unfoldable pub clear_in : Option Day → ℕ → List ℕ → Bytes → Outcome
clear_in none size dropped buffer = refused 9 buffer
clear_in (some day) size dropped buffer =
    if rising_from 0 (length day.records) dropped then shrunk (write_day (cleared dropped day)) size buffer else refused 17 buffer

-- 9 also for a length past the buffer
unfoldable pub clearing : Bytes → ℕ → List ℕ → Outcome
clearing buffer size dropped =
    if ltb (length buffer) size then refused 9 buffer else clear_in (read_day (take size buffer)) size dropped buffer

-- ---- Appending

-- the headers after an append: the next number brings a new one, put last
abbrev pub headers_with : ℕ → Bytes → List Bytes → List Bytes
headers_with number header hs = if ltb number (length hs) then hs else hs ++ header ∷ []

-- the day after an append
unfoldable pub grown : ℕ → Bytes → ℕ → Bytes → Day → Day
grown number header stretch sealed day = record {
  headers = headers_with number header day.headers;
  records = day.records ++ record { header = number; stretch = stretch; sealed = sealed } ∷ [];
}

-- the number of a header that is there, or the next number with a header that reads; and a stretch of at most 64
abbrev pub append_fits : ℕ → Bytes → ℕ → ℕ → Bool
append_fits number header stretch headers = (ltb number headers || (eqb number headers && header_fits header)) && leb stretch longest_stretch

-- 9, 6, 0
unfoldable pub append_in : Option Day → ℕ → Bytes → ℕ → Bytes → Bytes → Outcome
append_in none number header stretch sealed buffer = refused 9 buffer
append_in (some day) number header stretch sealed buffer =
    let file = write_day (grown number header stretch sealed day) in
    if not (append_fits number header stretch (length day.headers)) then refused 9 buffer
    else if ltb longest_file (length file) then refused 6 buffer
    else if ltb (length buffer) (length file) then refused 6 buffer
    else done (length file) file buffer

-- 9 also for a length past the buffer
unfoldable pub appending : Bytes → ℕ → ℕ → Bytes → ℕ → Bytes → Outcome
appending buffer size number header stretch sealed =
    if ltb (length buffer) size then refused 9 buffer else append_in (read_day (take size buffer)) number header stretch sealed buffer
