-- Where the strings of a header stand. An entry is a string after its two length bytes, high byte first.
use Rattle.std.specs.Prelude.{◌&&◌, [], ◌∷◌, ℕ, ◌+◌, ◌-◌, ◌*◌, ◌≤◌, ltb, leb, length, get_or, if◌then◌else◌, Option, Some, None, Result, Ok, Err}
use Rattle.paper.specs.Strings.{Bytes}
use Rattle.paper.specs.Document01.{most_strings, longest_string, Read, as_strings, bad_entry}
use Rattle.header.specs.declared.Place.{Place}
use Rattle.answer.specs.declared.BadEntry.{BadEntry}

-- the number that the two bytes at a place represent
abbrev pub size_at : Bytes → ℕ → ℕ
size_at h at = get_or h at 0 * 256 + get_or h (at + 1) 0

-- the entry at a place: bad where fewer than two bytes are left, where the string is too long, or where it runs past the end
unfoldable pub entry_at : Bytes → ℕ → Option Place
entry_at h at =
    if ltb (length h) (at + 2) then None
    else if ltb longest_string (size_at h at) then None
    else if ltb (length h) (at + 2 + size_at h at) then None
    else Some (record { start = at + 2; end = at + 2 + size_at h at })

-- the string of an entry lies within h, and is not too long
abbrev pub Within : Option Place → Bytes → Type 0
Within None h = Unit {0}
Within (Some p) h = (p.start ≤ p.end) × (p.end ≤ length h) × (p.end - p.start ≤ longest_string)

-- the entry of a number is bad
abbrev pub bad : ℕ → Result ℕ BadEntry
bad k = Err (record { 0 = k })

-- the count, which is the first byte: bad where there is none, or where it is not from 1 to 16
unfoldable pub count_of : Bytes → Result ℕ BadEntry
count_of [] = bad 0
count_of (n ∷ h) = if leb 1 n && leb n most_strings then Ok n else bad 0

-- a count is at most 16, and stands in h
abbrev pub Few : Result ℕ BadEntry → Bytes → Type 0
Few (Err e) h = Unit {0}
Few (Ok n) h = (n ≤ most_strings) × (1 ≤ length h)

-- what a reader answers: how many strings there are, or which entry is bad
abbrev pub read_as : Read → Result ℕ BadEntry
read_as (bad_entry k) = bad k
read_as (as_strings ss) = Ok (length ss)
