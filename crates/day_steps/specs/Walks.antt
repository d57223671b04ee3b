-- The steps of a walk over a day file, and what the definition reads of it.
use Rattle.std.specs.Prelude.{List, ◌≡◌, ℕ, suc, ◌+◌, ◌-◌, ◌≤◌, length, get_or, take, drop, Option, Some, None}
use Rattle.std.proofs.Math.Option.{none, some}
use Rattle.paper.specs.Strings.{Bytes}
use Rattle.paper.specs.DayFile.{Record, value, before, read_headers, read_records}
use Rattle.header.specs.declared.Place.{Place}
use Rattle.day_steps.specs.declared.Entry.{Entry}

-- ---- One header, one record

-- the header whose two length bytes stand at a place: where it is bad, nothing reads from there, and else the definition goes on after it
abbrev pub HeaderStep : Option Place → Bytes → ℕ → Type 0
HeaderStep None file at = (n : ℕ) → read_headers (suc n) (drop at file) ≡ none
HeaderStep (Some p) file at =
    (p.start ≤ p.end) × (p.end ≤ length file) × ((n : ℕ) → read_headers (suc n) (drop at file) ≡ before (take (p.end - p.start) (drop p.start file)) (read_headers n (drop p.end file)))

-- the fields of the record at a place
abbrev pub entry_at : Bytes → ℕ → Entry
entry_at file at = record {
  header = value (take 2 (drop at file));
  stretch = get_or file (at + 2) 0;
  start = at + 7;
  end = at + 7 + value (take 4 (drop (at + 3) file));
}

-- the record that they stand for
abbrev pub record_of : Bytes → Entry → Record
record_of file e = record { header = e.header; stretch = e.stretch; sealed = take (e.end - e.start) (drop e.start file) }

-- the record at a place, where there are so many headers
abbrev pub RecordStep : Option Entry → Bytes → ℕ → ℕ → Type 0
RecordStep None file headers at = (n : ℕ) → read_records headers (suc n) (drop at file) ≡ none
RecordStep (Some e) file headers at =
    (e ≡ entry_at file at) × (e.end ≤ length file) × ((n : ℕ) → read_records headers (suc n) (drop at file) ≡ before (record_of file e) (read_records headers n (drop e.end file)))

-- ---- The sections

-- n headers from place 4 on, and the place after them
abbrev pub HeadersWalk : Option ℕ → Bytes → ℕ → Type 0
HeadersWalk None file n = read_headers n (drop 4 file) ≡ none
HeadersWalk (Some end) file n = (end ≤ length file) × ((hs : List Bytes) × (read_headers n (drop 4 file) ≡ some (hs, drop end file)))
