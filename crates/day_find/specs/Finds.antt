-- Where the parts of a file that reads stand.
use Rattle.std.proofs.Math.Option.{Option, none, some}
use Rattle.std.specs.Prelude.{ℕ, ◌+◌, ◌≤◌, length, take}
use Rattle.std.proofs.Math.ListN.{get_elem?}
use Rattle.paper.specs.Strings.{Bytes}
use Rattle.paper.specs.Document01.{write_strings}
use Rattle.paper.specs.DayFile.{Record, Day, place_of, header_place, header_of}
use Rattle.day_steps.specs.declared.Entry.{Entry}
use Rattle.day_find.specs.declared.Found.{Found}

-- how many headers and records there are: none where the file does not read
abbrev pub headers_in : Option Day → ℕ
headers_in none = 0
headers_in (some day) = length day.headers

abbrev pub records_in : Option Day → ℕ
records_in none = 0
records_in (some day) = length day.records

-- the place of header n's two length bytes; the first one's is 4 in any file
unfoldable pub length_place : Option Day → ℕ → ℕ
length_place none n = 4
length_place (some day) n = 4 + length (write_strings (take n day.headers))

-- the fields of record k, whose first byte stands at its place
unfoldable pub entry_by : Day → ℕ → Option Record → Entry
entry_by day k none = record { header = 0; stretch = 0; start = 0; end = 0 }
entry_by day k (some r) = record { header = r.header; stretch = r.stretch; start = place_of day k + 7; end = place_of day k + 7 + length r.sealed }

-- all are 0 where there is no such record
unfoldable pub entry_in : Option Day → ℕ → Entry
entry_in none k = record { header = 0; stretch = 0; start = 0; end = 0 }
entry_in (some day) k = entry_by day k (get_elem? day.records k)

-- record k: its header at its place, its stretch, and its sealed bytes after the seven bytes in front of them
unfoldable pub found_at : Day → ℕ → Option Record → Found
found_at day k none = record { header_start = 0; header_end = 0; stretch = 0; start = 0; end = 0 }
found_at day k (some r) = record {
  header_start = header_place day.headers r.header;
  header_end = header_place day.headers r.header + length (header_of day r);
  stretch = r.stretch;
  start = place_of day k + 7;
  end = place_of day k + 7 + length r.sealed;
}

-- all are 0 where there is no such record
unfoldable pub found_in : Option Day → ℕ → Found
found_in none k = record { header_start = 0; header_end = 0; stretch = 0; start = 0; end = 0 }
found_in (some day) k = found_at day k (get_elem? day.records k)

-- the parts lie within the file
abbrev pub FoundWithin : Found → Bytes → Type 0
FoundWithin r file = (r.header_start ≤ r.header_end) × (r.header_end ≤ length file) × (r.start ≤ r.end) × (r.end ≤ length file)
