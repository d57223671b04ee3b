-- What an append puts into the buffer.
use Rattle.std.specs.Prelude.{true, List, [], ◌++◌, ◌≡◌, ℕ, ◌+◌, ◌≤◌, length, take}
use Rattle.std.proofs.Math.Option.{Option, none, some}
use Rattle.paper.specs.Strings.{Bytes, digits}
use Rattle.paper.specs.DayFile.{Record, Day, write_record, write_records, first_place, write_places, write_day, longest_file, read_day}
use Rattle.paper.specs.DayEdits.{grown, append_fits}
use Rattle.day_place.specs.Walked.{places_of}

-- a buffer's front ends with so many records, the first of which stands at a place
pub record Rows (f : Bytes) (first records : ℕ) : Type 0 where
  pub front : Bytes
  pub rs : List Record
  pub is : f ≡ front ++ write_records rs
  pub here : length front ≡ first
  pub many : length rs ≡ records

-- the record, and the index of all
abbrev pub last_written : Bytes → ℕ → ℕ → Record → Bytes
last_written f first records r =
    write_record r ++ (digits 256 4 (records + 1) ++ write_places (places_of (f ++ write_record r) first (records + 1)))

-- the buffer holds a file that can grow
pub record Ready (buffer : Bytes) (size headers records first number : ℕ) (header : Bytes) (stretch : ℕ) (sealed : Bytes) : Type 0 where
  pub day : Day
  pub inside : size ≤ length buffer
  pub reads : read_day (take size buffer) ≡ some day
  pub headers_are : headers ≡ length day.headers
  pub records_are : records ≡ length day.records
  pub first_is : first ≡ first_place day.headers
  pub fit : append_fits number header stretch headers ≡ true
  pub short : length (write_day (grown number header stretch sealed day)) ≤ longest_file
  pub room : length (write_day (grown number header stretch sealed day)) ≤ length buffer

abbrev pub grown_file : Option Day → ℕ → Bytes → ℕ → Bytes → Bytes
grown_file none number header stretch sealed = []
grown_file (some day) number header stretch sealed = write_day (grown number header stretch sealed day)
