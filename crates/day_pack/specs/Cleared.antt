-- What clearing needs of the buffer, and what it leaves there.
use Rattle.std.specs.Prelude.{true, List, [], ◌++◌, ◌≡◌, ℕ, ◌-◌, ◌≤◌, length, take, drop, replicate}
use Rattle.std.proofs.Math.Option.{Option, none, some}
use Rattle.paper.specs.Strings.{Bytes}
use Rattle.paper.specs.DayFile.{Day, first_place, write_day, read_day}
use Rattle.paper.specs.DayEdits.{cleared, rising_from}

-- the buffer holds a file that the list is for
pub record Clearable (buffer : Bytes) (size headers records first : ℕ) (dropped : List ℕ) : Type 0 where
  pub day : Day
  pub inside : size ≤ length buffer
  pub reads : read_day (take size buffer) ≡ some day
  pub headers_are : headers ≡ length day.headers
  pub records_are : records ≡ length day.records
  pub first_is : first ≡ first_place day.headers
  pub rises : rising_from 0 records dropped ≡ true

abbrev pub cleared_file : Option Day → List ℕ → Bytes
cleared_file none dropped = []
cleared_file (some day) dropped = write_day (cleared dropped day)

-- zeros after it, up to the old length, and what stood behind
abbrev pub cleared_buffer : Bytes → ℕ → Bytes → Bytes
cleared_buffer file size buffer = file ++ replicate (size - length file) 0 ++ drop size buffer
