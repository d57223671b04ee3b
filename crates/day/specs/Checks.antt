-- What a day file is checked for, by what the definition reads of it.
use Rattle.std.specs.Prelude.{Bool, false, List, ◌++◌, ℕ, length, Option as Checked, Some, None}
use Rattle.std.proofs.Math.Option.{Option, none, some}
use Rattle.paper.specs.Strings.{Bytes, same, digits}
use Rattle.paper.specs.DayFile.{Record, Day, first_place, places_from, write_places}
use Rattle.day.specs.declared.Day.{Day as Counts}

-- the index of these records, the first of which stands at a place
abbrev pub index_from : ℕ → List Record → Bytes
index_from first rs = digits 256 4 (length rs) ++ write_places (places_from first rs)

-- what follows the records is exactly their index
abbrev pub right_index : ℕ → Option (List Record × Bytes) → Bool
right_index first none = false
right_index first (some (rs, rest)) = same rest (index_from first rs)

-- ---- The file

abbrev pub checked_day : ℕ → ℕ → ℕ → Counts
checked_day headers records first = record { headers = headers; records = records; first = first }

abbrev pub checked_as : Option Day → Checked Counts
checked_as none = None
checked_as (some day) = Some (checked_day (length day.headers) (length day.records) (first_place day.headers))
