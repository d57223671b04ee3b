-- The bytes of a day file's parts, by the lists that its writer is handed.
use Rattle.std.specs.Prelude.{List, [], ◌∷◌, ℕ, ◌+◌}
use Rattle.std.proofs.Math.Option.{Option, none, some}
use Rattle.paper.specs.Strings.{Bytes}
use Rattle.paper.specs.Document01.{write_strings}
use Rattle.paper.specs.DayFile.{Record, write_records}

-- the headers' and the records' bytes
abbrev pub headers_written : Option (List Bytes) → Bytes
headers_written none = []
headers_written (some hs) = write_strings hs

abbrev pub records_written : Option (List Record) → Bytes
records_written none = []
records_written (some rs) = write_records rs

-- the bytes that records of these sealed lengths take, and their places
unfoldable pub total : List ℕ → ℕ
total [] = 0
total (n ∷ ns) = 7 + n + total ns

unfoldable pub places_by : ℕ → List ℕ → List ℕ
places_by at [] = []
places_by at (n ∷ ns) = at ∷ places_by (at + 7 + n) ns

-- a record of these fields
abbrev pub record_with : ℕ → ℕ → Bytes → Record
record_with header stretch sealed = record { header = header; stretch = stretch; sealed = sealed }
