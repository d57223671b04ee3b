-- The lists of places that a walk over a file that reads has put after its first steps.
use Rattle.std.specs.Prelude.{Result, Ok, Err, List, [], ℕ, ◌+◌, length, take}
use Rattle.std.proofs.Math.Option.{Option, none, some}
use Rattle.paper.specs.DayFile.{Day, write_records, first_place, header_places, record_places, Listing}
use Rattle.answer.specs.declared.Refusal.{Refusal}
use Rattle.answer.specs.Outcomes.{number_in}
use Rattle.day_list.specs.declared.Listed.{Listed}

-- of the first n headers
unfoldable pub headers_listed : Option Day → ℕ → List ℕ
headers_listed none n = []
headers_listed (some day) n = header_places 4 (take n day.headers)

-- the place of the record after the first n
unfoldable pub record_place : Option Day → ℕ → ℕ
record_place none n = 0
record_place (some day) n = first_place day.headers + length (write_records (take n day.records))

-- of the first n records
unfoldable pub records_listed : Option Day → ℕ → List ℕ
records_listed none n = []
records_listed (some day) n = record_places (first_place day.headers) (take n day.records)

-- the counts of an answer: 0 beside a refusal
abbrev pub counts_in : Result Listed Refusal → Listed
counts_in (Ok counts) = counts
counts_in (Err r) = record { headers = 0; records = 0 }

-- what a call returned, and the list that it left
abbrev pub listing_as : Result Listed Refusal → List ℕ → Listing
listing_as r places = record { number = number_in r; headers = (counts_in r).headers; records = (counts_in r).records; places = places }
