-- A small day file, byte by byte: two headers, of which the second is named by no record, and two records.
use mathlib.Core.List.{[], ◌∷◌}
use mathlib.Core.Option.{none, some}
use mathlib.Core.Path.{◌≡◌, refl}
use Rattle.paper.specs.Strings.{Bytes, same, digits}
use Rattle.paper.specs.Document01.{read_strings, reading, read_header, write_strings}
use Rattle.paper.specs.DayFile.{Day, write_record, write_records, write_headers, first_place, places_from, write_places, write_index, write_day, value_after, read_headers, read_records, read_index, read_rest, read_day}

abbrev pub small : Day
small = record {
  headers = (0x01 ∷ 0x00 ∷ 0x00 ∷ []) ∷ (0x01 ∷ 0x00 ∷ 0x01 ∷ 0x2a ∷ []) ∷ [];
  records = record { header = 0; stretch = 0; sealed = 0x05 ∷ [] } ∷ record { header = 0; stretch = 64; sealed = [] } ∷ [];
}

abbrev pub bytes : Bytes
bytes =
    0x00 ∷ 0x00 ∷ 0x00 ∷ 0x02
    ∷ 0x00 ∷ 0x03 ∷ 0x01 ∷ 0x00 ∷ 0x00
    ∷ 0x00 ∷ 0x04 ∷ 0x01 ∷ 0x00 ∷ 0x01 ∷ 0x2a
    ∷ 0x00 ∷ 0x00 ∷ 0x00 ∷ 0x02
    ∷ 0x00 ∷ 0x00 ∷ 0x00 ∷ 0x00 ∷ 0x00 ∷ 0x00 ∷ 0x01 ∷ 0x05
    ∷ 0x00 ∷ 0x00 ∷ 0x40 ∷ 0x00 ∷ 0x00 ∷ 0x00 ∷ 0x00
    ∷ 0x00 ∷ 0x00 ∷ 0x00 ∷ 0x02
    ∷ 0x00 ∷ 0x00 ∷ 0x00 ∷ 0x13
    ∷ 0x00 ∷ 0x00 ∷ 0x00 ∷ 0x1b
    ∷ []

-- it is written so
pub small_written : write_day small ≡ bytes
unfolding write_day write_headers write_strings write_records write_record write_index write_places places_from first_place digits
small_written = refl

-- and reads so
pub small_reads : read_day bytes ≡ some small
unfolding read_day read_headers read_records read_index read_rest read_header reading read_strings value_after same write_headers write_strings write_records write_record write_index write_places places_from first_place digits
small_reads = refl

-- a file of no headers and no records is twelve zeros
pub empty_reads : read_day (0 ∷ 0 ∷ 0 ∷ 0 ∷ 0 ∷ 0 ∷ 0 ∷ 0 ∷ 0 ∷ 0 ∷ 0 ∷ 0 ∷ []) ≡ some (record { headers = []; records = [] })
unfolding read_day read_headers read_records read_index read_rest value_after same write_headers write_strings write_records write_index write_places places_from first_place digits
empty_reads = refl

-- a byte after the index
pub leftover : read_day (0 ∷ 0 ∷ 0 ∷ 0 ∷ 0 ∷ 0 ∷ 0 ∷ 0 ∷ 0 ∷ 0 ∷ 0 ∷ 0 ∷ 0 ∷ []) ≡ none
unfolding read_day read_headers read_records read_index read_rest value_after same write_headers write_strings write_records write_index write_places places_from first_place digits
leftover = refl
