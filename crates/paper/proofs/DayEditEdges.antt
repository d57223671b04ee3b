-- The small day of `DayEdges`, cleared and grown: the second header, which no record names, goes at the first clearing.
use mathlib.Core.Bool.{true, false}
use mathlib.Core.List.{[], ◌∷◌, ◌++◌}
use mathlib.Core.Option.{some}
use mathlib.Core.Path.{◌≡◌, refl}
use Rattle.paper.specs.Strings.{digits}
use Rattle.paper.specs.Document01.{reading, read_strings, read_header, write_strings}
use Rattle.paper.specs.DayFile.{Day, write_record, write_records, write_headers, first_place, places_from, write_places, write_index, write_day}
use Rattle.paper.specs.DayEdits.{pick_from, count_below, has, named, packed, cleared, rising_from, clear_in, grown, append_in}
use Rattle.paper.proofs.DayEdges.{small, bytes}

-- ---- Which lists are taken

pub empty_list : rising_from 0 2 [] ≡ true
unfolding rising_from
empty_list = refl

pub both_records : rising_from 0 2 (0 ∷ 1 ∷ []) ≡ true
unfolding rising_from
both_records = refl

pub absent : rising_from 0 2 (0 ∷ 2 ∷ []) ≡ false
unfolding rising_from
absent = refl

pub equal_pair : rising_from 0 2 (1 ∷ 1 ∷ []) ≡ false
unfolding rising_from
equal_pair = refl

pub falling : rising_from 0 2 (1 ∷ 0 ∷ []) ≡ false
unfolding rising_from
falling = refl

-- ---- Clearing

-- three headers and three records, of which the first is dropped: header 0 goes, and 2 and 1 become 1 and 0
abbrev three : Day
three = record {
  headers = (0x01 ∷ 0x00 ∷ 0x00 ∷ []) ∷ (0x01 ∷ 0x00 ∷ 0x01 ∷ 0x2a ∷ []) ∷ (0x01 ∷ 0x00 ∷ 0x01 ∷ 0x2b ∷ []) ∷ [];
  records =
      record { header = 0; stretch = 0; sealed = 0x05 ∷ [] }
      ∷ record { header = 2; stretch = 1; sealed = 0x06 ∷ [] }
      ∷ record { header = 1; stretch = 2; sealed = 0x07 ∷ [] }
      ∷ [];
}

pub first_dropped : cleared (0 ∷ []) three ≡ record {
  headers = (0x01 ∷ 0x00 ∷ 0x01 ∷ 0x2a ∷ []) ∷ (0x01 ∷ 0x00 ∷ 0x01 ∷ 0x2b ∷ []) ∷ [];
  records = record { header = 1; stretch = 1; sealed = 0x06 ∷ [] } ∷ record { header = 0; stretch = 2; sealed = 0x07 ∷ [] } ∷ [];
}
unfolding cleared packed pick_from count_below has named
first_dropped = refl

-- all records dropped: no header is left
pub all_dropped : cleared (0 ∷ 1 ∷ 2 ∷ []) three ≡ record { headers = []; records = [] }
unfolding cleared packed pick_from count_below has named
all_dropped = refl

-- the small day's file in a buffer with two bytes more: the unnamed header's six bytes are freed and zero
pub small_cleared : clear_in (some small) 46 [] (bytes ++ 0xee ∷ 0xee ∷ []) ≡ record {
  number = 0;
  size = 40;
  output =
      0x00 ∷ 0x00 ∷ 0x00 ∷ 0x01
      ∷ 0x00 ∷ 0x03 ∷ 0x01 ∷ 0x00 ∷ 0x00
      ∷ 0x00 ∷ 0x00 ∷ 0x00 ∷ 0x02
      ∷ 0x00 ∷ 0x00 ∷ 0x00 ∷ 0x00 ∷ 0x00 ∷ 0x00 ∷ 0x01 ∷ 0x05
      ∷ 0x00 ∷ 0x00 ∷ 0x40 ∷ 0x00 ∷ 0x00 ∷ 0x00 ∷ 0x00
      ∷ 0x00 ∷ 0x00 ∷ 0x00 ∷ 0x02
      ∷ 0x00 ∷ 0x00 ∷ 0x00 ∷ 0x0d
      ∷ 0x00 ∷ 0x00 ∷ 0x00 ∷ 0x15
      ∷ 0x00 ∷ 0x00 ∷ 0x00 ∷ 0x00 ∷ 0x00 ∷ 0x00
      ∷ 0xee ∷ 0xee ∷ [];
}
unfolding clear_in rising_from cleared packed pick_from count_below has named write_day write_headers write_strings write_records write_record write_index write_places places_from first_place digits
small_cleared = refl

-- ---- Appending

-- a header that is there, of which the header argument tells nothing, and the next one
pub second_named : (grown 1 [] 3 (0x08 ∷ []) small).headers ≡ small.headers
unfolding grown
second_named = refl

pub third_brought : (grown 2 (0x01 ∷ 0x00 ∷ 0x00 ∷ []) 3 (0x08 ∷ []) small).headers ≡ small.headers ++ (0x01 ∷ 0x00 ∷ 0x00 ∷ []) ∷ []
unfolding grown
third_brought = refl

-- 65 bytes of stretch, the number after the next, and a header that does not read are 9
pub too_stretched : (append_in (some small) 1 [] 65 [] bytes).number ≡ 9
unfolding append_in grown
too_stretched = refl

pub too_far : (append_in (some small) 3 (0x01 ∷ 0x00 ∷ 0x00 ∷ []) 0 [] bytes).number ≡ 9
unfolding append_in grown
too_far = refl

pub unread_header : (append_in (some small) 2 (0x00 ∷ []) 0 [] bytes).number ≡ 9
unfolding append_in grown reading read_header read_strings
unread_header = refl

-- eleven bytes more than the file has are room for a record of no bytes, and ten are 6
pub just_fits : (append_in (some small) 1 [] 64 [] (bytes ++ 0 ∷ 0 ∷ 0 ∷ 0 ∷ 0 ∷ 0 ∷ 0 ∷ 0 ∷ 0 ∷ 0 ∷ 0 ∷ [])).number ≡ 0
unfolding append_in grown reading read_header read_strings write_day write_headers write_strings write_records write_record write_index write_places places_from first_place digits
just_fits = refl

pub just_not : (append_in (some small) 1 [] 64 [] (bytes ++ 0 ∷ 0 ∷ 0 ∷ 0 ∷ 0 ∷ 0 ∷ 0 ∷ 0 ∷ 0 ∷ 0 ∷ [])).number ≡ 6
unfolding append_in grown reading read_header read_strings write_day write_headers write_strings write_records write_record write_index write_places places_from first_place digits
just_not = refl
