-- How large the parts of an append are, and what the contract names its file.
use mathlib.Core.Option.{Option}
use mathlib.Core.Path.{◌≡◌, ap, sym}
use Prim.Native.Nat.{◌+◌, ◌*◌, ◌≤◌}
use native.Mathlib.Omega.{arith}
use lib.ListN.{length, take}
use Rattle.paper.specs.DayFile.{Day, write_records, write_headers, write_day, read_day}
use Rattle.paper.specs.DayEdits.{grown}
use Rattle.laws.proofs.DayWritten.{headers_few, first_place_lem}
use Rattle.laws.proofs.DayGrown.{fits_names}
use Rattle.day_grow.specs.Grown.{grown_file}
use Rattle.day_grow.proofs.Lent.{Lent, last_of}
use Rattle.day_grow.proofs.Growing.{heads_long, size_is, next_long}

pub record Sizes (l : Lent) : Type 0 where
  pub heads : 8 ≤ l.first
  pub records_end : last_of l + (4 + 4 * l.records) ≡ l.size
  pub headers_end : l.first ≤ last_of l
  pub stretch : l.stretch ≤ 64
  pub few : 2 * l.headers ≤ l.first

pub sizes : (l : Lent) → Sizes l
sizes l =
    let heads : length (write_headers l.ready.day.headers) + 4 ≡ l.first = heads_long l in
    let whole : l.size ≡ l.first + length (write_records l.ready.day.records) + (4 + 4 * l.records) = size_is l in
    record {
      heads = omega (arith, first_place_lem l.ready.day.headers, l.ready.first_is);
      records_end = omega (arith, whole);
      headers_end = omega (arith, whole);
      stretch = (fits_names l.number l.header l.stretch l.headers l.ready.fit).1;
      few = omega (arith, headers_few l.ready.day.headers, first_place_lem l.ready.day.headers, l.ready.first_is, l.ready.headers_are);
    }

-- there is room for a header that is brought
pub room_next : (l : Lent) → l.headers ≤ l.number → last_of l + (2 + length l.header) + 11 + length l.sealed + 4 + 4 * l.records ≤ length l.buffer
room_next l next = omega (arith, next_long l next, l.ready.room, size_is l)

pub file_is : (l : Lent) → write_day (grown l.number l.header l.stretch l.sealed l.ready.day) ≡ grown_file (read_day (take l.size l.buffer)) l.number l.header l.stretch l.sealed
file_is l = sym (ap (λ (o : Option Day). grown_file o l.number l.header l.stretch l.sealed) l.ready.reads)
