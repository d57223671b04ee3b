-- `day_find::find_from` meets its contract: the index leads to the record, and a walk over the headers to its own.
use Rattle.std.proofs.Common.{◌≡◌, ◌<◌, ◌+◌, ◌≤◌, ℕ, length, take, drop, get_or, Fits, w8, arith}
use Rattle.paper.specs.Strings.{Bytes}
use Rattle.paper.specs.DayFile.{value, read_day}
use Rattle.day_steps.specs.declared.Entry.{Entry}
use Rattle.day_find.specs.Finds.{records_in, entry_in, length_place}
use Rattle.day_find.proofs.Finding.{there, read_below, length_room, found_is, found_within}
use Rattle.day_find.proofs.find_from.Goals as goal

-- the room that its header's length bytes and its header take
room : (f : Bytes) → ((i : ℕ) → Fits w8 (get_or f i 0)) → (records k : ℕ) → (records ≡ records_in (read_day f)) × (k < records)
    → (e : Entry) → e ≡ entry_in (read_day f) k → (at : ℕ) → at ≡ length_place (read_day f) e.header
    → at + 2 + value (take 2 (drop at f)) ≤ length f
room f low records k p e read at walked = length_room f (read_below f low) records k (there f low records k p) e read at walked

pub overflow_add-header_start : goal.overflow_add-header_start
overflow_add-header_start c =
    omega
    (arith, room c.args.file.now c.type_inv.file c.args.records c.args.k (c.requires.0, c.requires.1) c.entry_of-e.result c.entry_of-e.ensures.0 c.place_from-place.result c.place_from-place.ensures)

pub read-requires-clause-inside : goal.read-requires-clause-inside
read-requires-clause-inside c =
    omega
    (arith, room c.args.file.now c.type_inv.file c.args.records c.args.k (c.requires.0, c.requires.1) c.entry_of-e.result c.entry_of-e.ensures.0 c.place_from-place.result c.place_from-place.ensures)

pub overflow_add-header_end : goal.overflow_add-header_end
overflow_add-header_end c =
    omega
    (arith, room c.args.file.now c.type_inv.file c.args.records c.args.k (c.requires.0, c.requires.1) c.entry_of-e.result c.entry_of-e.ensures.0 c.place_from-place.result c.place_from-place.ensures, c.read.ensures.value)

pub returns-clause-value : goal.returns-clause-value
returns-clause-value c =
    let f = c.args.file.now in
    let s = there f c.type_inv.file c.args.records c.args.k (c.requires.0, c.requires.1) in
    found_is f (read_below f c.type_inv.file) c.args.records c.args.k s c.entry_of-e.result c.entry_of-e.ensures.0 c.place_from-place.result c.place_from-place.ensures c.read.result c.read.ensures.value

pub returns-clause-within : goal.returns-clause-within
returns-clause-within c =
    let f = c.args.file.now in
    let s = there f c.type_inv.file c.args.records c.args.k (c.requires.0, c.requires.1) in
    found_within f (read_below f c.type_inv.file) c.args.records c.args.k s c.entry_of-e.result c.entry_of-e.ensures.0 c.place_from-place.result c.place_from-place.ensures c.read.result c.read.ensures.value
