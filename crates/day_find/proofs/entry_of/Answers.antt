-- `day_find::entry_of` meets its contract: the index leads to the record.
use Rattle.std.proofs.Common.{arith}
use Rattle.day_find.proofs.Finding.{there, read_below, entry_room, entry_read, header_named}
use Rattle.day_find.proofs.entry_of.Goals as goal

pub overflow_mul-records : goal.overflow_mul-records
overflow_mul-records c = let s = there c.args.file.now c.type_inv.file c.args.records c.args.k c.requires in omega (arith, s.index, s.short)

pub overflow_sub-file : goal.overflow_sub-file
overflow_sub-file c = (there c.args.file.now c.type_inv.file c.args.records c.args.k c.requires).index

pub overflow_mul-k : goal.overflow_mul-k
overflow_mul-k c = let s = there c.args.file.now c.type_inv.file c.args.records c.args.k c.requires in omega (arith, s.index, s.short)

pub overflow_add-file : goal.overflow_add-file
overflow_add-file c = let s = there c.args.file.now c.type_inv.file c.args.records c.args.k c.requires in omega (arith, s.index, s.short)

pub read-place-requires-clause-inside : goal.read-place-requires-clause-inside
read-place-requires-clause-inside c = let s = there c.args.file.now c.type_inv.file c.args.records c.args.k c.requires in omega (arith, s.index)

pub entry_at-requires : goal.entry_at-requires
entry_at-requires c =
    let f = c.args.file.now in
    let s = there f c.type_inv.file c.args.records c.args.k c.requires in
    (entry_room f (read_below f c.type_inv.file) c.args.records c.args.k s c.read-place.result c.read-place.ensures.value, s.short)

pub returns : goal.returns
returns c =
    let f = c.args.file.now in
    let low = read_below f c.type_inv.file in
    let s = there f c.type_inv.file c.args.records c.args.k c.requires in
    let is = entry_read f low c.args.records c.args.k s c.read-place.result c.read-place.ensures.value c.entry_at.result c.entry_at.ensures.0 in
    (is, header_named f low c.args.records c.args.k s c.entry_at.result is)
