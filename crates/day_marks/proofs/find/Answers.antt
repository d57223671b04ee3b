-- `day_marks::find` meets its contract: the mark is the place of a header that is not after the record's own.
use Rattle.std.proofs.Common.{◌≡◌, ◌∙◌, ◌*◌, ◌/◌, ℕ, List, get_or, ap, arith}
use Rattle.paper.specs.DayFile.{read_day}
use Rattle.laws.proofs.Digits.{below_of}
use Rattle.day_steps.specs.declared.Entry.{Entry}
use Rattle.day_find.specs.Finds.{length_place}
use Rattle.day_marks.proofs.Places.{mark_at, marked}
use Rattle.day_marks.proofs.find.Goals as goal

pub bounds-marks-i : goal.bounds-marks-i
bounds-marks-i c =
    let f = c.args.file.now in
    marked f (below_of 256 f (λ i p. omega (arith, c.type_inv.file i))) c.entry_of-e.result.header c.entry_of-e.ensures.1

pub find_from-requires : goal.find_from-requires
find_from-requires c =
    let f = c.args.file.now in
    let e = c.entry_of-e.result in
    let there = marked f (below_of 256 f (λ i p. omega (arith, c.type_inv.file i))) e.header c.entry_of-e.ensures.1 in
    let is : get_or c.args.marks.now (e.header / 64) 0 ≡ length_place (read_day f) (64 * (e.header / 64)) =
    ap (λ (l : List ℕ). get_or l (e.header / 64) 0) c.requires.2 ∙ mark_at (read_day f) (e.header / 64) there in
    (c.requires.0, c.requires.1, is, omega (arith, ap (λ (x : Entry). x.header) c.entry_of-e.ensures.0))
