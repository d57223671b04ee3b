-- `day_grow::put_last`: the record behind the others, the index behind it, and then their count.
use Rattle.std.proofs.Common.{◌∙◌, ◌+◌, ◌-◌, ap, arith}
use Rattle.paper.specs.Strings.{digits}
use Rattle.laws.specs.Placing.{placed}
use Rattle.day_put.specs.Written.{record_with}
use Rattle.day_grow.proofs.Growing.{ends_behind, index_behind, first_inside}
use Rattle.day_grow.proofs.put_last.Goals as goal

pub put_index-requires : goal.put_index-requires
put_index-requires c =
    let a = c.args in
    let r = record_with a.number a.stretch a.sealed.now in
    let ends = ends_behind a.out.now a.at a.first a.records c.requires.0 r c.requires.2 c.requires.3 c.put_record.new.out c.put_record.ensures in
    (ends, omega arith, omega arith)

pub put-requires : goal.put-requires
put-requires c = let a = c.args in omega (arith, first_inside a.out.now a.at a.first a.records (omega arith) c.requires.0)

pub returns : goal.returns
returns c =
    let a = c.args in
    let r = record_with a.number a.stretch a.sealed.now in
    c.put.ensures
    ∙ ap
    (placed (a.first - 4) (digits 256 4 (a.records + 1)))
    (index_behind a.out.now a.at a.first a.records c.requires.0 r c.requires.2 c.requires.3 c.put_record.new.out c.put_record.ensures c.put_index.new.out c.put_index.ensures)
