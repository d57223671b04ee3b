use Rattle.std.proofs.Common.{refl}
use Rattle.record.proofs.Parts.{part_long, part_is}
use Rattle.record.proofs.open_part.Goals as goal

pub slice_bounds-result-end : goal.slice_bounds-result-end
slice_bounds-result-end c =
    let a = c.args in
    part_long a.key.now a.header.now a.stretch.0 a.sealed.now a.out.now c.open.result c.open.new.out c.open.ensures c.unwrap_or-n.result c.unwrap_or-n.ensures

pub returns : goal.returns
returns c =
    let a = c.args in
    (refl, part_is a.key.now a.header.now a.stretch.0 a.sealed.now a.out.now c.open.result c.open.new.out c.open.ensures c.unwrap_or-n.result c.unwrap_or-n.ensures)
