-- `planes::to_blocks`: the blocks of the planes, turned over.
use Rattle.std.proofs.Common.{ap, ◌∙◌}
use Rattle.planes.specs.Planes.{group_of}
use Rattle.planes.proofs.Groups.{off_planes}
use Rattle.planes.proofs.to_blocks.Goals as goal

pub returns : goal.returns
returns c =
    let w = c.turn in
    let r = c.blocks-2 in
    (off_planes c.args.q w.new.w r.result w.ensures r.ensures, r.ensures ∙ ap group_of w.ensures)
