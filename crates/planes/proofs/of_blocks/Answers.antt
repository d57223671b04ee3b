-- `planes::of_blocks`: the words of the blocks, turned over.
use Rattle.std.proofs.Common.{ap, ◌∙◌}
use Rattle.levels.specs.Levels.{turned}
use Rattle.planes.proofs.Groups.{on_planes}
use Rattle.planes.proofs.of_blocks.Goals as goal

pub returns : goal.returns
returns c =
    let w = c.words-w in
    let q = c.turn in
    (on_planes c.args.g.now w.result q.new.w w.ensures q.ensures, q.ensures ∙ ap turned w.ensures)
