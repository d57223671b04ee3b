-- `day_place::put_index`: the places, and their count right in front of them.
use Rattle.std.proofs.Common.{ap, ◌∙◌}
use Rattle.paper.specs.Strings.{digits}
use Rattle.laws.specs.Placing.{placed}
use Rattle.day_place.proofs.Index.{counted_in_front}
use Rattle.day_place.proofs.put_index.Goals as goal

pub returns : goal.returns
returns c =
    let a = c.args in
    c.put.ensures
    ∙ ap (placed a.at (digits 256 4 a.records)) c.put_places.ensures
    ∙ counted_in_front a.out.now a.first a.records a.at c.requires.1
