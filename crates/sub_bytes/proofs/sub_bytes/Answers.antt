use Rattle.std.proofs.Common.{ℕ, List, ap, ◌∙◌}
use Rattle.paper.specs.Fips197.{SubBytes}
use Rattle.sub_bytes.specs.Planes.{plane_bytes, crossed_bytes}
use Rattle.sub_bytes.proofs.States.{lanes_sub_bytes}
use Rattle.sub_bytes.proofs.sub_bytes.Goals as goal

pub returns : goal.returns
unfolding crossed_bytes
returns c =
    c.words.ensures
    ∙ c.low_halves.ensures
    ∙ lanes_sub_bytes c.planes-q.result c.circuit-r.result c.circuit-r.ensures
    ∙ ap (λ (l : List ℕ). SubBytes (plane_bytes l)) c.planes-q.ensures
