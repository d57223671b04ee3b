-- `sixteen::round`: the steps of a round, one after another.
use Rattle.sixteen.proofs.Steps.{rounded}
use Rattle.sixteen.proofs.round.Goals as goal

pub returns : goal.returns
returns c =
    let sub = c.sub_bytes-s in
    let mix = c.shift_and_mix-m in
    let a = c.args in
    rounded a.q sub.result mix.result c.add_key.result a.k.now sub.ensures mix.ensures c.add_key.ensures
