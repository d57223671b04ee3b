-- `groups::aes4`: there, four rounds, and back.
use Rattle.groups.proofs.OnPlanes.{each_block}
use Rattle.groups.proofs.aes4.Goals as goal

pub returns : goal.returns
returns c =
    let out = c.to_blocks in
    let through = c.rounds4-r in
    let into = c.of_blocks-q in
    let a = c.args in
    each_block a.k1.now a.k2.now a.k3.now a.k4.now a.g.now out.result into.result through.result into.ensures.0 through.ensures out.ensures.0 out.ensures.1
