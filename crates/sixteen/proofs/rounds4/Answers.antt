-- `sixteen::rounds4`: each round goes on from what the one before it made.
use Rattle.std.proofs.Common.{ℕ}
use Rattle.paper.specs.Strings.{Bytes}
use Rattle.paper.specs.Section7.{aesenc}
use Rattle.planes.specs.Planes.{plane_block}
use Rattle.sixteen.proofs.Steps.{one_more}
use Rattle.sixteen.proofs.rounds4.Goals as goal

pub returns : goal.returns
returns c =
    let a = c.args in
    let r1 = c.round-a in
    let r2 = c.round-b in
    let r3 = c.round-c in
    let r4 = c.round in
    let f1 : ℕ → Bytes = λ s. aesenc (plane_block a.q s) (plane_block a.k1.now s) in
    let f2 : ℕ → Bytes = λ s. aesenc (f1 s) (plane_block a.k2.now s) in
    let f3 : ℕ → Bytes = λ s. aesenc (f2 s) (plane_block a.k3.now s) in
    one_more r3.result r4.result a.k4.now f3 r4.ensures
    (one_more r2.result r3.result a.k3.now f2 r3.ensures (one_more r1.result r2.result a.k2.now f1 r2.ensures r1.ensures))
