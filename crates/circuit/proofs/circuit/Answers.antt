-- `circuit::circuit`: the parts together are the circuit.
use Rattle.std.proofs.Common.{◌≡◌, length, rules}
use Rattle.circuit.proofs.Lanes.{circuit_lanes, together}
use Rattle.circuit.proofs.circuit.Goals as goal

pub returns : goal.returns
returns c =
    let q = c.args.q in
    let y = c.sums-y in
    let n = c.norm-t in
    let t = c.inverse16-v in
    let z = c.products-z in
    let r = c.outputs in
    let long : length q ≡ 8 = search rules in
    circuit_lanes q r.result long
    (together q y.result n.result t.result z.result r.result y.ensures n.ensures t.ensures z.ensures r.ensures)
