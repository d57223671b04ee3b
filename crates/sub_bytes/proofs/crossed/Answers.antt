use Rattle.sub_bytes.proofs.Moves.{turned_over}
use Rattle.sub_bytes.proofs.crossed.Goals as goal

pub returns : goal.returns
returns c =
    let p = c.exchanged-p1 in
    let q = c.exchanged-p3 in
    let u = c.exchanged-u2 in
    let v = c.exchanged-u3 in
    turned_over c.args.s p.result.0 p.result.1 q.result.0 q.result.1 u.result.0 u.result.1 v.result.0 v.result.1
    p.ensures.0 p.ensures.1 q.ensures.0 q.ensures.1 u.ensures.0 u.ensures.1 v.ensures.0 v.ensures.1
