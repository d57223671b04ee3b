use Rattle.std.proofs.Common.{arith}
use Rattle.builder.proofs.Items.{one_long, string_put}
use Rattle.builder.proofs.put.Goals as goal

pub returns : goal.returns
returns c =
    let a = c.args in
    let long = one_long a.s.now in
    (omega (arith, long), string_put a.s.now a.out.now c.put.new.out c.copy.new.s a.at c.requires c.put.ensures c.copy.ensures)
