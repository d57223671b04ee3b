use Rattle.aes.proofs.Shifts.{turned_rows}
use Rattle.aes.proofs.shifted.Goals as goal

pub returns : goal.returns
returns c =
    turned_rows c.args.x c.picked-a.result c.picked-b.result c.picked-c.result c.picked.result c.picked-a.ensures c.picked-b.ensures c.picked-c.ensures c.picked.ensures
