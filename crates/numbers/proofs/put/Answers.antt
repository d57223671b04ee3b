-- `numbers::put` meets its contract.
use Rattle.std.proofs.Common.{◌-◌, ◌∙◌, ap, take, drop}
use Rattle.paper.specs.Strings.{Bytes}
use Rattle.numbers.proofs.Bytes.{put_last}
use Rattle.numbers.proofs.put.Goals as goal

pub returns : goal.returns
returns g c =
    put_last g.row.N c.args.at c.requires.short c.args.n c.args.out.now c.copy_from_slice.new.self
    (c.copy_from_slice.ensures.after ∙ ap (λ (X : Bytes). take (8 - (8 - g.row.N)) (drop (8 - g.row.N) X)) c.to_be_bytes.ensures)
