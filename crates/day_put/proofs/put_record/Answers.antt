-- `day_put::put_record`: the number, the stretch, the length, and the sealed bytes.
use Rattle.day_put.proofs.Puts.{record_parts}
use Rattle.day_put.proofs.put_record.Goals as goal

pub returns : goal.returns
returns c =
    let a = c.args in
    record_parts a.at a.number a.stretch a.sealed.now a.out.now c.put.new.out c.put-2.new.out c.copy.new.s c.requires.1
    c.put.ensures c.put.auto.out c.put-2.ensures c.put-2.auto.out c.copy.ensures c.copy.auto.s
