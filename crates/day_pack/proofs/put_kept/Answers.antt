-- `day_pack::put_kept`: the mended number, and the rest of the record behind it.
use Rattle.std.proofs.Common.{◌≡◌, ◌∙◌, ◌+◌, ◌-◌, ◌++◌, Bool, length, take, drop, ap, sym}
use Rattle.paper.specs.Strings.{Bytes, digits}
use Rattle.laws.specs.Placing.{placed}
use Rattle.day_pack.specs.Bits.{bits_below}
use Rattle.day_pack.specs.Kept.{record_part}
use Rattle.day_pack.proofs.Turns.{kept_put, kept_long}
use Rattle.day_pack.proofs.put_kept.Goals as goal

pub returns-else-dropped : goal.returns-else-dropped
returns-else-dropped c =
    let a = c.args in
    let r = c.requires in
    let X : Bytes = take (a.end - (a.from + 2)) (drop (a.from + 2) a.out.now) in
    let number = bits_below a.counts.now.table.now a.number in
    let is : digits 256 2 number ++ X ≡ record_part a.dropped number X = ap (λ (b : Bool). record_part b number X) (sym c.if-dropped.false) in
    let one = c.put.new.out in
    let two = c.move_bytes.new.out in
    let put = kept_put a.out.now one two a.to a.from a.end c.below-n.result number r.0 r.1 r.2 c.below-n.ensures c.put.ensures c.move_bytes.ensures in
    let long = kept_long a.out.now one two a.to a.from a.end c.below-n.result number r.0 r.1 r.2 c.below-n.ensures c.put.ensures c.move_bytes.ensures in
    (long ∙ ap (λ (w : Bytes). a.to + length w) is, put ∙ ap (λ (w : Bytes). placed a.to w a.out.now) is)
