use Rattle.std.proofs.Common.{length, refl, sym, ◌∙◌, arith}
use Rattle.laws.proofs.Fronts.{front_more, front_all}
use Rattle.halves.proofs.ByteHalves.{whole_bytes_digits, whole_bytes_at}
use Rattle.halves.proofs.put_bytes.Goals as goal

pub loop-i-init : goal.loop-i-init
loop-i-init c = record { long = sym (whole_bytes_digits (length c.args.s.now) c.args.h.now c.requires).len; same = refl }

pub loop-i-preserved : goal.loop-i-preserved
loop-i-preserved c =
    let long = whole_bytes_digits (length c.args.s.now) c.args.h.now c.requires in
    front_more _ c.loop-i.invariant (omega (arith, long.len)) (c.byte_of.ensures ∙ sym (whole_bytes_at c.args.h.now c.loop-i.i (omega arith)))

pub returns : goal.returns
returns c = let long = whole_bytes_digits (length c.args.s.now) c.args.h.now c.requires in front_all c.loop-i.invariant (long.len ∙ omega arith)
