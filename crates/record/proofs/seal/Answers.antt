use Rattle.std.proofs.Common.{◌+◌, length, refl, sym, arith}
use Rattle.std.proofs.lemmas.Result.{err_from_is_err_and}
use Rattle.answer.proofs.Refusals.{refuses}
use Rattle.key.specs.Meaning.{blocks}
use Rattle.settle.specs.Settled.{refusal}
use Rattle.settle.proofs.Settles.{sealing_fits, sealing_refused}
use Rattle.record.proofs.Whole.{lent_long, seals}
use Rattle.record.proofs.seal.Goals as goal

pub returns-in_err-settled_sealing : goal.returns-in_err-settled_sealing
returns-in_err-settled_sealing c =
    let p = err_from_is_err_and c.from_residual.result c.from_residual.ensures.1 in
    let a = c.args in
    rw (p.1, p.2) (sym (sealing_refused a.key.now a.header.now a.stretch.0 a.text.now a.out.now _ c.in_err-settled_sealing.ensures (refuses c.in_err-settled_sealing.field-0.0)))

pub key_of-k-requires : goal.key_of-k-requires
key_of-k-requires c =
    let a = c.args in
    (sealing_fits a.key.now a.header.now a.stretch.0 (length a.text.now) (length a.out.now) (refusal 0 0) c.in_ok-settled_sealing.ensures refl).common.key_long

pub bits-requires : goal.bits-requires
bits-requires c =
    let a = c.args in
    (sealing_fits a.key.now a.header.now a.stretch.0 (length a.text.now) (length a.out.now) (refusal 0 0) c.in_ok-settled_sealing.ensures refl).common.short

pub overflow_add-length : goal.overflow_add-length
overflow_add-length c =
    let a = c.args in
    omega (arith, (sealing_fits a.key.now a.header.now a.stretch.0 (length a.text.now) (length a.out.now) (refusal 0 0) c.in_ok-settled_sealing.ensures refl).within)

pub slice_bounds-encrypt-end : goal.slice_bounds-encrypt-end
slice_bounds-encrypt-end c =
    let a = c.args in
    (sealing_fits a.key.now a.header.now a.stretch.0 (length a.text.now) (length a.out.now) (refusal 0 0) c.in_ok-settled_sealing.ensures refl).has_room

pub slice_bounds-encrypt-end-2 : goal.slice_bounds-encrypt-end-2
slice_bounds-encrypt-end-2 c =
    let a = c.args in
    sym (lent_long a.out.now (length a.text.now + a.stretch.0) (sealing_fits a.key.now a.header.now a.stretch.0 (length a.text.now) (length a.out.now) (refusal 0 0) c.in_ok-settled_sealing.ensures refl).has_room)

pub encrypt-requires : goal.encrypt-requires
encrypt-requires c =
    let a = c.args in
    let fit = sealing_fits a.key.now a.header.now a.stretch.0 (length a.text.now) (length a.out.now) (refusal 0 0) c.in_ok-settled_sealing.ensures refl in
    let long = lent_long a.out.now (length a.text.now + a.stretch.0) fit.has_room in
    (omega (arith, long), omega (arith, long, fit.within), omega (arith, long, fit.common.short))

pub returns : goal.returns
returns c =
    let a = c.args in
    let k = c.key_of-k in
    seals a.key.now a.header.now a.out.now c.encrypt.new.out a.stretch.0 (blocks k.result) k.ensures.0 c.bits.result.0 c.bits.ensures c.delta-delta.result c.delta-delta.ensures
    a.text.now (refusal 0 0) c.in_ok-settled_sealing.ensures refl c.encrypt.ensures c.encrypt.auto.out
