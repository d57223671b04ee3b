use Rattle.std.proofs.Common.{length, true, false, refl, sym, arith}
use Rattle.std.proofs.lemmas.Result.{err_from_is_err_and}
use Rattle.answer.proofs.Refusals.{refuses}
use Rattle.key.specs.Meaning.{blocks}
use Rattle.settle.specs.Settled.{refusal}
use Rattle.settle.proofs.Settles.{opening_fits, opening_refused}
use Rattle.record.proofs.Whole.{lent_long, opens_by}
use Rattle.record.proofs.«open».Goals as goal

pub returns-in_err-settled_opening : goal.returns-in_err-settled_opening
returns-in_err-settled_opening c =
    let p = err_from_is_err_and c.from_residual.result c.from_residual.ensures.1 in
    let a = c.args in
    rw (p.1, p.2) (sym (opening_refused a.key.now a.header.now a.stretch.0 a.sealed.now a.out.now _ c.in_err-settled_opening.ensures (refuses c.in_err-settled_opening.field-0.0)))

pub key_of-k-requires : goal.key_of-k-requires
key_of-k-requires c =
    let a = c.args in
    (opening_fits a.key.now a.header.now a.stretch.0 (length a.sealed.now) (length a.out.now) (refusal 0 0) c.in_ok-settled_opening.ensures refl).common.key_long

pub bits-requires : goal.bits-requires
bits-requires c =
    let a = c.args in
    (opening_fits a.key.now a.header.now a.stretch.0 (length a.sealed.now) (length a.out.now) (refusal 0 0) c.in_ok-settled_opening.ensures refl).common.short

pub slice_bounds-decrypt-end : goal.slice_bounds-decrypt-end
slice_bounds-decrypt-end c =
    let a = c.args in
    (opening_fits a.key.now a.header.now a.stretch.0 (length a.sealed.now) (length a.out.now) (refusal 0 0) c.in_ok-settled_opening.ensures refl).has_room

pub slice_bounds-decrypt-end-2 : goal.slice_bounds-decrypt-end-2
slice_bounds-decrypt-end-2 c =
    let a = c.args in
    sym (lent_long a.out.now (length a.sealed.now) (opening_fits a.key.now a.header.now a.stretch.0 (length a.sealed.now) (length a.out.now) (refusal 0 0) c.in_ok-settled_opening.ensures refl).has_room)

pub decrypt-requires : goal.decrypt-requires
decrypt-requires c =
    let a = c.args in
    let fit = (opening_fits a.key.now a.header.now a.stretch.0 (length a.sealed.now) (length a.out.now) (refusal 0 0) c.in_ok-settled_opening.ensures refl) in
    let long = lent_long a.out.now (length a.sealed.now) fit.has_room in
    (sym long, omega (arith, long, fit.within), omega (arith, long, fit.least), fit.common.short)

pub overflow_sub-result : goal.overflow_sub-result
overflow_sub-result c =
    let a = c.args in
    (opening_fits a.key.now a.header.now a.stretch.0 (length a.sealed.now) (length a.out.now) (refusal 0 0) c.in_ok-settled_opening.ensures refl).least

pub returns-then-decrypt : goal.returns-then-decrypt
returns-then-decrypt c =
    let a = c.args in
    let k = c.key_of-k in
    opens_by a.key.now a.header.now a.out.now c.decrypt.new.out a.stretch.0 (blocks k.result) k.ensures.0 c.bits.result.0 c.bits.ensures c.delta-delta.result c.delta-delta.ensures
    a.sealed.now (refusal 0 0) c.in_ok-settled_opening.ensures refl c.decrypt.result c.decrypt.ensures.0 c.decrypt.ensures.1 c.decrypt.auto.out true c.if-decrypt.true

pub returns-else-decrypt : goal.returns-else-decrypt
returns-else-decrypt c =
    let a = c.args in
    let k = c.key_of-k in
    rw c.does_not_open.ensures
    (opens_by a.key.now a.header.now a.out.now c.decrypt.new.out a.stretch.0 (blocks k.result) k.ensures.0 c.bits.result.0 c.bits.ensures c.delta-delta.result c.delta-delta.ensures
    a.sealed.now (refusal 0 0) c.in_ok-settled_opening.ensures refl c.decrypt.result c.decrypt.ensures.0 c.decrypt.ensures.1 c.decrypt.auto.out false c.if-decrypt.false)
