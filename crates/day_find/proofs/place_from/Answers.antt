-- `day_find::place_from` meets its contract.
use Rattle.std.proofs.Common.{◌∙◌, arith}
use Rattle.day_find.proofs.Finding.{passed}
use Rattle.day_find.proofs.place_from.Goals as goal

pub read-requires-clause-inside : goal.read-requires-clause-inside
read-requires-clause-inside c = omega (arith, (passed c.args.file.now c.type_inv.file c.loop.counter c.loop.place (omega arith) c.loop.invariant).0)

pub overflow_add-place-in-loop : goal.overflow_add-place-in-loop
overflow_add-place-in-loop c =
    omega (arith, (passed c.args.file.now c.type_inv.file c.loop.counter c.loop.place (omega arith) c.loop.invariant).0, c.read.ensures.value)

pub loop-preserved : goal.loop-preserved
loop-preserved c =
    let next = (passed c.args.file.now c.type_inv.file c.loop.counter c.loop.place (omega arith) c.loop.invariant).1 in
    omega (arith, c.read.ensures.value) ∙ next
