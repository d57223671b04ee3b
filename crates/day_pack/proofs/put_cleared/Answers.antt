-- `day_pack::put_cleared`: nothing is marked yet.
use Rattle.std.proofs.Common.{refl, arith, rules}
use Rattle.day_pack.proofs.Steps.{Begun, begun}
use Rattle.day_pack.proofs.Clears as clears
use Rattle.day_pack.proofs.put_cleared.Goals as goal

pub overflow_sub-last : goal.overflow_sub-last
overflow_sub-last c =
    let b : Begun = begun c.requires (λ i. search rules) in
    omega (arith, clears.size_is b, clears.size_short b)

pub overflow_mul-last : goal.overflow_mul-last
overflow_mul-last c =
    let b : Begun = begun c.requires (λ i. search rules) in
    omega (arith, clears.size_is b, clears.size_short b)

pub overflow_sub-last-2 : goal.overflow_sub-last-2
overflow_sub-last-2 c =
    let b : Begun = begun c.requires (λ i. search rules) in
    omega (arith, clears.size_is b, clears.size_short b)

pub mark_kept-kept-requires : goal.mark_kept-kept-requires
mark_kept-kept-requires c =
    let b : Begun = begun c.requires (λ i. search rules) in
    (clears.marks_ready b, c.requires.rises, refl)

pub put_marked-requires : goal.put_marked-requires
put_marked-requires c =
    (c.requires, c.mark_kept-kept.ensures.1, c.mark_kept-kept.ensures.0)
