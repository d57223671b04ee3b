-- `levels::far`: a turn makes eight more words new.
use Rattle.std.proofs.Common.{◌≡◌, ℕ, ◌+◌, ◌*◌, List, get_or, set, refl, ap, ◌∙◌, arith, rules}
use Rattle.laws.proofs.Made.{made_tab}
use Rattle.levels.proofs.Turns.{far_none, far_all, far_more, far_after, first_more, with_first, eight, eight_place}
use Rattle.levels.proofs.far.Goals as goal

pub loop-i-init : goal.loop-i-init
loop-i-init c = far_none c.args.w.now c.requires

pub loop-p-preserved : goal.loop-p-preserved
loop-p-preserved c =
    let i = c.loop-i.i-counter in
    let y = c.far_eight-y.result in
    ap (λ (v : List ℕ). set v (eight_place i c.loop-p.p) (get_or y c.loop-p.p 0)) c.loop-p.invariant ∙ first_more c.loop-i.w y (eight_place i) c.loop-p.p

pub loop-i-preserved : goal.loop-i-preserved
loop-i-preserved c =
    let v = c.loop-i.w in
    let i = c.loop-i.i-counter in
    let y = c.far_eight-y.result in
    let read : c.from_fn.result ≡ eight v i =
    made_tab (λ s. (s.0.now ≡ v) × (s.1.now ≡ i)) (λ p. get_or v (i + 4 * p) 0) (λ s t p y h k called. (search rules, search rules))
    (refl {a = v}, refl {a = i}) c.from_fn.ensures.items in
    let all : c.loop-p.p ≡ 8 = omega arith in
    c.loop-p.invariant
    ∙ ap (with_first v (eight_place i) y) all
    ∙ far_more c.args.w.now v c.from_fn.result y i (omega arith) c.loop-i.invariant read c.far_eight-y.ensures

pub returns : goal.returns
returns c =
    let all : c.loop-i.i-counter ≡ 4 = omega arith in
    c.loop-i.invariant ∙ ap (far_after c.args.w.now) all ∙ far_all c.args.w.now
