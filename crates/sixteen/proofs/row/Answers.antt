-- `sixteen::row`: the eight words of the slot.
use Rattle.std.proofs.Common.{◌≡◌, ◌+◌, ◌*◌, get_or, refl, rules}
use Rattle.laws.proofs.Made.{made_tab}
use Rattle.sixteen.proofs.row.Goals as goal

pub returns : goal.returns
returns c =
    let q = c.args.q.now in
    let l = c.args.l in
    made_tab (λ s. (s.0.now ≡ q) × (s.1.now ≡ l)) (λ p. get_or q (4 * p + l) 0) (λ s t p y h known called. (search rules, search rules))
    (refl {a = q}, refl {a = l}) c.from_fn.ensures.items
