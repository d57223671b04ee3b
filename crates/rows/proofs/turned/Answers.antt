-- `rows::turned`: by 0 < n < 64 a turn by n is a shift each way.
use Rattle.std.proofs.Common.{◌≡◌, ◌-◌, ◌*◌, ◌/◌, ◌%◌, ◌^◌, get_or, bit_or, w64, refl, ◌∙◌, arith, rules}
use Rattle.std.specs.Int.{rotate_right}
use Rattle.paper.specs.Strings.{tab}
use Rattle.laws.proofs.Made.{made_tab}
use Rattle.rows.proofs.turned.Goals as goal

pub returns : goal.returns
returns c =
    let a = c.args in
    let low : a.n % 64 ≡ a.n = omega arith in
    let up : (64 - a.n % 64) % 64 ≡ 64 - a.n = omega arith in
    made_tab (λ s. (s.0.now ≡ a.a) × (s.1.now ≡ a.n)) (λ p. rotate_right w64 (get_or a.a p 0) a.n) (λ s t i y h k called. (search rules, search rules)) (refl {a = a.a}, refl {a = a.n}) c.from_fn.ensures.items
    ∙ (λ i. tab 8 (λ p. bit_or (get_or a.a p 0 / 2 ^ low i) (get_or a.a p 0 * 2 ^ up i % 2 ^ 64)))
