-- `sixteen::add_key`: each word is the sum.
use Rattle.std.proofs.Common.{◌≡◌, get_or, bit_xor, refl, rules}
use Rattle.laws.proofs.Made.{made_tab}
use Rattle.sixteen.specs.Groups.{xor_planes}
use Rattle.sixteen.proofs.add_key.Goals as goal

pub returns : goal.returns
unfolding xor_planes
returns c =
    let q = c.args.q in
    let k = c.args.k.now in
    made_tab (λ s. (s.0.now ≡ q) × (s.1.now ≡ k)) (λ i. bit_xor (get_or q i 0) (get_or k i 0)) (λ s t i y h known called. (search rules, search rules))
    (refl {a = q}, refl {a = k}) c.from_fn.ensures.items
