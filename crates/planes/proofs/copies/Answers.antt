-- `planes::copies`: each word is spread from the two words of the columns.
use Rattle.std.proofs.Common.{◌≡◌, ◌+◌, ◌*◌, ◌/◌, ◌%◌, refl, ◌∙◌, rules}
use Rattle.paper.specs.Fips197.{bit}
use Rattle.laws.proofs.Made.{made_tab}
use Rattle.laws.proofs.WordBits.{word_of}
use Rattle.planes.specs.Planes.{spread_bit}
use Rattle.planes.proofs.Groups.{in_every_place}
use Rattle.planes.proofs.Sixteenfold.{copied_words}
use Rattle.planes.proofs.copies.Goals as goal

pub returns : goal.returns
returns c =
    let s = c.args.s in
    let x = c.joined-x.result in
    let y = c.joined-y.result in
    let is =
    made_tab (λ s. (s.0.now ≡ x) × (s.1.now ≡ y)) (λ i. word_of 64 (spread_bit (bit x) (bit y) (8 * (i % 4) + i / 4))) (λ s t i y h known called. (search rules, search rules))
    (refl {a = x}, refl {a = y}) c.from_fn.ensures.items
    ∙ copied_words s x y c.joined-x.ensures c.joined-y.ensures in
    (in_every_place s c.from_fn.result is, is)
