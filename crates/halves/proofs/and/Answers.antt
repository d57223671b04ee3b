use Rattle.std.proofs.Common.{◌≡◌, get_or, bit_and, refl, ◌∙◌, rules}
use mir.Syntax.{w32}
use Rattle.laws.proofs.Made.{made_tab}
use Rattle.block.proofs.Arrays.{array_digits}
use Rattle.halves.proofs.ColumnBits.{columns_and}
use Rattle.halves.proofs.and.Goals as goal

pub returns : goal.returns
returns c =
    let a = c.args.a in
    let b = c.args.b in
    made_tab (λ s. (s.0.now ≡ a) × (s.1.now ≡ b)) (λ i. bit_and (get_or a i 0) (get_or b i 0)) (λ s t i y h k called. (search rules, search rules)) (refl {a = a}, refl {a = b}) c.from_fn.ensures.items
    ∙ columns_and a b (array_digits w32 4 _ _ c.well_formed.0) (array_digits w32 4 _ _ c.well_formed.1.0)
