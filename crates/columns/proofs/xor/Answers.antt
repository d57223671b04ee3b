-- The sum of each column is the columns' sum.
use Rattle.std.proofs.Common.{rules, ◌≡◌, get_or, bit_xor, refl, ◌∙◌}
use mir.Syntax.{w32}
use Rattle.laws.proofs.Made.{made_tab}
use Rattle.block.proofs.Arrays.{array_digits}
use Rattle.columns.proofs.Conversions.{columns_sum}
use Rattle.columns.proofs.xor.Goals as goal

pub returns : goal.returns
returns c =
    let a = c.args.a in
    let b = c.args.b in
    made_tab (λ s. (s.0.now ≡ a) × (s.1.now ≡ b)) (λ k. bit_xor (get_or a k 0) (get_or b k 0)) (λ s t i y h k called. (search rules, search rules)) (refl {a = a}, refl {a = b}) c.from_fn.ensures.items
    ∙ columns_sum a b (array_digits w32 4 _ _ c.well_formed.0) (array_digits w32 4 _ _ c.well_formed.1.0)
