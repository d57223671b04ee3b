-- Column i has the ones from half-byte 8i on.
use Rattle.std.proofs.Common.{◌≡◌, ◌-◌, ◌*◌, [], ◌∷◌, refl, ◌∙◌, rules, arith}
use Rattle.laws.proofs.Made.{made_tab}
use Rattle.halves.specs.Blocks.{front_column}
use Rattle.halves.proofs.ColumnBits.{front_columns}
use Rattle.halves.proofs.front.Goals as goal

pub returns : goal.returns
returns c =
    let n = c.args.n in
    let all : n - 0 ≡ n = omega arith in
    made_tab (λ s. s.0.now ≡ n) (λ i. front_column (n - 8 * i)) (λ s t i y h k called. (search rules, search rules)) (refl {a = n}) c.from_fn.ensures.items
    ∙ (λ i. front_column (all i) ∷ front_column (n - 8) ∷ front_column (n - 16) ∷ front_column (n - 24) ∷ [])
    ∙ front_columns n (omega arith)
