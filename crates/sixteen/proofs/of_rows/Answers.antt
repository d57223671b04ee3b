-- `sixteen::of_rows`: each word is that of its row.
use Rattle.std.proofs.Common.{◌≡◌, ◌/◌, ◌%◌, List, [], ◌∷◌, ℕ, get_or, refl, rules}
use Rattle.laws.proofs.Made.{made_tab}
use Rattle.sixteen.specs.Groups.{of_rows}
use Rattle.sixteen.proofs.of_rows.Goals as goal

pub returns : goal.returns
unfolding of_rows
returns c =
    let rows : List (List ℕ) = c.args.d ∷ c.args.c ∷ c.args.b ∷ c.args.a ∷ [] in
    made_tab (λ s. s.0.now ≡ rows) (λ i. get_or (get_or rows (i % 4) []) (i / 4) 0) (λ s t i y h known called. (search rules, search rules))
    (refl {a = rows}) c.from_fn.ensures.items
