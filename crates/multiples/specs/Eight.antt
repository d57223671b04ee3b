-- Eight multiples of a block as columns.
use Rattle.std.specs.Prelude.{List, [], ◌∷◌, ℕ, ◌+◌, ◌-◌, get_or}
use Rattle.paper.specs.Strings.{Bytes, join}
use Rattle.paper.specs.Section7.{◌·◌}
use Rattle.columns.specs.Columns.{columns_of}

-- 0·X to 7·X as columns, one after the other
unfoldable pub multiples : Bytes → List ℕ
multiples X = join 8 (λ n. columns_of ((n - 1) · X))

-- the four numbers of m from place n on
abbrev pub four_at : List ℕ → ℕ → List ℕ
four_at m n = get_or m n 0 ∷ get_or m (n + 1) 0 ∷ get_or m (n + 2) 0 ∷ get_or m (n + 3) 0 ∷ []
