-- A walk over records that stand in a buffer: where it comes to, and the places that it passes.
use Rattle.std.specs.Prelude.{List, [], ◌∷◌, ◌++◌, ℕ, zero, suc}
use Rattle.paper.specs.Strings.{Bytes}
use Rattle.day_steps.specs.Walks.{entry_at}

-- the place after n records, the first of which stands at a place
unfoldable pub end_of : Bytes → ℕ → ℕ → ℕ
end_of f first zero = first
end_of f first (suc n) = (entry_at f (end_of f first n)).end

-- the places of n records
unfoldable pub places_of : Bytes → ℕ → ℕ → List ℕ
places_of f first zero = []
places_of f first (suc n) = places_of f first n ++ end_of f first n ∷ []
