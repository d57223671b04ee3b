-- A locale's two bytes.
use Rattle.std.proofs.Common.{◌&&◌, ◌≡◌, refl, ℕ, eqb, [], ◌∷◌, length, get_or, arith}
use Rattle.std.proofs.lemmas.Grind.{common_steps}
use Rattle.paper.specs.Strings.{Bytes, same}

-- a string of two bytes is told by its length and by each of them
pub same_two : (name : Bytes) (x y : ℕ) → same name (x ∷ y ∷ []) ≡ (eqb (length name) 2 && (eqb (get_or name 0 0) x && eqb (get_or name 1 0) y))
unfolding same
same_two [] x y = refl
same_two (a ∷ []) x y = grind (arith, common_steps)
same_two (a ∷ b ∷ []) x y = grind (arith, common_steps)
same_two (a ∷ b ∷ c ∷ name) x y = grind (arith, common_steps)
