-- What `array::from_fn` made, where each call leaves the closure as it was: a call is asked of the first closure alone.
use Rattle.std.proofs.Common.{◌≡◌, ℕ, List, subst, refl}
use denote.Param.Members.{Mut, Called}
use Rattle.std.specs.Array.{IsFromFnResult}
use Rattle.paper.specs.Strings.{tab}
use Rattle.laws.proofs.Made.{made_tab}

pub made_table : {F : Type 0} {n : ℕ} {ys : List ℕ} (g : Mut F (ℕ × Unit {0}) ℕ) (v : ℕ → ℕ) (f : F)
    → ((i r : ℕ) (q : F) → Called g f (i, tt) r q → (q ≡ f) × (r ≡ v i)) → IsFromFnResult g f ys n → ys ≡ tab n v
made_table g v f says made =
    made_tab (λ s. s ≡ f) v (λ s t i y h same called. says i y t (subst (λ u. Called g u (i, tt) y t) same called)) refl made
