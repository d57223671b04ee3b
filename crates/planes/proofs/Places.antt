-- Lists over all places or over all blocks, at one of them.
use mathlib.Core.List.{List, [], map}
use mathlib.Core.Path.{◌≡◌, ap, sym, ◌∙◌}
use Prim.Native.Nat.{ℕ, zero, suc, ◌+◌, ◌<◌}
use native.Mathlib.Nat.{not-suc-le-zero, zero-add}
use native.Mathlib.Omega.{arith}
use lib.ListN.{get_or}
use Rattle.paper.specs.Strings.{Bytes, tab_from}
use Rattle.planes.specs.Planes.{up_to}

at_from : (f : ℕ → Bytes) (a n i : ℕ) → i < n → get_or (map f (tab_from a n (λ b. b))) i [] ≡ f (a + i)
at_from f a zero i h = absurd (not-suc-le-zero h)
at_from f a (suc n) zero h =
    let same : a ≡ a + 0 = omega arith in
    ap f same
at_from f a (suc n) (suc i) h =
    let same : suc a + i ≡ a + suc i = omega arith in
    at_from f (suc a) n i (omega arith) ∙ ap f same

pub at_up_to : (f : ℕ → Bytes) (i : ℕ) → i < 16 → get_or (map f (up_to 16)) i [] ≡ f i
at_up_to f i h = at_from f 0 16 i h ∙ ap f (zero-add i)

-- two functions that agree on all of them
pub at_one : (f g : ℕ → Bytes) → map f (up_to 16) ≡ map g (up_to 16) → (i : ℕ) → i < 16 → f i ≡ g i
at_one f g e i h = sym (at_up_to f i h) ∙ ap (λ (l : List Bytes). get_or l i []) e ∙ at_up_to g i h
