-- Groups by their entries.
use mathlib.Core.List.{List, [], ◌∷◌}
use mathlib.Core.Path.{◌≡◌, refl, ap, sym, ◌∙◌}
use Prim.Native.Nat.{ℕ, zero, suc, ◌+◌, ◌<◌}
use native.Mathlib.Nat.{not-suc-le-zero, zero-add}
use native.Mathlib.Omega.{arith}
use lib.Seq.{ext_get_or}
use Rattle.groups.specs.Groups.{each, entry}

-- f a, f (a + 1), ..: n entries
abbrev run : (ℕ → List ℕ) → ℕ → ℕ → List (List ℕ)
run f a zero = []
run f a (suc n) = f a ∷ run f (suc a) n

at_run : (f : ℕ → List ℕ) (a n i : ℕ) → i < n → entry (run f a n) i ≡ f (a + i)
at_run f a zero i h = absurd (not-suc-le-zero h)
at_run f a (suc n) zero h =
    let same : a ≡ a + 0 = omega arith in
    ap f same
at_run f a (suc n) (suc i) h =
    let same : suc a + i ≡ a + suc i = omega arith in
    at_run f (suc a) n i (omega arith) ∙ ap f same

pub at_each : (f : ℕ → List ℕ) (i : ℕ) → i < 16 → entry (each f) i ≡ f i
at_each f i h = at_run f 0 16 i h ∙ ap f (zero-add i)

pub each_same : (f g : ℕ → List ℕ) → ((i : ℕ) → i < 16 → f i ≡ g i) → each f ≡ each g
each_same f g h =
    ext_get_or [] (each f) (each g) refl (λ i b. at_each f i b ∙ h i b ∙ sym (at_each g i b))
