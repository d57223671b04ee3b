-- Strings of two lengths.
use Rattle.std.proofs.Common.{Bool, true, false, ◌≡◌, refl, ap, sym, length}
use Rattle.paper.specs.Strings.{Bytes, same}
use Rattle.laws.proofs.Sealing.{same_equal}

-- strings of two lengths are not the same
pub differ : (X Y : Bytes) → (length X ≡ length Y → ⊥) → false ≡ same X Y
differ X Y p = go (same X Y) refl
  where
    go : (t : Bool) → same X Y ≡ t → false ≡ same X Y
    go true e = absurd (p (ap length (same_equal X Y e)))
    go false e = sym e
