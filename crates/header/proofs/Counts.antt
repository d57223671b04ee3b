-- The count of a header, by its first byte.
use Rattle.std.proofs.Common.{◌≡◌, [], ◌∷◌, ℕ, ◌≤◌, ◌&&◌, leb, length, get_or, if◌then◌else◌, Ok, Bool, true, false, refl, arith}
use Rattle.std.proofs.lemmas.Bool.{leb-true}
use Rattle.paper.specs.Strings.{Bytes}
use Rattle.header.specs.Places.{count_of, bad}

pub count_first : (h : Bytes) → 1 ≤ length h → count_of h ≡ (if leb 1 (get_or h 0 0) && leb (get_or h 0 0) 16 then Ok (get_or h 0 0) else bad 0)
unfolding count_of
count_first [] p = absurd (omega arith)
count_first (n ∷ h) p = refl

pub count_none : (h : Bytes) → length h ≡ 0 → count_of h ≡ bad 0
unfolding count_of
count_none [] p = refl
count_none (n ∷ h) p = absurd (omega arith)

-- a count that reads is no 0
pub count_some : (h : Bytes) (n : ℕ) → Ok n ≡ count_of h → 1 ≤ n
unfolding count_of
count_some [] n e = cc
count_some (x ∷ h) n e = go (leb 1 x) (leb x 16) (leb-true 1 x) e
  where
    go : (a b : Bool) → (a ≡ true → 1 ≤ x) → Ok n ≡ (if a && b then Ok x else bad 0) → 1 ≤ n
    go true true p e = let is : n ≡ x = cc in omega (arith, p refl)
    go true false p e = cc
    go false b p e = cc
