-- Gathering what differs tells whether two strings are equal.
use Rattle.std.proofs.Common.{◌≡◌, ℕ, ◌&&◌, List, [], ◌∷◌, length, bit_or, bit_xor, Bool, true, false, eqb, refl, sym, ap, ap₂, ◌∙◌, arith}
use Rattle.std.specs.List.{fold, zip}
use mathlib.Core.Bool.{and-true, and_assoc}
use borrow.Author.Tests.{eq-eqb, ne_eqb, eqb-true, eqb-false}
use lib.Bits.{or_add_and, xor_add_and, and_le_l, and_le_r, xor_self}
use Rattle.paper.specs.Strings.{same}

-- two bytes that do not differ are equal
xor_none : (x y : ℕ) → bit_xor x y ≡ 0 → x ≡ y
xor_none x y e = omega (arith, xor_add_and x y, and_le_l x y, and_le_r x y, e)

-- nothing is gathered of two numbers only where both are 0
or_none : (f g : ℕ) → bit_or f g ≡ 0 → (f ≡ 0) × (g ≡ 0)
or_none f g e = let s = or_add_and f g in let p = and_le_l f g in let q = and_le_r f g in (omega (arith, s, p, q, e), omega (arith, s, p, q, e))

-- what is gathered with one more pair of bytes
gathered : (f x y : ℕ) → eqb (bit_or f (bit_xor x y)) 0 ≡ (eqb f 0 && eqb x y)
gathered f x y = go (eqb f 0) (eqb x y) refl refl
  where
    go : (a b : Bool) → eqb f 0 ≡ a → eqb x y ≡ b → eqb (bit_or f (bit_xor x y)) 0 ≡ (eqb f 0 && eqb x y)
    go true true p q =
        let z : f ≡ 0 = eqb-true f 0 p in
        let e : x ≡ y = eqb-true x y q in
        eq-eqb _ 0 ((λ i. bit_or (z i) (bit_xor (e i) y)) ∙ ap (bit_or 0) (xor_self y)) ∙ sym (ap₂ ◌&&◌ p q)
    go true false p q =
        ne_eqb _ 0 (λ e. eqb-false x y q (xor_none x y (or_none f (bit_xor x y) e).1)) ∙ sym (ap₂ ◌&&◌ p q)
    go false b p q =
        ne_eqb _ 0 (λ e. eqb-false f 0 p (or_none f (bit_xor x y) e).0) ∙ sym (ap₂ ◌&&◌ p q)

-- what differs in two strings of one length, gathered on top of f
pub fold_differences : (f : ℕ) (a b : List ℕ) → length a ≡ length b
    → eqb (fold (λ (g : ℕ) (p : ℕ × ℕ). bit_or g (bit_xor p.0 p.1)) f (zip a b)) 0 ≡ (eqb f 0 && same a b)
unfolding same
fold_differences f [] [] e = sym (and-true (eqb f 0))
fold_differences f [] (y ∷ b) e = absurd (omega (arith, e))
fold_differences f (x ∷ a) [] e = absurd (omega (arith, e))
fold_differences f (x ∷ a) (y ∷ b) e =
    fold_differences (bit_or f (bit_xor x y)) a b (omega (arith, e))
    ∙ ap (λ (t : Bool). t && same a b) (gathered f x y)
    ∙ and_assoc (eqb f 0) (eqb x y) (same a b)
