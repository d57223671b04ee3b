-- The mean: Euclid's divisor divides both numbers, and every common divisor divides it; so the mean's fraction equals the sum over the count
-- and is in lowest terms.
use mathlib.Core.Bool.{Bool, true, false}
use mathlib.Core.Path.{◌≡◌, refl, ap, sym, subst, ◌∙◌}
use Prim.Native.Nat.{ℕ, zero, suc, ◌+◌, ◌*◌, ◌/◌, ◌%◌, ◌≤◌, ◌<◌, ◌∣◌}
use native.Mathlib.Nat.{mod-lt, dvd_refl, dvd-zero, dvd-mod_iff, dvd_antisymm, pos_of_dvd_of_pos, mul-div_cancel', mul_comm, mul_assoc, mul-one, mul-dvd-mul_left, dvd_of_mul-dvd-mul_left, eq-one_of_dvd-one, div-le_self}
use native.Mathlib.Omega.{arith}
use borrow.Author.Tests.{eqb-true, eqb-false, eq-eqb, ne_eqb}
use lib.Dec.{eqb}
use Rattle.std.specs.Prelude.{if◌then◌else◌}
use Rattle.paper.specs.Ledger.{gcd_in, gcd, mean_over, mean_under}

-- ---- Euclid

-- g is a greatest common divisor
pub record Greatest (a b g : ℕ) : Type 0 where
  pub divides_first : g ∣ a
  pub divides_second : g ∣ b
  pub greatest : (d : ℕ) → d ∣ a → d ∣ b → d ∣ g

none_left : (a b : ℕ) → b ≡ 0 → Greatest a b a
none_left a b e = record { divides_first = dvd_refl a; divides_second = subst (λ (n : ℕ). a ∣ n) (sym e) (dvd-zero a); greatest = λ d p q. p }

-- with n steps, where b is at most n
gcd_in_lem : (n a b : ℕ) → b ≤ n → Greatest a b (gcd_in n a b)
unfolding gcd_in
gcd_in_lem zero a b p = none_left a b (omega arith)
gcd_in_lem (suc n) a b p = go (eqb b 0) refl (λ q. gcd_in_lem n b (a % b) (omega (arith, mod-lt a {m = b} (omega arith))))
  where
    go : (t : Bool) → eqb b 0 ≡ t → ((0 < b) → Greatest b (a % b) (gcd_in n b (a % b))) → Greatest a b (if t then a else gcd_in n b (a % b))
    go true e rest = none_left a b (eqb-true b 0 e)
    go false e rest =
        let r = rest (omega (arith, eqb-false b 0 e)) in
        record {
          divides_first = (dvd-mod_iff (gcd_in n b (a % b)) r.divides_first).0 r.divides_second;
          divides_second = r.divides_first;
          greatest = λ d p q. r.greatest d q ((dvd-mod_iff d q).1 p);
        }

pub gcd_greatest : (a b : ℕ) → Greatest a b (gcd a b)
gcd_greatest a b = gcd_in_lem b a b (omega arith)

-- there is one
one_greatest : (a b g h : ℕ) → Greatest a b g → Greatest a b h → g ≡ h
one_greatest a b g h p q = dvd_antisymm (q.greatest g p.divides_first p.divides_second) (p.greatest h q.divides_first q.divides_second)

-- a step of Euclid, and its end
pub gcd_step : (a b : ℕ) → 0 < b → gcd a b ≡ gcd b (a % b)
gcd_step a b p =
    one_greatest a b (gcd a b) (gcd b (a % b)) (gcd_greatest a b)
    (let r = gcd_greatest b (a % b) in
    record {
      divides_first = (dvd-mod_iff (gcd b (a % b)) r.divides_first).0 r.divides_second;
      divides_second = r.divides_first;
      greatest = λ d p q. r.greatest d q ((dvd-mod_iff d q).1 p);
    })

pub gcd_end : (a b : ℕ) → b ≡ 0 → gcd a b ≡ a
unfolding gcd_in
gcd_end a b e = ap (gcd a) e

-- ---- The mean

pub mean_none : (sum count : ℕ) → count ≡ 0 → (mean_over sum count ≡ 0) × (mean_under sum count ≡ 1)
unfolding mean_over mean_under
mean_none sum count e = (
  ap (λ (t : Bool). if t then 0 else sum / gcd sum count) (eq-eqb count 0 e),
  ap (λ (t : Bool). if t then 1 else count / gcd sum count) (eq-eqb count 0 e),
)

pub mean_some : (sum count : ℕ) → (count ≡ 0 → ⊥) → (mean_over sum count ≡ sum / gcd sum count) × (mean_under sum count ≡ count / gcd sum count)
unfolding mean_over mean_under
mean_some sum count e = (
  ap (λ (t : Bool). if t then 0 else sum / gcd sum count) (ne_eqb count 0 e),
  ap (λ (t : Bool). if t then 1 else count / gcd sum count) (ne_eqb count 0 e),
)

module _ (sum count : ℕ) where
  abbrev g : ℕ
  g = gcd sum count

  module _ (least : 1 ≤ count) where
    pub gcd_positive : 0 < g
    gcd_positive = pos_of_dvd_of_pos (gcd_greatest sum count).divides_second (omega arith)

    whole_over : g * mean_over sum count ≡ sum
    whole_over = ap (λ (n : ℕ). g * n) (mean_some sum count (λ e. omega arith)).0 ∙ mul-div_cancel' g (gcd_greatest sum count).divides_first

    whole_under : g * mean_under sum count ≡ count
    whole_under = ap (λ (n : ℕ). g * n) (mean_some sum count (λ e. omega arith)).1 ∙ mul-div_cancel' g (gcd_greatest sum count).divides_second

    -- the fraction is the sum over the count
    pub mean_equals : mean_over sum count * count ≡ sum * mean_under sum count
    mean_equals =
        let over = mean_over sum count in
        let under = mean_under sum count in
        ap (λ (n : ℕ). over * n) (sym whole_under)
        ∙ sym (mul_assoc over g under)
        ∙ ap (λ (n : ℕ). n * under) (mul_comm over g ∙ whole_over)

  -- in lowest terms: no number but 1 divides both
  pub lowest_terms : (d : ℕ) → d ∣ mean_over sum count → d ∣ mean_under sum count → d ≡ 1
  lowest_terms d p q = go (eqb count 0) refl
    where
      go : (t : Bool) → eqb count 0 ≡ t → d ≡ 1
      go true e = eq-one_of_dvd-one (subst (λ (n : ℕ). d ∣ n) (mean_none sum count (eqb-true count 0 e)).1 q)
      go false e =
          let least : 1 ≤ count = omega (arith, eqb-false count 0 e) in
          let over : g * d ∣ sum = subst (λ (n : ℕ). g * d ∣ n) (whole_over least) (mul-dvd-mul_left d g p) in
          let under : g * d ∣ count = subst (λ (n : ℕ). g * d ∣ n) (whole_under least) (mul-dvd-mul_left d g q) in
          eq-one_of_dvd-one
          (dvd_of_mul-dvd-mul_left {k = g} d (gcd_positive least) (subst (λ (n : ℕ). g * d ∣ n) (sym (mul-one g)) ((gcd_greatest sum count).greatest (g * d) over under)))

  -- neither is above what it stands for
  pub over_most : mean_over sum count ≤ sum
  over_most = go (eqb count 0) refl
    where
      go : (t : Bool) → eqb count 0 ≡ t → mean_over sum count ≤ sum
      go true e = omega (arith, (mean_none sum count (eqb-true count 0 e)).0)
      go false e = omega (arith, (mean_some sum count (eqb-false count 0 e)).0, div-le_self sum g)

  pub under_most : mean_under sum count ≤ count + 1
  under_most = go (eqb count 0) refl
    where
      go : (t : Bool) → eqb count 0 ≡ t → mean_under sum count ≤ count + 1
      go true e = omega (arith, (mean_none sum count (eqb-true count 0 e)).1)
      go false e = omega (arith, (mean_some sum count (eqb-false count 0 e)).1, div-le_self count g)
