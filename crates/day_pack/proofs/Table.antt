-- A table of bits: what setting one changes, and the count of those before a number.
use mathlib.Core.Bool.{Bool, true, false}
use mathlib.Core.List.{List}
use mathlib.Core.Path.{◌≡◌, refl, ap, ap₂, sym, ◌∙◌}
use Prim.Native.Nat.{ℕ, zero, suc, ◌+◌, ◌*◌, ◌/◌, ◌%◌, ◌^◌, ◌≤◌, ◌<◌}
use native.Mathlib.Nat.{zero-div}
use native.Mathlib.Numerals.{add-one}
use native.Mathlib.Omega.{arith}
use borrow.Author.Tests.{eqb-true, eqb-false, eq-eqb, ne_eqb, ltb-true, ltb-false}
use lib.Bits.{bit_or, or_shr, or_mod, or_zero_r}
use lib.Dec.{eqb, ltb}
use lib.ListN.{length, get_or, set, replicate, length-set, get_or-replicate}
use lib.Seq.{get_or-set_same, get_or-set_other}
use Rattle.std.specs.Prelude.{if◌then◌else◌}
use Rattle.paper.specs.DayEdits.{count_below}
use Rattle.day_pack.specs.Bits.{bit_of, with_bit, bits_below, Tallied, Counted}

-- ---- A bit of a byte

-- what holds of each place in a byte
eight : (P : ℕ → Type 0) → P 0 → P 1 → P 2 → P 3 → P 4 → P 5 → P 6 → P 7 → (i : ℕ) → i < 8 → P i
eight P a b c d e f g h zero p = a
eight P a b c d e f g h (suc zero) p = b
eight P a b c d e f g h (suc (suc zero)) p = c
eight P a b c d e f g h (suc (suc (suc zero))) p = d
eight P a b c d e f g h (suc (suc (suc (suc zero)))) p = e
eight P a b c d e f g h (suc (suc (suc (suc (suc zero))))) p = f
eight P a b c d e f g h (suc (suc (suc (suc (suc (suc zero)))))) p = g
eight P a b c d e f g h (suc (suc (suc (suc (suc (suc (suc zero))))))) p = h
eight P a b c d e f g h (suc (suc (suc (suc (suc (suc (suc (suc i)))))))) p = absurd (omega arith)

-- each place's weight has one bit
abbrev Own : ℕ → ℕ → Type 0
Own i j = 2 ^ i / 2 ^ j % 2 ≡ (if eqb i j then 1 else 0)

own_bit : (i : ℕ) → i < 8 → (j : ℕ) → j < 8 → Own i j
own_bit =
    eight (λ i. (j : ℕ) → j < 8 → Own i j)
    (eight (Own 0) refl refl refl refl refl refl refl refl)
    (eight (Own 1) refl refl refl refl refl refl refl refl)
    (eight (Own 2) refl refl refl refl refl refl refl refl)
    (eight (Own 3) refl refl refl refl refl refl refl refl)
    (eight (Own 4) refl refl refl refl refl refl refl refl)
    (eight (Own 5) refl refl refl refl refl refl refl refl)
    (eight (Own 6) refl refl refl refl refl refl refl refl)
    (eight (Own 7) refl refl refl refl refl refl refl refl)

or_one : (x : ℕ) → x < 2 → bit_or x 1 ≡ 1
or_one zero p = refl
or_one (suc zero) p = refl
or_one (suc (suc x)) p = absurd (omega arith)

set_bit : (b i j : ℕ) → i < 8 → j < 8 → bit_or b (2 ^ i) / 2 ^ j % 2 ≡ (if eqb i j then 1 else b / 2 ^ j % 2)
set_bit b i j p q =
    ap (λ (x : ℕ). x % 2) (or_shr b (2 ^ i) j)
    ∙ or_mod (b / 2 ^ j) (2 ^ i / 2 ^ j) 1
    ∙ ap (bit_or (b / 2 ^ j % 2)) (own_bit i p j q)
    ∙ go (eqb i j)
  where
    go : (e : Bool) → bit_or (b / 2 ^ j % 2) (if e then 1 else 0) ≡ (if e then 1 else b / 2 ^ j % 2)
    go true = or_one (b / 2 ^ j % 2) (omega arith)
    go false = or_zero_r (b / 2 ^ j % 2)

-- ---- A bit of a table

pub bit_set : (t : List ℕ) (n m : ℕ) → n / 8 < length t → bit_of (with_bit t n) m ≡ (if eqb n m then 1 else bit_of t m)
bit_set t n m p = go (eqb (n / 8) (m / 8)) refl
  where
    old : ℕ
    old = get_or t (n / 8) 0

    new : ℕ
    new = bit_or old (2 ^ (n % 8))

    by_place : (b : Bool) → eqb (n % 8) (m % 8) ≡ b → n / 8 ≡ m / 8 → eqb n m ≡ b
    by_place true e s = eq-eqb n m (omega (arith, eqb-true (n % 8) (m % 8) e, s))
    by_place false e s = ne_eqb n m (λ w. eqb-false (n % 8) (m % 8) e (ap (λ (k : ℕ). k % 8) w))

    go : (b : Bool) → eqb (n / 8) (m / 8) ≡ b → bit_of (with_bit t n) m ≡ (if eqb n m then 1 else bit_of t m)
    go true e =
        let same : n / 8 ≡ m / 8 = eqb-true (n / 8) (m / 8) e in
        ap (λ (k : ℕ). get_or (set t (n / 8) new) k 0 / 2 ^ (m % 8) % 2) (sym same)
        ∙ ap (λ (b : ℕ). b / 2 ^ (m % 8) % 2) (get_or-set_same t (n / 8) new 0 p)
        ∙ set_bit old (n % 8) (m % 8) (omega arith) (omega arith)
        ∙ (λ i. if sym (by_place (eqb (n % 8) (m % 8)) refl same) i then 1 else get_or t (same i) 0 / 2 ^ (m % 8) % 2)
    go false e =
        ap (λ (b : ℕ). b / 2 ^ (m % 8) % 2) (get_or-set_other t (n / 8) (m / 8) new 0 (λ w. eqb-false (n / 8) (m / 8) e (sym w)))
        ∙ ap (λ (b : Bool). if b then 1 else bit_of t m) (sym (ne_eqb n m (λ w. eqb-false (n / 8) (m / 8) e (ap (λ (k : ℕ). k / 8) w))))

pub bits_more : (t : List ℕ) (n : ℕ) → bits_below t n + bit_of t n ≡ bits_below t (n + 1)
unfolding bits_below
bits_more t n = ap (bits_below t) (sym (add-one n))

pub bits_none : (t : List ℕ) → 0 ≡ bits_below t 0
unfolding bits_below
bits_none t = refl

pub bits_below_lem : (t : List ℕ) (n : ℕ) → bits_below t n ≤ n
unfolding bits_below
bits_below_lem t zero = omega arith
bits_below_lem t (suc n) = omega (arith, bits_below_lem t n)

-- a table of zeros
pub bit_none : (n : ℕ) → n < 13104 → bit_of (replicate 1638 0) n ≡ 0
bit_none n p =
    ap (λ (b : ℕ). b / 2 ^ (n % 8) % 2) (get_or-replicate 1638 (n / 8) 0 0 (omega arith)) ∙ ap (λ (b : ℕ). b % 2) (zero-div (2 ^ (n % 8)))

-- where the bits are those of the numbers that pass a test, their count is that of these numbers
pub bits_count : (t : List ℕ) (p : ℕ → Bool) (m : ℕ) → ((k : ℕ) → k < m → bit_of t k ≡ (if p k then 1 else 0)) → (n : ℕ) → n ≤ m → bits_below t n ≡ count_below p n
unfolding bits_below count_below
bits_count t p m h zero q = refl
bits_count t p m h (suc n) q = ap₂ ◌+◌ (bits_count t p m h n (omega arith)) (h n (omega arith))

-- ---- Counts by groups

pub noted_long : (before before' : List ℕ) (n r : ℕ) → before' ≡ (if eqb (n % 64) 0 then set before (n / 64) r else before) → length before' ≡ length before
noted_long before before' n r is = ap length is ∙ go (eqb (n % 64) 0)
  where
    go : (b : Bool) → length (if b then set before (n / 64) r else before) ≡ length before
    go true = length-set before (n / 64) r
    go false = refl

pub tallied_none : (before t : List ℕ) → Tallied before t 0
tallied_none before t k p = absurd (omega arith)

some_left : (m : ℕ) → (m ≡ 0 → ⊥) → 0 < m
some_left zero h = absurd (h refl)
some_left (suc m) h = omega arith

-- one more bit passed: its count is noted where a group starts with it
pub tallied_more : (before before' t : List ℕ) (n r : ℕ) → n / 64 < length before → r ≡ bits_below t n
    → before' ≡ (if eqb (n % 64) 0 then set before (n / 64) r else before) → Tallied before t n → Tallied before' t (n + 1)
tallied_more before before' t n r p e is w k q = go (eqb (n % 64) 0) refl (ltb k (n / 64)) refl
  where
    noted : (b : Bool) → eqb (n % 64) 0 ≡ b → get_or before' k 0 ≡ get_or (if b then set before (n / 64) r else before) k 0
    noted b s = ap (λ (l : List ℕ). get_or l k 0) is ∙ ap (λ (b : Bool). get_or (if b then set before (n / 64) r else before) k 0) s

    go : (a : Bool) → eqb (n % 64) 0 ≡ a → (b : Bool) → ltb k (n / 64) ≡ b → get_or before' k 0 ≡ bits_below t (k * 64)
    go true s true o =
        let less = ltb-true k (n / 64) o in
        noted true s ∙ get_or-set_other before (n / 64) k r 0 (λ h. omega (arith, less, h)) ∙ w k (omega (arith, less))
    go true s false o =
        let own : k ≡ n / 64 = omega (arith, q, ltb-false k (n / 64) o) in
        noted true s
        ∙ ap (λ (j : ℕ). get_or (set before (n / 64) r) j 0) own
        ∙ get_or-set_same before (n / 64) r 0 p
        ∙ e
        ∙ ap (bits_below t) (omega (arith, own, eqb-true (n % 64) 0 s))
    go false s b o = noted false s ∙ w k (omega (arith, q, some_left (n % 64) (eqb-false (n % 64) 0 s)))

-- the group of a bit that was passed
pub tallied_at : (before t : List ℕ) (n m : ℕ) → Tallied before t n → m < n → Counted before t m
tallied_at before t n m w p = w (m / 64) (omega arith)
