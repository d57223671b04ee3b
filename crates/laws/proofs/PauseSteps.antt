-- The reading of a pause, step by step: its digits, and each way in which the definition goes on after them.
use mathlib.Core.Bool.{Bool, true, false, ◌&&◌}
use mathlib.Core.List.{[], ◌∷◌, ◌++◌}
use mathlib.Core.Option.{Option, none, some}
use mathlib.Core.Path.{◌≡◌, refl, ap, sym, subst, ◌∙◌}
use Prim.Native.Nat.{ℕ, suc, ◌+◌, ◌-◌, ◌*◌, ◌^◌, ◌≤◌, ◌<◌}
use native.Mathlib.Omega.{arith}
use native.Mathlib.Nat.{mul-one, mul_assoc, mul-le-mul_right, pow-succ'}
use borrow.Author.Tests.{leb-true, le-leb, lt-leb, eq-eqb, ne_eqb}
use lib.Dec.{leb}
use lib.ListN.{length, get_or, take, drop}
use Rattle.std.specs.Prelude.{if◌then◌else◌}
use Rattle.paper.specs.Strings.{Bytes, same}
use Rattle.paper.specs.Pause.{is_digit, digits_first, decimal_after, thousandths, unit_of, times, after_mark, after_whole, read_pause}
use Rattle.laws.proofs.Sealing.{and_true, same_equal}

-- ---- Digits

abbrev pub AllDigits : Bytes → Type 0
AllDigits [] = Unit {0}
AllDigits (b ∷ X) = (is_digit b ≡ true) × AllDigits X

pub digit_bounds : (b : ℕ) → is_digit b ≡ true → (48 ≤ b) × (b ≤ 57)
digit_bounds b p = let q = and_true (leb 48 b) (leb b 57) p in (leb-true 48 b q.0, leb-true b 57 q.1)

pub bounds_digit : (b : ℕ) → 48 ≤ b → b ≤ 57 → is_digit b ≡ true
bounds_digit b p q = λ i. le-leb 48 b p i && le-leb b 57 q i

pub below_digits : (b : ℕ) → b < 48 → is_digit b ≡ false
below_digits b p = ap (λ (a : Bool). a && leb b 57) (lt-leb 48 b p)

pub above_digits : (b : ℕ) → 57 < b → is_digit b ≡ false
above_digits b p = λ i. le-leb 48 b (omega arith) i && lt-leb b 57 p i

-- one digit more, or none
pub digits_more : (b : ℕ) (X : Bytes) → is_digit b ≡ true → digits_first (b ∷ X) ≡ suc (digits_first X)
unfolding digits_first
digits_more b X p = ap (λ (t : Bool). if t then suc (digits_first X) else 0) p

pub digits_end : (b : ℕ) (X : Bytes) → is_digit b ≡ false → digits_first (b ∷ X) ≡ 0
unfolding digits_first
digits_end b X p = ap (λ (t : Bool). if t then suc (digits_first X) else 0) p

pub no_digits : digits_first [] ≡ 0
unfolding digits_first
no_digits = refl

-- the digits that a text starts with are digits, and lie in it
pub digits_front : (X : Bytes) → AllDigits (take (digits_first X) X)
unfolding digits_first
digits_front [] = tt
digits_front (b ∷ X) = go (is_digit b) refl (digits_front X)
  where
    go : (t : Bool) → is_digit b ≡ t → AllDigits (take (digits_first X) X) → AllDigits (take (if t then suc (digits_first X) else 0) (b ∷ X))
    go true p r = (p, r)
    go false p r = tt

pub digits_within : (X : Bytes) → digits_first X ≤ length X
unfolding digits_first
digits_within [] = omega arith
digits_within (b ∷ X) = go (is_digit b) (digits_within X)
  where
    go : (t : Bool) → digits_first X ≤ length X → (if t then suc (digits_first X) else 0) ≤ length (b ∷ X)
    go true r = omega arith
    go false r = omega arith

-- digits, and then what starts with none
pub digits_then : (X Y : Bytes) → AllDigits X → digits_first Y ≡ 0 → digits_first (X ++ Y) ≡ length X
digits_then [] Y p q = q
digits_then (b ∷ X) Y p q = digits_more b (X ++ Y) p.0 ∙ ap suc (digits_then X Y p.1 q)

-- ---- The number of digits

pub decimal_append : (n : ℕ) (X Y : Bytes) → decimal_after n (X ++ Y) ≡ decimal_after (decimal_after n X) Y
unfolding decimal_after
decimal_append n [] Y = refl
decimal_append n (d ∷ X) Y = decimal_append (n * 10 + (d - 48)) X Y

pub decimal_one : (n d : ℕ) → decimal_after n (d ∷ []) ≡ n * 10 + (d - 48)
unfolding decimal_after
decimal_one n d = refl

pub decimal_none : (n : ℕ) → decimal_after n [] ≡ n
unfolding decimal_after
decimal_none n = refl

-- a number of k digits after n is below (n + 1) · 10^k
pub decimal_below : (n : ℕ) (X : Bytes) → AllDigits X → decimal_after n X < (n + 1) * 10 ^ length X
unfolding decimal_after
decimal_below n [] p = subst (λ (m : ℕ). n < m) (sym (mul-one (n + 1))) (omega arith)
decimal_below n (d ∷ X) p =
    let b = digit_bounds d p.0 in
    let m : ℕ = n * 10 + (d - 48) in
    let more : (m + 1) * 10 ^ length X ≤ ((n + 1) * 10) * 10 ^ length X = mul-le-mul_right (10 ^ length X) (omega arith) in
    let same : ((n + 1) * 10) * 10 ^ length X ≡ (n + 1) * 10 ^ suc (length X) = mul_assoc (n + 1) 10 (10 ^ length X) ∙ ap (λ (k : ℕ). (n + 1) * k) (sym (pow-succ' 10 (length X))) in
    omega (arith, decimal_below m X p.1, more, same)

-- ---- How the definition goes on

-- by the digits that a text starts with
module _ (mark : ℕ) (text : Bytes) (n : ℕ) (e : n ≡ digits_first text) where
  abbrev from_whole : ℕ → Bool → Option ℕ
  from_whole k t = if t then after_whole mark (take k text) (drop k text) else none

  by_whole : (a b : Bool) → leb 1 n ≡ a → leb n 9 ≡ b → read_pause mark text ≡ from_whole n (a && b)
  unfolding read_pause
  by_whole a b p q = ap (λ (k : ℕ). from_whole k (leb 1 k && leb k 9)) (sym e) ∙ (λ i. from_whole n (p i && q i))

  pub whole_reads : 1 ≤ n → n ≤ 9 → read_pause mark text ≡ after_whole mark (take n text) (drop n text)
  whole_reads p q = by_whole true true (le-leb 1 n p) (le-leb n 9 q)

  pub no_whole : n < 1 → read_pause mark text ≡ none
  no_whole p = by_whole false (leb n 9) (lt-leb 1 n p) refl

  pub long_whole : 9 < n → read_pause mark text ≡ none
  long_whole p = by_whole true false (le-leb 1 n (omega arith)) (lt-leb n 9 p)

-- by the byte after them
module _ (mark : ℕ) (whole X : Bytes) where
  abbrev from_mark : Bool → Option ℕ
  from_mark t = if t then after_mark whole (drop 1 X) else times (thousandths whole []) (unit_of X)

  pub marked : get_or X 0 0 ≡ mark → after_whole mark whole X ≡ after_mark whole (drop 1 X)
  unfolding after_whole
  marked e = ap from_mark (eq-eqb (get_or X 0 0) mark e)

  pub unmarked : (get_or X 0 0 ≡ mark → ⊥) → after_whole mark whole X ≡ times (thousandths whole []) (unit_of X)
  unfolding after_whole
  unmarked e = ap from_mark (ne_eqb (get_or X 0 0) mark e)

-- by the digits after the mark
module _ (whole X : Bytes) (n : ℕ) (e : n ≡ digits_first X) where
  abbrev from_fraction : ℕ → Bool → Option ℕ
  from_fraction k t = if t then times (thousandths whole (take k X)) (unit_of (drop k X)) else none

  by_fraction : (a b : Bool) → leb 1 n ≡ a → leb n 3 ≡ b → after_mark whole X ≡ from_fraction n (a && b)
  unfolding after_mark
  by_fraction a b p q = ap (λ (k : ℕ). from_fraction k (leb 1 k && leb k 3)) (sym e) ∙ (λ i. from_fraction n (p i && q i))

  pub fraction_reads : 1 ≤ n → n ≤ 3 → after_mark whole X ≡ times (thousandths whole (take n X)) (unit_of (drop n X))
  fraction_reads p q = by_fraction true true (le-leb 1 n p) (le-leb n 3 q)

  pub no_fraction : n < 1 → after_mark whole X ≡ none
  no_fraction p = by_fraction false (leb n 3) (lt-leb 1 n p) refl

  pub long_fraction : 3 < n → after_mark whole X ≡ none
  long_fraction p = by_fraction true false (le-leb 1 n (omega arith)) (lt-leb n 3 p)

-- ---- The unit

-- a space and then ms or s, and nothing else
pub data Unit_is (X : Bytes) : Type 0 where
  is_ms : X ≡ 0x20 ∷ 0x6d ∷ 0x73 ∷ [] → unit_of X ≡ some 1 → Unit_is X
  is_s : X ≡ 0x20 ∷ 0x73 ∷ [] → unit_of X ≡ some 1000 → Unit_is X
  is_neither : unit_of X ≡ none → Unit_is X

-- by the two tests
pub unit_by : (X : Bytes) (a b : Bool) → same X (0x20 ∷ 0x6d ∷ 0x73 ∷ []) ≡ a → same X (0x20 ∷ 0x73 ∷ []) ≡ b
    → unit_of X ≡ (if a then some 1 else if b then some 1000 else none)
unfolding unit_of
unit_by X a b p q = λ i. if p i then some 1 else if q i then some 1000 else none

pub unit_is : (X : Bytes) → Unit_is X
unit_is X = go (same X (0x20 ∷ 0x6d ∷ 0x73 ∷ [])) refl (same X (0x20 ∷ 0x73 ∷ [])) refl
  where
    go : (a : Bool) → same X (0x20 ∷ 0x6d ∷ 0x73 ∷ []) ≡ a → (b : Bool) → same X (0x20 ∷ 0x73 ∷ []) ≡ b → Unit_is X
    go true p b q = is_ms (same_equal X (0x20 ∷ 0x6d ∷ 0x73 ∷ []) p) (unit_by X true b p q)
    go false p true q = is_s (same_equal X (0x20 ∷ 0x73 ∷ []) q) (unit_by X false true p q)
    go false p false q = is_neither (unit_by X false false p q)

-- what does not start with a space has no unit
pub no_unit : (X : Bytes) → (get_or X 0 0 ≡ 0x20 → ⊥) → unit_of X ≡ none
no_unit X p = go (unit_is X)
  where
    go : Unit_is X → unit_of X ≡ none
    go (is_ms e u) = absurd (p (ap (λ (l : Bytes). get_or l 0 0) e))
    go (is_s e u) = absurd (p (ap (λ (l : Bytes). get_or l 0 0) e))
    go (is_neither u) = u
