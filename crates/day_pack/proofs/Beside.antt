-- A list that is strictly rising, beside a walk over the records: the next entry tells whether a record is named.
use mathlib.Core.Bool.{Bool, true, false, ◌&&◌, ◌||◌}
use mathlib.Core.List.{List, [], ◌∷◌}
use mathlib.Core.Path.{◌≡◌, refl, ap, sym, ◌∙◌}
use Prim.Native.Nat.{ℕ, suc, ◌+◌, ◌≤◌, ◌<◌}
use native.Mathlib.Numerals.{add-one}
use native.Mathlib.Omega.{arith}
use borrow.Author.Tests.{leb-true, ltb-true, ltb-false, eqb-true, eqb-false, le-leb, lt-leb, lt-ltb, le-ltb, ne_eqb}
use lib.Dec.{eqb, leb, ltb}
use lib.ListN.{length, get_or, drop, drop_of_length-le}
use lib.Seq.{drop-cons}
use Rattle.std.specs.Prelude.{if◌then◌else◌}
use Rattle.paper.specs.DayEdits.{has, rising_from}
use Rattle.laws.proofs.Sealing.{and_true}
use Rattle.day_pack.specs.Kept.{next_is}

from_entry : (l : List ℕ) (i : ℕ) → i < length l → drop i l ≡ get_or l i 0 ∷ drop (i + 1) l
from_entry l i p = drop-cons l i 0 p ∙ ap (λ (k : ℕ). get_or l i 0 ∷ drop k l) (sym (add-one i))

-- ---- The test of the list

module _ (l : List ℕ) (count i low : ℕ) (inside : i < length l) where
  abbrev x : ℕ
  x = get_or l i 0

  rising_by : {a b : Bool} → leb low x ≡ a → ltb x count ≡ b → rising_from low count (drop i l) ≡ (a && b && rising_from (suc x) count (drop (i + 1) l))
  unfolding rising_from
  rising_by p q = ap (rising_from low count) (from_entry l i inside) ∙ (λ j. p j && q j && rising_from (suc x) count (drop (i + 1) l))

  pub rising_low : x < low → false ≡ rising_from low count (drop i l)
  rising_low p = sym (rising_by {b = ltb x count} (lt-leb low x p) refl)

  pub rising_absent : low ≤ x → count ≤ x → false ≡ rising_from low count (drop i l)
  rising_absent p q = sym (rising_by (le-leb low x p) (le-ltb x count q))

  pub rising_turn : low ≤ x → x < count → rising_from low count (drop i l) ≡ rising_from (x + 1) count (drop (i + 1) l)
  rising_turn p q = rising_by (le-leb low x p) (lt-ltb x count q) ∙ ap (λ (k : ℕ). rising_from k count (drop (i + 1) l)) (sym (add-one x))

pub rising_end : (l : List ℕ) (count i low : ℕ) → length l ≤ i → rising_from low count (drop i l) ≡ true
unfolding rising_from
rising_end l count i low p = ap (rising_from low count) (drop_of_length-le l {i = i} p)

-- ---- A walk

-- at record k, the entries from j on are those of k and later ones
pub record Beside (l : List ℕ) (count j k : ℕ) : Type 0 where
  pub rises : rising_from k count (drop j l) ≡ true
  pub later : (m : ℕ) → k ≤ m → has l m ≡ has (drop j l) m

pub beside_first : (l : List ℕ) (count : ℕ) → rising_from 0 count l ≡ true → Beside l count 0 0
beside_first l count e = record { rises = e; later = λ m p. refl }

-- none of a list that rises from above n is n
above : (l : List ℕ) (count low n : ℕ) → n < low → rising_from low count l ≡ true → has l n ≡ false
unfolding has rising_from
above [] count low n p e = refl
above (x ∷ l) count low n p e =
    let a = and_true (leb low x && ltb x count) (rising_from (suc x) count l) e in
    let b = leb-true low x (and_true (leb low x) (ltb x count) a.0).0 in
    (λ i. ne_eqb x n (λ w. omega (arith, w, b, p)) i || above l count (suc x) n (omega (arith, b)) a.1 i)

module _ {l : List ℕ} {count j k : ℕ} (b : Beside l count j k) where
  module _ (inside : j < length l) where
    abbrev head : ℕ
    head = get_or l j 0

    rest_rises : rising_from k count (head ∷ drop (j + 1) l) ≡ true
    rest_rises = ap (rising_from k count) (sym (from_entry l j inside)) ∙ b.rises

    first_test : (leb k head && ltb head count ≡ true) × (rising_from (suc head) count (drop (j + 1) l) ≡ true)
    unfolding rising_from
    first_test = and_true (leb k head && ltb head count) (rising_from (suc head) count (drop (j + 1) l)) rest_rises

    low : k ≤ head
    low = leb-true k head (and_true (leb k head) (ltb head count) first_test.0).0

    has_head : (m : ℕ) → has (drop j l) m ≡ (eqb head m || has (drop (j + 1) l) m)
    unfolding has
    has_head m = ap (λ (t : List ℕ). has t m) (from_entry l j inside)

    at_head : (c : Bool) → eqb head k ≡ c → (has l k ≡ c) × Beside l count (if c then j + 1 else j) (k + 1)
    unfolding rising_from
    at_head true e =
        let is : head ≡ k = eqb-true head k e in (
          b.later k (omega arith) ∙ has_head k ∙ ap (λ (c : Bool). c || has (drop (j + 1) l) k) e,
          record {
            rises = ap (λ (n : ℕ). rising_from n count (drop (j + 1) l)) (add-one k ∙ ap suc (sym is)) ∙ first_test.1;
            later = λ m p. b.later m (omega arith) ∙ has_head m ∙ ap (λ (c : Bool). c || has (drop (j + 1) l) m) (ne_eqb head m (λ w. omega (arith, w, is, p)));
          },
        )
    at_head false e =
        let more : k < head = lt_of (eqb-false head k e) in (
          b.later k (omega arith) ∙ has_head k ∙ (λ i. e i || above (drop (j + 1) l) count (suc head) k (omega (arith, more)) first_test.1 i),
          record {
            rises =
                ap (rising_from (k + 1) count) (from_entry l j inside)
                ∙ (λ i. le-leb (k + 1) head (omega (arith, more)) i && (and_true (leb k head) (ltb head count) first_test.0).1 i && first_test.1 i);
            later = λ m p. b.later m (omega arith);
          },
        )
      where
        lt_of : (head ≡ k → ⊥) → k < head
        lt_of f = omega (arith, low, f)

  at_end : length l ≤ j → (has l k ≡ false) × Beside l count j (k + 1)
  unfolding has
  at_end p =
      let none : drop j l ≡ [] = drop_of_length-le l {i = j} p in (
        b.later k (omega arith) ∙ ap (λ (t : List ℕ). has t k) none,
        record { rises = rising_end l count j (k + 1) p; later = λ m q. b.later m (omega arith) },
      )

  -- the next entry tells whether record k is named, and the walk goes on
  pub beside_next : (has l k ≡ next_is l j k) × Beside l count (if next_is l j k then j + 1 else j) (k + 1)
  beside_next = go (ltb j (length l)) refl
    where
      Turn : Bool → Type 0
      Turn c = (has l k ≡ c) × Beside l count (if c then j + 1 else j) (k + 1)

      go : (c : Bool) → ltb j (length l) ≡ c → Turn (c && eqb (get_or l j 0) k)
      go true e = at_head (ltb-true j (length l) e) (eqb (get_or l j 0) k) refl
      go false e = at_end (ltb-false j (length l) e)
