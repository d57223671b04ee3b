-- A loop that fills a list r from the front, one store a turn: after i turns its first i entries are those of the list l that is wanted.
use mathlib.Core.List.{List, [], ◌∷◌, ◌++◌, append_assoc, append-nil}
use mathlib.Core.Path.{◌≡◌, ap, ap₂, sym, ◌∙◌}
use Prim.Native.Nat.{ℕ, suc, ◌+◌, ◌-◌, ◌≤◌, ◌<◌}
use native.Mathlib.Numerals.{add-one}
use native.Mathlib.Omega.{arith}
use lib.ListN.{length, take, drop, get_or, set, length-set, length-drop, drop_of_length-le}
use lib.Seq.{set_at, take-suc, take-suc-set, drop-cons, length-take-le, take_all}

-- a store: one entry more of r is as in l
pub take_more : (r l : List ℕ) (i v : ℕ) → i < length r → i < length l → take i r ≡ take i l → v ≡ get_or l i 0 → take (i + 1) (set r i v) ≡ take (i + 1) l
take_more r l i v h g e q =
    ap (λ (n : ℕ). take n (set r i v)) (add-one i)
    ∙ take-suc-set r i v h
    ∙ ap₂ (λ (t : List ℕ) (w : ℕ). t ++ w ∷ []) e q
    ∙ sym (take-suc l i 0 g)
    ∙ ap (λ (n : ℕ). take n l) (sym (add-one i))

-- r has as many entries as l, and its first i are l's
pub record Front (l r : List ℕ) (i : ℕ) : Type 0 where
  pub long : length r ≡ length l
  pub same : take i r ≡ take i l

-- a turn: v is l's entry at i
pub front_more : {l r : List ℕ} {i : ℕ} (v : ℕ) → Front l r i → i < length l → v ≡ get_or l i 0 → Front l (set r i v) (i + 1)
front_more {l} {r} {i} v f h e = record { long = length-set r i v ∙ f.long; same = take_more r l i v (omega (arith, f.long)) h f.same e }

-- after the last turn
pub front_all : {l r : List ℕ} {i : ℕ} → Front l r i → length l ≡ i → r ≡ l
front_all {l} {r} {i} f e = sym (take_all i r (omega (arith, f.long))) ∙ f.same ∙ take_all i l (omega arith)

-- A loop that puts y's entries over s's from the front: one more, v being y's entry at i
pub over_more : (s y r : List ℕ) (i v : ℕ) → i < length s → i < length y → v ≡ get_or y i 0 → r ≡ take i y ++ drop i s
    → set r i v ≡ take (i + 1) y ++ drop (i + 1) s
over_more s y r i v h g is e =
    ap₂ (λ (l : List ℕ) (n : ℕ). set l i n) (e ∙ ap (λ (l : List ℕ). take i y ++ l) (drop-cons s i 0 h)) is
    ∙ set_at (take i y) (get_or s i 0) (drop (suc i) s) (get_or y i 0) i (length-take-le i y (omega arith))
    ∙ sym (append_assoc (take i y) (get_or y i 0 ∷ []) (drop (suc i) s))
    ∙ ap₂ (λ (l : List ℕ) (n : ℕ). l ++ drop n s) (sym (take-suc y i 0 g)) (sym (add-one i))
    ∙ ap (λ (n : ℕ). take n y ++ drop (i + 1) s) (sym (add-one i))

-- a list whose end from a place on was lent, and came back as ys
pub lent_end : (l ys : List ℕ) (at : ℕ) → at ≤ length l → take at l ++ (ys ++ drop (length l - at) (drop at l)) ≡ take at l ++ ys
lent_end l ys at h =
    let none : drop (length l - at) (drop at l) ≡ [] = drop_of_length-le (drop at l) {i = length l - at} (omega (arith, length-drop at l)) in
    ap (λ (u : List ℕ). take at l ++ (ys ++ u)) none ∙ ap (λ (u : List ℕ). take at l ++ u) (append-nil ys)
