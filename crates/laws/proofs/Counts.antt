-- A step made for each number of a list, in the list's order, and the two orders of a count: up and down.
-- One law each for what every step keeps, for a map that every step commutes with, and for the other order, which undoes.
use mathlib.Core.List.{List, [], ◌∷◌, ◌++◌, foldl, foldl-append, reverse, reverse-cons, reverse-reverse}
use mathlib.Core.Path.{◌≡◌, refl, ap, sym, ◌∙◌}
use Prim.Native.Nat.{ℕ, zero, suc}

-- 0, 1, .. k - 1
unfoldable pub up : ℕ → List ℕ
up zero = []
up (suc k) = up k ++ k ∷ []

-- k - 1, .. 1, 0
unfoldable pub down : ℕ → List ℕ
down zero = []
down (suc k) = k ∷ down k

pub reverse_down : (k : ℕ) → reverse (down k) ≡ up k
unfolding up down
reverse_down zero = refl
reverse_down (suc k) = reverse-cons k (down k) ∙ ap (λ (l : List ℕ). l ++ k ∷ []) (reverse_down k)

pub reverse_up : (k : ℕ) → reverse (up k) ≡ down k
reverse_up k = sym (ap reverse (reverse_down k)) ∙ reverse-reverse (down k)

module _ {S : Type 0} (step : ℕ → S → S) where
  -- s after the steps of a list
  unfoldable pub through : List ℕ → S → S
  through l s = foldl (λ t i. step i t) s l

module _ {S : Type 0} (step : ℕ → S → S) where
  -- a function that counts up, by its two equations
  pub counts_up : (g : ℕ → S → S) → ((s : S) → g 0 s ≡ s) → ((k : ℕ) (s : S) → g (suc k) s ≡ step k (g k s)) → (k : ℕ) (s : S) → g k s ≡ through step (up k) s
  unfolding through up
  counts_up g none more zero s = none s
  counts_up g none more (suc k) s = more k s ∙ ap (step k) (counts_up g none more k s) ∙ sym (foldl-append (λ t i. step i t) s (up k) (k ∷ []))

  -- and one that counts down
  pub counts_down : (g : ℕ → S → S) → ((s : S) → g 0 s ≡ s) → ((k : ℕ) (s : S) → g (suc k) s ≡ g k (step k s)) → (k : ℕ) (s : S) → g k s ≡ through step (down k) s
  unfolding through down
  counts_down g none more zero s = none s
  counts_down g none more (suc k) s = more k s ∙ counts_down g none more k (step k s)

-- what is good before a step is good after it
module _ {S : Type 0} (step : ℕ → S → S) (Good : S → Type 0) (kept : (i : ℕ) (s : S) → Good s → Good (step i s)) where
  pub keep : (l : List ℕ) (s : S) → Good s → Good (through step l s)
  unfolding through
  keep [] s g = g
  keep (i ∷ l) s g = keep l (step i s) (kept i s g)

  -- a step that is undone by itself, once its result is exchanged: all are undone in the other order
  pub undo : (exchanged : S → S) → ((i : ℕ) (s : S) → Good s → step i (exchanged (step i s)) ≡ exchanged s)
      → (l : List ℕ) (s : S) → Good s → through step (reverse l) (exchanged (through step l s)) ≡ exchanged s
  unfolding through
  undo exchanged self [] s g = refl
  undo exchanged self (i ∷ l) s g =
      ap (λ (m : List ℕ). through step m (exchanged (through step l (step i s)))) (reverse-cons i l)
      ∙ foldl-append (λ t k. step k t) (exchanged (through step l (step i s))) (reverse l) (i ∷ [])
      ∙ ap (step i) (undo exchanged self l (step i s) (kept i s g))
      ∙ self i s g

  -- a map f to states of another kind
  pub commute : {T : Type 0} (step' : ℕ → T → T) (f : S → T) → ((i : ℕ) (s : S) → Good s → step' i (f s) ≡ f (step i s))
      → (l : List ℕ) (s : S) → Good s → through step' l (f s) ≡ f (through step l s)
  unfolding through
  commute step' f same [] s g = refl
  commute step' f same (i ∷ l) s g = ap (through step' l) (same i s g) ∙ commute step' f same l (step i s) (kept i s g)
