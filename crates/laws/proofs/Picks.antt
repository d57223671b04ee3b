-- Entries of a list that are picked by their numbers: how many there are, which number each gets, and which entry each was.
use mathlib.Core.Bool.{Bool, true, false}
use mathlib.Core.List.{List, [], ◌∷◌, ◌++◌}
use mathlib.Core.Option.{some}
use mathlib.Core.Path.{◌≡◌, refl, ap, sym, ◌∙◌}
use Prim.Native.Nat.{ℕ, zero, suc, ◌+◌, ◌≤◌, ◌<◌}
use native.Mathlib.Nat.{add-zero, add-suc, suc-add}
use native.Mathlib.Omega.{arith}
use lib.ListN.{length, get_or, get_elem?}
use Rattle.std.specs.Prelude.{if◌then◌else◌}
use Rattle.paper.specs.DayEdits.{pick_from, count_below}

module _ (p : ℕ → Bool) where
  -- one number more
  pub count_taken : (n : ℕ) → p n ≡ true → count_below p (suc n) ≡ count_below p n + 1
  unfolding count_below
  count_taken n e = ap (λ (b : Bool). count_below p n + (if b then 1 else 0)) e

  pub count_left : (n : ℕ) → p n ≡ false → count_below p (suc n) ≡ count_below p n
  unfolding count_below
  count_left n e = ap (λ (b : Bool). count_below p n + (if b then 1 else 0)) e ∙ add-zero (count_below p n)

  count_next : (n : ℕ) (b : Bool) → p n ≡ b → (count_below p n ≤ count_below p (suc n)) × (count_below p (suc n) ≤ count_below p n + 1)
  count_next n true e = (omega (arith, count_taken n e), omega (arith, count_taken n e))
  count_next n false e = (omega (arith, count_left n e), omega (arith, count_left n e))

  pub count_rises : (m n : ℕ) → count_below p m ≤ count_below p (m + n)
  count_rises m zero = omega (arith, ap (count_below p) (add-zero m))
  count_rises m (suc n) = omega (arith, count_rises m n, ap (count_below p) (add-suc m n), (count_next (m + n) (p (m + n)) refl).0)

  pub count_below_lem : (n : ℕ) → count_below p n ≤ n
  unfolding count_below
  count_below_lem zero = omega arith
  count_below_lem (suc n) = omega (arith, count_below_lem n, (count_next n (p n) refl).1)

  -- where every number below n passes
  pub count_all : (n : ℕ) → ((k : ℕ) → k < n → p k ≡ true) → count_below p n ≡ n
  unfolding count_below
  count_all zero h = refl
  count_all (suc n) h = omega (arith, count_taken n (h n (omega arith)), count_all n (λ k q. h k (omega arith)))

  module _ {A : Type 0} where
    pub pick_taken : (n : ℕ) (x : A) (xs : List A) → p n ≡ true → pick_from p n (x ∷ xs) ≡ x ∷ pick_from p (suc n) xs
    unfolding pick_from
    pick_taken n x xs e = ap (λ (b : Bool). if b then x ∷ pick_from p (suc n) xs else pick_from p (suc n) xs) e

    pub pick_left : (n : ℕ) (x : A) (xs : List A) → p n ≡ false → pick_from p n (x ∷ xs) ≡ pick_from p (suc n) xs
    unfolding pick_from
    pick_left n x xs e = ap (λ (b : Bool). if b then x ∷ pick_from p (suc n) xs else pick_from p (suc n) xs) e

    -- as many are picked as numbers pass
    pub pick_many : (n : ℕ) (xs : List A) → count_below p (n + length xs) ≡ count_below p n + length (pick_from p n xs)
    unfolding pick_from
    pick_many n [] = ap (count_below p) (add-zero n) ∙ sym (add-zero (count_below p n))
    pick_many n (x ∷ xs) = go (p n) refl (ap (count_below p) (add-suc n (length xs) ∙ sym (suc-add n (length xs))) ∙ pick_many (suc n) xs)
      where
        go : (b : Bool) → p n ≡ b → count_below p (n + length (x ∷ xs)) ≡ count_below p (suc n) + length (pick_from p (suc n) xs)
            → count_below p (n + length (x ∷ xs)) ≡ count_below p n + length (pick_from p n (x ∷ xs))
        go true e next = omega (arith, next, count_taken n e, ap length (pick_taken n x xs e))
        go false e next = omega (arith, next, count_left n e, ap length (pick_left n x xs e))

    -- entry k of those from number n on is picked as the one of its new number c
    pub pick_elem : (n : ℕ) (xs : List A) (k c : ℕ) (x : A) → p (n + k) ≡ true → count_below p (n + k) ≡ count_below p n + c → get_elem? xs k ≡ some x → get_elem? (pick_from p n xs) c ≡ some x
    unfolding pick_from
    pick_elem n [] k c x e f g = absurd (let z : ◌≡◌ {A = ℕ} 0 1 = cc in omega arith)
    pick_elem n (y ∷ ys) zero c x e f g =
        let here : n + 0 ≡ n = add-zero n in
        let first : c ≡ 0 = omega (arith, f, ap (count_below p) here) in
        (λ i. get_elem? (pick_taken n y ys (ap p (sym here) ∙ e) i) (first i)) ∙ g
    pick_elem n (y ∷ ys) (suc k) c x e f g =
        let later : n + suc k ≡ suc n + k = add-suc n k ∙ sym (suc-add n k) in
        go (p n) refl c (ap (count_below p) (sym later) ∙ f) (λ c f. pick_elem (suc n) ys k c x (ap p (sym later) ∙ e) f g)
      where
        go : (b : Bool) → p n ≡ b → (c : ℕ) → count_below p (suc n + k) ≡ count_below p n + c
            → ((c : ℕ) → count_below p (suc n + k) ≡ count_below p (suc n) + c → get_elem? (pick_from p (suc n) ys) c ≡ some x)
            → get_elem? (pick_from p n (y ∷ ys)) c ≡ some x
        go true q zero f next = absurd (omega (arith, f, count_taken n q, count_rises (suc n) k))
        go true q (suc c) f next = ap (λ (l : List A). get_elem? l (suc c)) (pick_taken n y ys q) ∙ next c (omega (arith, f, count_taken n q))
        go false q c f next = ap (λ (l : List A). get_elem? l c) (pick_left n y ys q) ∙ next c (omega (arith, f, count_left n q))

    -- and so are two lists' entries by their default
    pub pick_get_or : (n : ℕ) (xs : List A) (k c : ℕ) (d : A) → p (n + k) ≡ true → count_below p (n + k) ≡ count_below p n + c → k < length xs → get_or (pick_from p n xs) c d ≡ get_or xs k d
    pick_get_or n xs k c d e f h = by_elem (pick_from p n xs) c (pick_elem n xs k c (get_or xs k d) e f (elem_get_or xs k h))
      where
        elem_get_or : (l : List A) (k : ℕ) → k < length l → get_elem? l k ≡ some (get_or l k d)
        elem_get_or [] k h = absurd (omega arith)
        elem_get_or (y ∷ l) zero h = refl
        elem_get_or (y ∷ l) (suc k) h = elem_get_or l k (omega arith)

        by_elem : (l : List A) (c : ℕ) {x : A} → get_elem? l c ≡ some x → get_or l c d ≡ x
        by_elem [] c g = absurd (let z : ◌≡◌ {A = ℕ} 0 1 = cc in omega arith)
        by_elem (y ∷ l) zero g = cc
        by_elem (y ∷ l) (suc c) g = by_elem l c g

    -- which number k, counted from n on, entry c of those that are picked had
    pub record Was (n : ℕ) (xs : List A) (c k : ℕ) : Type 0 where
      pub there : k < length xs
      pub passes : p (n + k) ≡ true
      pub counts : count_below p (n + k) ≡ count_below p n + c

    pub pick_was : (n : ℕ) (xs : List A) (c : ℕ) → c < length (pick_from p n xs) → (k : ℕ) × Was n xs c k
    unfolding pick_from
    pick_was n [] c h = absurd (omega arith)
    pick_was n (x ∷ xs) c h = go (p n) refl c h (λ c h. pick_was (suc n) xs c h)
      where
        later : (k : ℕ) → suc n + k ≡ n + suc k
        later k = suc-add n k ∙ sym (add-suc n k)

        go : (b : Bool) → p n ≡ b → (c : ℕ) → c < length (pick_from p n (x ∷ xs)) → ((c : ℕ) → c < length (pick_from p (suc n) xs) → (k : ℕ) × Was (suc n) xs c k)
            → (k : ℕ) × Was n (x ∷ xs) c k
        go true q zero h next =
            (0, record { there = omega arith; passes = ap p (add-zero n) ∙ q; counts = omega (arith, ap (count_below p) (add-zero n)) })
        go true q (suc c) h next =
            let w = next c (omega (arith, h, ap length (pick_taken n x xs q))) in
            let k = w.0 in (
              suc k,
              record {
                there = omega (arith, w.1.there);
                passes = ap p (sym (later k)) ∙ w.1.passes;
                counts = omega (arith, w.1.counts, ap (count_below p) (later k), count_taken n q);
              },
            )
        go false q c h next =
            let w = next c (omega (arith, h, ap length (pick_left n x xs q))) in
            let k = w.0 in (
              suc k,
              record {
                there = omega (arith, w.1.there);
                passes = ap p (sym (later k)) ∙ w.1.passes;
                counts = omega (arith, w.1.counts, ap (count_below p) (later k), count_left n q);
              },
            )

    -- where every number passes, all are picked
    pub pick_all : (n : ℕ) (xs : List A) → ((k : ℕ) → k < length xs → p (n + k) ≡ true) → pick_from p n xs ≡ xs
    unfolding pick_from
    pick_all n [] h = refl
    pick_all n (x ∷ xs) h =
        pick_taken n x xs (ap p (sym (add-zero n)) ∙ h 0 (omega arith))
        ∙ ap (λ (l : List A). x ∷ l) (pick_all (suc n) xs (λ k q. ap p (suc-add n k ∙ sym (add-suc n k)) ∙ h (suc k) (omega arith)))

    -- one entry more at the end
    pub pick_append : (n : ℕ) (xs ys : List A) → pick_from p n (xs ++ ys) ≡ pick_from p n xs ++ pick_from p (n + length xs) ys
    unfolding pick_from
    pick_append n [] ys = ap (λ (m : ℕ). pick_from p m ys) (sym (add-zero n))
    pick_append n (x ∷ xs) ys =
        go (p n) refl
        (pick_append (suc n) xs ys ∙ ap (λ (m : ℕ). pick_from p (suc n) xs ++ pick_from p m ys) (suc-add n (length xs) ∙ sym (add-suc n (length xs))))
      where
        rest : List A
        rest = pick_from p (n + suc (length xs)) ys

        go : (b : Bool) → p n ≡ b → pick_from p (suc n) (xs ++ ys) ≡ pick_from p (suc n) xs ++ rest → pick_from p n (x ∷ (xs ++ ys)) ≡ pick_from p n (x ∷ xs) ++ rest
        go true e next =
            pick_taken n x (xs ++ ys) e
            ∙ ap (λ (l : List A). x ∷ l) next
            ∙ ap (λ (l : List A). l ++ rest) (sym (pick_taken n x xs e))
        go false e next = pick_left n x (xs ++ ys) e ∙ next ∙ ap (λ (l : List A). l ++ rest) (sym (pick_left n x xs e))

-- two tests that agree pick and count the same
pub count_same : (p q : ℕ → Bool) (n : ℕ) → ((k : ℕ) → k < n → p k ≡ q k) → count_below p n ≡ count_below q n
unfolding count_below
count_same p q zero h = refl
count_same p q (suc n) h = λ i. count_same p q n (λ k r. h k (omega arith)) i + (if h n (omega arith) i then 1 else 0)
