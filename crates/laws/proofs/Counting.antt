-- Counting strings: lists in which no entry stands twice, their images under a map that is one to one, and the list of all strings of n
-- bytes, which has 256^n entries. Membership and rearrangement (`List.Memᴰ`, `List.Permᴰ`) are the kit's.
use mathlib.Core.List.Permᴰ
use mathlib.Core.List.{List, [], ◌∷◌, ◌++◌, map, Memᴰ, Permᴰ}
use mathlib.Core.Logic.{◌⊎◌, inl, inr, ⊎_elim}
use mathlib.Core.Path.{◌≡◌, refl, ap, ap₂, sym, subst, ◌∙◌}
use Prim.Native.Nat.{ℕ, zero, suc, ◌*◌, ◌^◌, ◌+◌, ◌≤◌, ◌<◌}
use native.Mathlib.Decide.{dec_le}
use native.Mathlib.Nat.{zero-mul, suc-mul, pow-succ'}
use native.Mathlib.Omega.{arith}
use lib.ListN.{length, length-append, length-map}
use Rattle.paper.specs.Strings.{Bytes, Digits}

-- ---- Lists without repeats

-- no entry stands twice
abbrev pub NoRepeats : List Bytes → Type 0
NoRepeats [] = Unit {0}
NoRepeats (X ∷ l) = (Memᴰ X l → ⊥) × NoRepeats l

-- two of them after each other, where they have no entry in common
pub append_no_repeats : (l m : List Bytes) → NoRepeats l → NoRepeats m → ((X : Bytes) → Memᴰ X l → Memᴰ X m → ⊥) → NoRepeats (l ++ m)
append_no_repeats [] m p q d = q
append_no_repeats (X ∷ l) m p q d = (
  (λ h. ⊎_elim p.0 (d X (mathlib.Core.List.Memᴰ.head refl)) (mathlib.Core.List.Memᴰ.append_cases l h)),
  append_no_repeats l m p.1 q (λ Y a b. d Y (mathlib.Core.List.Memᴰ.tail a) b),
)

-- the image of one under a map that is one to one on it
pub map_no_repeats : (f : Bytes → Bytes) (l : List Bytes) → NoRepeats l
    → ((X Y : Bytes) → Memᴰ X l → Memᴰ Y l → f X ≡ f Y → X ≡ Y) → NoRepeats (map f l)
map_no_repeats f [] p i = tt
map_no_repeats f (X ∷ l) p i = (
  (λ h.
      let o = mathlib.Core.List.Memᴰ.of_map f l h in
      p.0 (mathlib.Core.List.Memᴰ.cast (sym (i o.0 X (mathlib.Core.List.Memᴰ.tail o.1) (mathlib.Core.List.Memᴰ.head refl) o.2)) o.1)),
  map_no_repeats f l p.1 (λ Y Z a b e. i Y Z (mathlib.Core.List.Memᴰ.tail a) (mathlib.Core.List.Memᴰ.tail b) e),
)

-- a list around one of its entries
record Split (X : Bytes) (m : List Bytes) : Type 0 where
  front : List Bytes
  back : List Bytes
  is : m ≡ front ++ (X ∷ back)

split_later : {X : Bytes} (Y : Bytes) (m : List Bytes) → Split X m → Split X (Y ∷ m)
split_later Y m s = record { front = Y ∷ s.front; back = s.back; is = ap (λ (l : List Bytes). Y ∷ l) s.is }

split : {X : Bytes} (m : List Bytes) → Memᴰ X m → Split X m
split [] h = absurd (mathlib.Core.List.Memᴰ.not-nil h)
split (Y ∷ m) h =
    ⊎_elim (λ e. record { front = []; back = m; is = ap (λ (Z : Bytes). Z ∷ m) (sym e) }) (λ t. split_later Y m (split m t)) (mathlib.Core.List.Memᴰ.cases_cons h)

-- without the entry in the middle there is still no repeat, and the entry is gone
without : (X : Bytes) (a b : List Bytes) → NoRepeats (a ++ (X ∷ b)) → NoRepeats (a ++ b) × (Memᴰ X (a ++ b) → ⊥)
without X [] b p = (p.1, p.0)
without X (Y ∷ a) b p =
    let w = without X a b p.1 in (
      (
        (λ h. p.0 (⊎_elim (λ l. mathlib.Core.List.Memᴰ.append_left (X ∷ b) l) (λ r. mathlib.Core.List.Memᴰ.append_right a (mathlib.Core.List.Memᴰ.tail r)) (mathlib.Core.List.Memᴰ.append_cases a h))),
        w.0,
      ),
      (λ h. ⊎_elim (λ e. p.0 (mathlib.Core.List.Memᴰ.append_right a (mathlib.Core.List.Memᴰ.head (sym e)))) w.1 (mathlib.Core.List.Memᴰ.cases_cons h)),
    )

-- two lists without repeats that have the same entries are rearrangements of each other
pub rearranged : (l m : List Bytes) → NoRepeats l → NoRepeats m → ((X : Bytes) → Memᴰ X l → Memᴰ X m) → ((X : Bytes) → Memᴰ X m → Memᴰ X l)
    → Permᴰ l m
rearranged [] [] p q f g = Permᴰ.nil
rearranged [] (Y ∷ m) p q f g = absurd (mathlib.Core.List.Memᴰ.not-nil (g Y (mathlib.Core.List.Memᴰ.head refl)))
rearranged (X ∷ l) m p q f g =
    let s : Split X m = split m (f X (mathlib.Core.List.Memᴰ.head refl)) in
    let a : List Bytes = s.front in
    let b : List Bytes = s.back in
    let w = without X a b (subst NoRepeats s.is q) in
    let there : (Y : Bytes) → Memᴰ Y l → Memᴰ Y (a ++ b) =
    λ Y h.
    ⊎_elim (λ l. mathlib.Core.List.Memᴰ.append_left b l)
    (λ r. ⊎_elim (λ e. absurd (p.0 (mathlib.Core.List.Memᴰ.cast (sym e) h))) (λ t. mathlib.Core.List.Memᴰ.append_right a t) (mathlib.Core.List.Memᴰ.cases_cons r))
    (mathlib.Core.List.Memᴰ.append_cases a (subst (Memᴰ Y) s.is (f Y (mathlib.Core.List.Memᴰ.tail h)))) in
    let here : (Y : Bytes) → Memᴰ Y (a ++ b) → Memᴰ Y l =
    λ Y h.
    let in_m : Memᴰ Y m = subst (Memᴰ Y) (sym s.is) (⊎_elim (λ l. mathlib.Core.List.Memᴰ.append_left (X ∷ b) l) (λ r. mathlib.Core.List.Memᴰ.append_right a (mathlib.Core.List.Memᴰ.tail r)) (mathlib.Core.List.Memᴰ.append_cases a h)) in
    ⊎_elim (λ e. absurd (w.1 (mathlib.Core.List.Memᴰ.cast (sym e) h))) (λ t. t) (mathlib.Core.List.Memᴰ.cases_cons (g Y in_m)) in
    Permᴰ.trans (Permᴰ.cons refl (rearranged l (a ++ b) p.1 w.0 there here))
    (subst (λ (k : List Bytes). Permᴰ (X ∷ (a ++ b)) k) (sym s.is) (Permᴰ.symm (Permᴰ.middle X a b)))

-- ---- All strings of n bytes

-- the strings of l after each of the bytes below b
unfoldable pub after_each : ℕ → List Bytes → List Bytes
after_each zero l = []
after_each (suc b) l = after_each b l ++ map (λ X. b ∷ X) l

-- every string of n bytes
unfoldable pub all_strings : ℕ → List Bytes
all_strings zero = [] ∷ []
all_strings (suc n) = after_each 256 (all_strings n)

after_count_lem : (b : ℕ) (l : List Bytes) → length (after_each b l) ≡ b * length l
unfolding after_each
after_count_lem zero l = sym (zero-mul (length l))
after_count_lem (suc b) l =
    length-append (after_each b l) (map (λ X. b ∷ X) l) ∙ ap₂ ◌+◌ (after_count_lem b l) (length-map l (λ X. b ∷ X)) ∙ sym (suc-mul b (length l))

-- there are 256^n
pub all_count : (n : ℕ) → length (all_strings n) ≡ 256 ^ n
unfolding all_strings
all_count zero = refl
all_count (suc n) = after_count_lem 256 (all_strings n) ∙ ap (λ (k : ℕ). 256 * k) (all_count n) ∙ sym (pow-succ' 256 n)

-- a string by its first byte
record First (b : ℕ) (l : List Bytes) (Y : Bytes) : Type 0 where
  byte : ℕ
  later : Bytes
  low : byte < b
  there : Memᴰ later l
  is : byte ∷ later ≡ Y

after_in : (b x : ℕ) (X : Bytes) (l : List Bytes) → x < b → Memᴰ X l → Memᴰ (x ∷ X) (after_each b l)
unfolding after_each
after_in zero x X l h m = absurd (omega arith)
after_in (suc b) x X l h m = go (dec_le (suc x) b) (λ k. after_in b x X l k m)
  where
    go : Dec (suc x ≤ b) → (suc x ≤ b → Memᴰ (x ∷ X) (after_each b l)) → Memᴰ (x ∷ X) (after_each b l ++ map (λ X. b ∷ X) l)
    go (yes k) before = mathlib.Core.List.Memᴰ.append_left (map (λ X. b ∷ X) l) (before k)
    go (no k) before =
        let e : x ≡ b = omega (arith, k) in
        mathlib.Core.List.Memᴰ.append_right (after_each b l) (mathlib.Core.List.Memᴰ.cast (ap (λ (k : ℕ). k ∷ X) e) (mathlib.Core.List.Memᴰ.map (λ X. b ∷ X) m))

after_out : (b : ℕ) (l : List Bytes) (Y : Bytes) → Memᴰ Y (after_each b l) → First b l Y
unfolding after_each
after_out zero l Y h = absurd (mathlib.Core.List.Memᴰ.not-nil h)
after_out (suc b) l Y h = go (mathlib.Core.List.Memᴰ.append_cases (after_each b l) h) (after_out b l Y)
  where
    go : Memᴰ Y (after_each b l) ⊎ Memᴰ Y (map (λ X. b ∷ X) l) → (Memᴰ Y (after_each b l) → First b l Y) → First (suc b) l Y
    go (inl m) before = let f = before m in record { byte = f.byte; later = f.later; low = omega (arith, f.low); there = f.there; is = f.is }
    go (inr m) before = let o = mathlib.Core.List.Memᴰ.of_map (λ X. b ∷ X) l m in record { byte = b; later = o.0; low = omega arith; there = o.1; is = o.2 }

after_no_repeats : (b : ℕ) (l : List Bytes) → NoRepeats l → NoRepeats (after_each b l)
unfolding after_each
after_no_repeats zero l p = tt
after_no_repeats (suc b) l p =
    append_no_repeats (after_each b l) (map (λ X. b ∷ X) l) (after_no_repeats b l p) (map_no_repeats (λ X. b ∷ X) l p (λ X Y m k e. cc))
    (λ Y m k.
    let f = after_out b l Y m in
    let o = mathlib.Core.List.Memᴰ.of_map (λ X. b ∷ X) l k in
    let both : b ∷ o.0 ≡ f.byte ∷ f.later = o.2 ∙ sym f.is in
    let same : b ≡ f.byte = cc in
    omega (arith, f.low, same))

-- none stands twice
pub all_no_repeats : (n : ℕ) → NoRepeats (all_strings n)
unfolding all_strings
all_no_repeats zero = ((λ h. mathlib.Core.List.Memᴰ.not-nil h), tt)
all_no_repeats (suc n) = after_no_repeats 256 (all_strings n) (all_no_repeats n)

-- each string of n bytes is an entry
pub all_in : (n : ℕ) (X : Bytes) → Digits 8 n X → Memᴰ X (all_strings n)
unfolding all_strings
all_in zero [] p = mathlib.Core.List.Memᴰ.head refl
all_in zero (x ∷ X) p = absurd (omega (arith, p.len))
all_in (suc n) [] p = absurd (omega (arith, p.len))
all_in (suc n) (x ∷ X) p = after_in 256 x X (all_strings n) p.low.0 (all_in n X (record { len = omega (arith, p.len); low = p.low.1 }))

-- and each entry is a string of n bytes
pub all_out : (n : ℕ) (X : Bytes) → Memᴰ X (all_strings n) → Digits 8 n X
unfolding all_strings
all_out zero X h = go (mathlib.Core.List.Memᴰ.cases_cons h)
  where
    go : (X ≡ []) ⊎ Memᴰ X [] → Digits 8 0 X
    go (inl e) = subst (Digits 8 0) (sym e) (record { len = refl; low = tt })
    go (inr m) = absurd (mathlib.Core.List.Memᴰ.not-nil m)
all_out (suc n) X h =
    let f = after_out 256 (all_strings n) X h in
    let d = all_out n f.later f.there in
    subst (Digits 8 (suc n)) f.is (record { len = omega (arith, d.len); low = (f.low, d.low) })
