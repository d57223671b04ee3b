-- Lists by their entries: the entry at k of a table is f k, and a list is the table of its entries.
use mathlib.Core.List.{List, [], ◌∷◌}
use mathlib.Core.Path.{◌≡◌, refl, ap, ap₂, sym, subst, ◌∙◌}
use Prim.Native.Nat.{ℕ, zero, suc, ◌+◌, ◌<◌}
use native.Mathlib.Nat.{add-zero, zero-add, add-suc, suc-add, le_of_suc-le-suc, not-suc-le-zero}
use native.Mathlib.Omega.{arith}
use lib.ListN.{length, get_or}
use Rattle.paper.specs.Strings.{tab_from, tab}

get_or_tab_from : (i n k : ℕ) (f : ℕ → ℕ) → k < n → get_or (tab_from i n f) k 0 ≡ f (i + k)
get_or_tab_from i zero k f h = absurd (not-suc-le-zero h)
get_or_tab_from i (suc n) zero f h = ap f (sym (add-zero i))
get_or_tab_from i (suc n) (suc k) f h = get_or_tab_from (suc i) n k f (le_of_suc-le-suc h) ∙ ap f (suc-add i k ∙ sym (add-suc i k))

pub get_or_tab : (n k : ℕ) (f : ℕ → ℕ) → k < n → get_or (tab n f) k 0 ≡ f k
get_or_tab n k f h = get_or_tab_from 0 n k f h ∙ ap f (zero-add k)

length_tab_from : (i n : ℕ) (f : ℕ → ℕ) → length (tab_from i n f) ≡ n
length_tab_from i zero f = refl
length_tab_from i (suc n) f = ap suc (length_tab_from (suc i) n f)

pub length_tab : (n : ℕ) (f : ℕ → ℕ) → length (tab n f) ≡ n
length_tab n f = length_tab_from 0 n f

-- the entries of l, from i on, by any function that gives them
entries : (i : ℕ) (f : ℕ → ℕ) (l : List ℕ) → ((k : ℕ) → f (i + k) ≡ get_or l k 0) → l ≡ tab_from i (length l) f
entries i f [] h = refl
entries i f (x ∷ l) h =
    ap₂ (λ (y : ℕ) (t : List ℕ). y ∷ t) (sym (h 0) ∙ ap f (add-zero i))
    (entries (suc i) f l (λ k. ap f (suc-add i k ∙ sym (add-suc i k)) ∙ h (suc k)))

pub tab_entries : (n : ℕ) (l : List ℕ) → length l ≡ n → l ≡ tab n (λ i. get_or l i 0)
tab_entries n l e =
    subst (λ (m : ℕ). l ≡ tab m (λ i. get_or l i 0)) e
    (entries 0 (λ i. get_or l i 0) l (λ k. ap (λ (j : ℕ). get_or l j 0) (zero-add k)))

-- a list of no entries
pub no_entries : (l : List ℕ) → length l ≡ 0 → l ≡ []
no_entries [] e = refl
no_entries (x ∷ l) e = absurd (omega arith)
