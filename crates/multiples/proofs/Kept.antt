-- Eight blocks one after the other, 0·X to 7·X as columns: what stands at each place.
use mathlib.Core.List.{List, [], ◌∷◌, ◌++◌, append-nil}
use mathlib.Core.Path.{◌≡◌, refl, ap, sym, ◌∙◌}
use Prim.Native.Nat.{ℕ, ◌+◌, ◌-◌, ◌*◌, ◌<◌, ◌≤◌}
use native.Mathlib.Nat.{add-zero}
use native.Mathlib.Omega.{arith}
use lib.ListN.{length, take, drop, get_or, length-drop}
use lib.Seq.{length-take-le, get_or-take, get_or-drop}
use Rattle.paper.specs.Strings.{Bytes, join}
use Rattle.paper.specs.Section7.{◌·◌}
use Rattle.laws.proofs.Joins.{join_at}
use Rattle.laws.proofs.Tables.{tab_entries}
use Rattle.columns.specs.Columns.{columns_of}
use Rattle.multiples.specs.Eight.{multiples, four_at}

-- the multiples, counted from 1 as a join counts
abbrev times : Bytes → ℕ → List ℕ
times X n = columns_of ((n - 1) · X)

-- four numbers of a list, one by one
four_at_lem : (m : List ℕ) (k : ℕ) → k + 4 ≤ length m → four_at m k ≡ take 4 (drop k m)
four_at_lem m k h =
    sym (tab_entries 4 (take 4 (drop k m)) (length-take-le 4 (drop k m) (omega (arith, length-drop k m)))
    ∙ (λ i. (at 0 (omega arith) ∙ ap (λ (n : ℕ). get_or m n 0) (add-zero k)) i ∷ at 1 (omega arith) i ∷ at 2 (omega arith) i ∷ at 3 (omega arith) i ∷ []))
  where
    at : (j : ℕ) → j < 4 → get_or (take 4 (drop k m)) j 0 ≡ get_or m (k + j) 0
    at j g = rw (get_or-take, get_or-drop)

-- a kept multiple is read
pub kept : (X : Bytes) (m : List ℕ) → m ≡ multiples X → (n : ℕ) → n < 8 → four_at m (4 * n) ≡ columns_of (n · X)
unfolding multiples join
kept X m e n h =
    let is : n + 1 - 1 ≡ n = omega arith in
    let long : length m ≡ 32 = ap length e in
    four_at_lem m (4 * n) (omega (arith, long))
    ∙ ap (λ (l : List ℕ). take 4 (drop (4 * n) l)) (e ∙ sym (append-nil (join 8 (times X))))
    ∙ ap (λ (k : ℕ). take 4 (drop (4 * k) (join 8 (times X) ++ []))) (sym is)
    ∙ join_at 4 8 (n + 1) (times X) [] (λ i a b. refl) (omega arith) (omega arith)
    ∙ ap (λ (k : ℕ). columns_of (k · X)) is
