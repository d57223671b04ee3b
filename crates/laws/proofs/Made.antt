-- Arrays that are made entry by entry: by `array::from_fn`, and by a loop.
use Rattle.std.proofs.Common.{◌≡◌, ℕ, zero, suc, ◌+◌, ◌<◌, ◌≤◌, List, map, length, get_or, set, length-set, ap, sym, ◌∙◌, arith}
use Rattle.std.specs.List.{range_with_len}
use Rattle.std.proofs.lemmas.List.Edits.{fill_by_more}
use Rattle.std.proofs.lemmas.List.FromFn.{fill_by_all}
use denote.Param.Members.{Mut, Called}
use Rattle.std.specs.Array.{IsFromFnResult, IsFromFnResultFrom}
use Rattle.paper.specs.Strings.{tab}
use Rattle.laws.proofs.Tables.{tab_entries}
use Rattle.laws.proofs.WordBits.{tab_same}

-- ---- `from_fn`, where each call keeps what is known of the closure and gives f of its index

module _ {F B : Type 0} {g : Mut F (ℕ × Unit {0}) B} {n : ℕ} (K : F → Type 0) (f : ℕ → B)
    (call : (s t : F) (i : ℕ) (y : B) → i < n → K s → Called g s (i, tt) y t → K t × (y ≡ f i)) where
  made_from : (s : F) (ys : List B) (i m k j : ℕ) (d : B) → i + m ≤ n → K s → IsFromFnResultFrom g s ys i m → k < m → i + k ≡ j → get_or ys j d ≡ f j
  made_from s ys i zero k j d le known r h e = absurd (omega arith)
  made_from s ys i (suc m) zero j d le known r h e =
      let here : i ≡ j = omega arith in
      ap (λ (v : ℕ). get_or ys v d) (sym here) ∙ r.2.1 d ∙ (call s r.0 i r.1 (omega arith) known r.3).1 ∙ ap f here
  made_from s ys i (suc m) (suc k) j d le known r h e =
      made_from r.0 ys (i + 1) m k j d (omega arith) (call s r.0 i r.1 (omega arith) known r.3).0 r.4 (omega arith) (omega arith)

  pub made : {s : F} {ys : List B} → K s → IsFromFnResult g s ys n → (k : ℕ) (d : B) → k < n → get_or ys k d ≡ f k
  made {s} {ys} known r k d h = made_from s ys 0 n k k d (omega arith) known r.each h (omega arith)

-- an array of numbers is the table of them
module _ {F : Type 0} {g : Mut F (ℕ × Unit {0}) ℕ} {n : ℕ} (K : F → Type 0) (f : ℕ → ℕ)
    (call : (s t : F) (i : ℕ) (y : ℕ) → i < n → K s → Called g s (i, tt) y t → K t × (y ≡ f i)) where
  pub made_tab : {s : F} {ys : List ℕ} → K s → IsFromFnResult g s ys n → ys ≡ tab n f
  made_tab {s} {ys} known r =
      tab_entries n ys r.long ∙ tab_same 0 n (λ k. get_or ys k 0) f (λ k h. made K f call known r k 0 (omega arith))

-- ---- a loop that writes f k to each place k

-- the first i of n entries are f's
pub record Filled {X : Type 0} (n : ℕ) (d : X) (f : ℕ → X) (r : List X) (i : ℕ) : Type 0 where
  pub long : length r ≡ n
  pub there : (k : ℕ) → k < i → get_or r k d ≡ f k

module _ {X : Type 0} {n : ℕ} {d : X} {f : ℕ → X} {r : List X} where
  pub filled_none : length r ≡ n → Filled n d f r 0
  filled_none long = record { long = long; there = λ k h. absurd (omega arith) }

  pub filled_more : {i : ℕ} (x : X) → Filled n d f r i → i < n → x ≡ f i → Filled n d f (set r i x) (i + 1)
  filled_more {i} x p h e = record {
    long = length-set r i x ∙ p.long;
    there = λ k b. ap (λ (v : X). get_or (set r i v) k d) e ∙ fill_by_more f r i d (omega (arith, p.long)) p.there k b;
  }

  pub filled_all : {i : ℕ} → Filled n d f r i → n ≤ i → r ≡ map f (range_with_len 0 n)
  filled_all {i} p le = fill_by_all f r n d p.long (λ k h. p.there k (omega arith))
