-- A row that is stored in a group, word by word, in places four apart: that row slot is then it, and the others are as they were.
use Rattle.std.proofs.Common.{◌≡◌, ℕ, ◌+◌, ◌*◌, ◌<◌, ◌≤◌, List, length, get_or, set, length-set, get_or-set_same, get_or-set_other, below_more, sym, ◌∙◌, arith}
use Rattle.laws.proofs.Tables.{tab_entries}
use Rattle.laws.proofs.WordBits.{tab_same}
use Rattle.sixteen.specs.Groups.{row_of}

-- the first p words of b stand in row slot l of r, whose other slots are those of s
pub record Stored (s b : List ℕ) (l : ℕ) (r : List ℕ) (p : ℕ) : Type 0 where
  pub long : length r ≡ 32
  pub there : (k : ℕ) → k < p → get_or r (4 * k + l) 0 ≡ get_or b k 0
  pub others : (k m : ℕ) → m < 4 → (m ≡ l → ⊥) → get_or r (4 * k + m) 0 ≡ get_or s (4 * k + m) 0

module _ {s b r : List ℕ} {l : ℕ} where
  pub stored_more : {p : ℕ} → Stored s b l r p → l < 4 → p < 8 → Stored s b l (set r (4 * p + l) (get_or b p 0)) (p + 1)
  stored_more {p} h slot below = record {
    long = length-set r (4 * p + l) (get_or b p 0) ∙ h.long;
    there = below_more (λ (k : ℕ). get_or (set r (4 * p + l) (get_or b p 0)) (4 * k + l) 0 ≡ get_or b k 0) p
        (λ k lt. get_or-set_other r (4 * p + l) (4 * k + l) (get_or b p 0) 0 (λ e. omega arith) ∙ h.there k lt)
        (get_or-set_same r (4 * p + l) (get_or b p 0) 0 (omega (arith, h.long)));
    others = λ k m lt other.
        get_or-set_other r (4 * p + l) (4 * k + m) (get_or b p 0) 0
        (λ e.
        let same : m ≡ l = omega arith in
        other same)
        ∙ h.others k m lt other;
  }

  pub stored_row : {p : ℕ} → Stored s b l r p → 8 ≤ p → length b ≡ 8 → row_of r l ≡ b
  stored_row h all eight =
      tab_same 0 8 (λ k. get_or r (4 * k + l) 0) (λ k. get_or b k 0) (λ k lt. h.there k (omega arith)) ∙ sym (tab_entries 8 b eight)

  pub stored_other : {p : ℕ} → Stored s b l r p → (m : ℕ) → m < 4 → (m ≡ l → ⊥) → row_of r m ≡ row_of s m
  stored_other h m lt other = tab_same 0 8 (λ k. get_or r (4 * k + m) 0) (λ k. get_or s (4 * k + m) 0) (λ k below. h.others k m lt other)
