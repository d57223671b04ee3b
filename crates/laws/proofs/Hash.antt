-- AEZ-hash as a loop meets it: the full blocks of a string, then a short one if there is one; and one string after the other.
use mathlib.Core.Bool.{Bool}
use mathlib.Core.List.{List, [], ◌∷◌}
use mathlib.Core.Logic.{◌≢◌}
use mathlib.Core.Path.{◌≡◌, refl, ap, ap₂, sym, ◌∙◌}
use Prim.Native.Nat.{ℕ, zero, suc, ◌+◌, ◌-◌, ◌*◌, ◌/◌, ◌%◌, min, max}
use native.Mathlib.Omega.{arith}
use borrow.Author.Tests.{eq-eqb, ne_eqb}
use lib.Dec.{eqb}
use lib.ListN.{length, take, drop, length-take, length-drop}
use lib.Seq.{take_all}
use Rattle.std.specs.Prelude.{if◌then◌else◌}
use Rattle.paper.specs.Strings.{Bytes, ◌⊕◌, pad10*, sum}
use Rattle.paper.specs.Section7.{zeros}
use Rattle.paper.specs.Figure6.{row, BlockFunction, block_at, hash_string, hash_from}

-- n bytes whose last block is not full: how many blocks come before it, and that it is not
short_count : (n : ℕ) → (n % 16 ≡ 0 → n ≡ 0) → max 1 ((n + 15) / 16) - 1 ≡ n / 16
short_count n h = go (n % 16) refl
  where
    go : (r : ℕ) → n % 16 ≡ r → max 1 ((n + 15) / 16) - 1 ≡ n / 16
    go zero e = omega (arith, h e)
    go (suc r) e = omega arith

short_last : (n : ℕ) → (n % 16 ≡ 0 → n ≡ 0) → min 16 (n - 16 * (max 1 ((n + 15) / 16) - 1)) ≡ 16 → ⊥
short_last n h f = go (n % 16) refl
  where
    go : (r : ℕ) → n % 16 ≡ r → ⊥
    go zero e = omega (arith, h e)
    go (suc r) e = omega arith

module _ (f : BlockFunction) (i : ℕ) (T : Bytes) where
  abbrev term : ℕ → Bytes
  term j = f (row (2 + i)) j (block_at T j)

  abbrev m : ℕ
  m = max 1 ((length T + 15) / 16)

  -- lines 304 to 306, by the test of line 304
  by_test : (b : Bool) → eqb (length (block_at T m)) 16 ≡ b → hash_string f i T ≡ (if b then sum m term else sum (m - 1) term ⊕ f (row (2 + i)) 0 (pad10* (block_at T m)))
  unfolding hash_string
  by_test b e = ap (λ (b : Bool). if b then sum m term else sum (m - 1) term ⊕ f (row (2 + i)) 0 (pad10* (block_at T m))) e

  -- 304: the last block is full
  pub hash_full : length T ≢ 0 → length T % 16 ≡ 0 → hash_string f i T ≡ sum (length T / 16) term
  hash_full h e =
      let count : m ≡ length T / 16 = omega arith in
      let full : length (block_at T m) ≡ 16 = simp (length-take, length-drop) (omega arith) in
      by_test _ (eq-eqb (length (block_at T m)) 16 full) ∙ ap (λ (n : ℕ). sum n term) count

  -- 305, 306: the last block is short, or the string is empty
  pub hash_short : (length T % 16 ≡ 0 → length T ≡ 0)
      → hash_string f i T ≡ sum (length T / 16) term ⊕ f (row (2 + i)) 0 (pad10* (drop (length T / 16 * 16) T))
  hash_short h =
      let count : m - 1 ≡ length T / 16 = short_count (length T) h in
      let at : 16 * (m - 1) ≡ length T / 16 * 16 = omega (arith, count) in
      let few : length (block_at T m) ≢ 16 = λ e. short_last (length T) h (sym (simp (length-take, length-drop) refl) ∙ e) in
      let all : block_at T m ≡ drop (length T / 16 * 16) T =
      ap (λ (n : ℕ). take 16 (drop n T)) at ∙ take_all 16 (drop (length T / 16 * 16) T) (simp length-drop (omega arith)) in
      by_test _ (ne_eqb (length (block_at T m)) 16 few)
      ∙ ap₂ (λ (n : ℕ) (X : Bytes). sum n term ⊕ f (row (2 + i)) 0 (pad10* X)) count all

-- line 307, one string more
pub hash_more : (f : BlockFunction) (i : ℕ) (T : Bytes) (Ts : List Bytes) → hash_from f i (T ∷ Ts) ≡ hash_string f i T ⊕ hash_from f (i + 1) Ts
unfolding hash_from
hash_more f i T Ts = refl

pub hash_none : (f : BlockFunction) (i : ℕ) → hash_from f i [] ≡ zeros
unfolding hash_from
hash_none f i = refl
