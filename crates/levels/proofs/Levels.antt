-- 32 words by their bits: after a level, after the five levels, and turned over.
use mathlib.Core.Bool.{Bool, true, false}
use mathlib.Core.List.{List}
use mathlib.Core.Path.{◌≡◌, refl, ap, fun_ext, ◌∙◌}
use Prim.Native.Nat.{ℕ, ◌+◌, ◌-◌, ◌*◌, ◌/◌, ◌%◌, ◌≤◌, ◌<◌}
use native.Mathlib.Omega.{arith}
use borrow.Author.Tests.{ltb-true, ltb-false}
use lib.Dec.{ltb, eqb}
use lib.ListN.{get_or, get_or-eq_default}
use Rattle.std.specs.Prelude.{if◌then◌else◌}
use Rattle.paper.specs.Fips197.{bit}
use Rattle.laws.proofs.Tables.{get_or_tab, length_tab}
use Rattle.laws.proofs.WordBits.{word_of, known, bit_lt, bit_zero, either_lt, bit_word}
use Rattle.levels.specs.Levels.{bits_of, words_of, leveled_bit, leveled, mask1, mask2, mask4, mask8, mask16, near, far, turned_bit, turned}

-- the bits of 32 words that are known by them
abbrev pub kept : (ℕ → ℕ → ℕ) → ℕ → ℕ → ℕ
kept f i k = if ltb i 32 then known 64 (f i) k else 0

pub bits_kept : (f : ℕ → ℕ → ℕ) → ((i k : ℕ) → f i k < 2) → bits_of (words_of f) ≡ kept f
bits_kept f h = fun_ext (λ i. fun_ext (λ k. go i k (ltb i 32) refl))
  where
    go : (i k : ℕ) (t : Bool) → ltb i 32 ≡ t → bits_of (words_of f) i k ≡ (if t then known 64 (f i) k else 0)
    go i k true e =
        ap (λ (v : ℕ). bit v k) (get_or_tab 32 i (λ i. word_of 64 (f i)) (ltb-true i 32 e)) ∙ bit_word 64 (f i) (h i) k
    go i k false e =
        let past : 32 ≤ i = ltb-false i 32 e in
        let long = length_tab 32 (λ i. word_of 64 (f i)) in
        ap (λ (v : ℕ). bit v k) (get_or-eq_default (words_of f) 0 {n = i} (omega arith)) ∙ bit_zero k

-- ---- one level

module _ (d n m : ℕ) where
  leveled_lt : (f : ℕ → ℕ → ℕ) → ((i k : ℕ) → f i k < 2) → (i k : ℕ) → leveled_bit d n m f i k < 2
  leveled_lt f h i k =
      either_lt (eqb (i / d % 2) 0) (either_lt (ltb k n) (h i k) (either_lt (eqb (bit m (k - n)) 0) (h i k) (h (i + d) (k - n))))
      (either_lt (eqb (bit m k) 0) (h i k) (h (i - d) (n + k)))

  bits_leveled : (w : List ℕ) → bits_of (leveled 32 d n m w) ≡ kept (leveled_bit d n m (bits_of w))
  unfolding leveled
  bits_leveled w = bits_kept (leveled_bit d n m (bits_of w)) (leveled_lt (bits_of w) (λ i k. bit_lt (get_or w i 0) k))

-- ---- the five levels, one after another, turn the words over: computed at each bit of each word

-- the bits after a level
abbrev after : ℕ → ℕ → ℕ → (ℕ → ℕ → ℕ) → ℕ → ℕ → ℕ
after d n m f = kept (leveled_bit d n m f)

-- the words after the last level, by the bits before the last one, two, three and four
abbrev last1 : (ℕ → ℕ → ℕ) → List ℕ
last1 f = words_of (leveled_bit 4 1 mask1 f)

abbrev last2 : (ℕ → ℕ → ℕ) → List ℕ
last2 f = last1 (after 8 2 mask2 f)

abbrev last3 : (ℕ → ℕ → ℕ) → List ℕ
last3 f = last2 (after 16 4 mask4 f)

abbrev last4 : (ℕ → ℕ → ℕ) → List ℕ
last4 f = last3 (after 1 8 mask8 f)

levels_turn : (f : ℕ → ℕ → ℕ) → last4 (after 2 16 mask16 f) ≡ words_of (turned_bit f)
unfolding word_of
levels_turn f = refl

pub five_levels : (w : List ℕ) → far 32 4 (near 32 w) ≡ turned w
unfolding leveled turned
five_levels w =
    let a = leveled 32 2 16 mask16 w in
    let b = leveled 32 1 8 mask8 a in
    let c = leveled 32 16 4 mask4 b in
    ap last1 (bits_leveled 8 2 mask2 c)
    ∙ ap last2 (bits_leveled 16 4 mask4 b)
    ∙ ap last3 (bits_leveled 1 8 mask8 a)
    ∙ ap last4 (bits_leveled 2 16 mask16 w)
    ∙ levels_turn (bits_of w)

pub bits_turned : (w r : List ℕ) → r ≡ turned w → bits_of r ≡ kept (turned_bit (bits_of w))
unfolding turned
bits_turned w r e =
    ap bits_of e
    ∙ bits_kept (turned_bit (bits_of w)) (λ i k. bit_lt (get_or w (4 * (k % 8) + k / 8 % 4) 0) (32 * (k / 32) + 8 * (i % 4) + i / 4))
