-- The loop that fills the words of sixteen blocks: what a turn does.
use mathlib.Core.List.{List}
use mathlib.Core.Path.{◌≡◌, ap, sym, subst, ◌∙◌}
use Prim.Native.Nat.{ℕ, ◌+◌, ◌*◌, ◌/◌, ◌%◌, ◌<◌}
use native.Mathlib.Omega.{arith}
use lib.Dec.{lit<}
use lib.ListN.{length, get_or, set}
use Rattle.laws.proofs.Fronts.{Front, front_more}
use Rattle.laws.proofs.Tables.{get_or_tab, length_tab}
use Rattle.laws.proofs.WordBits.{word_of}
use Rattle.planes.specs.Planes.{group_bit, group_words}

-- ---- the words

-- a number of entries that is written in another way
counted : {l r : List ℕ} {n : ℕ} (m : ℕ) → Front l r n → n ≡ m → Front l r m
counted {l} {r} m f e = subst (Front l r) e f

module _ (g : List (List ℕ)) where
  abbrev word : ℕ → ℕ
  word k = word_of 64 (group_bit g (2 * (k / 4) + k % 2) (k / 2 % 2))

  pub length_words : length (group_words g) ≡ 32
  unfolding group_words
  length_words = length_tab 32 word

  -- word 4 i + 2 c + e is of block 2 i + e
  word_at : (k b i c e : ℕ) → k ≡ 4 * i + 2 * c + e → b ≡ 2 * i + e → i < 8 → c < 2 → e < 2
      → word_of 64 (group_bit g b c) ≡ get_or (group_words g) k 0
  unfolding group_words
  word_at k b i c e is_k is_b hi hc he =
      let fours : k / 4 ≡ i = omega arith in
      let ones : k % 2 ≡ e = omega arith in
      let twos : k / 2 ≡ 2 * i + c = omega arith in
      let block : 2 * (k / 4) + k % 2 ≡ b = omega arith in
      let column : (2 * i + c) % 2 ≡ c = omega arith in
      let digit : k / 2 % 2 ≡ c = ap (λ (v : ℕ). v % 2) twos ∙ column in
      sym (get_or_tab 32 k word (omega arith) ∙ (λ t. word_of 64 (group_bit g (block t) (digit t))))

  -- four words, of two blocks
  pub four_words : (r : List ℕ) (i u v x y : ℕ) → i < 8 → Front (group_words g) r (4 * i)
      → u ≡ word_of 64 (group_bit g (2 * i) 0) → v ≡ word_of 64 (group_bit g (2 * i + 1) 0)
      → x ≡ word_of 64 (group_bit g (2 * i) 1) → y ≡ word_of 64 (group_bit g (2 * i + 1) 1)
      → Front (group_words g) (set (set (set (set r (4 * i) u) (4 * i + 1) v) (4 * i + 2) x) (4 * i + 3) y) (4 * (i + 1))
  four_words r i u v x y h f is-u is-v is_x is_y =
      let long = length_words in
      let at-u = word_at (4 * i) (2 * i) i 0 0 (omega arith) (omega arith) h (lit< tt) (lit< tt) in
      let at-v = word_at (4 * i + 1) (2 * i + 1) i 0 1 (omega arith) (omega arith) h (lit< tt) (lit< tt) in
      let at_x = word_at (4 * i + 2) (2 * i) i 1 0 (omega arith) (omega arith) h (lit< tt) (lit< tt) in
      let at_y = word_at (4 * i + 3) (2 * i + 1) i 1 1 (omega arith) (omega arith) h (lit< tt) (lit< tt) in
      let one = front_more u f (omega arith) (is-u ∙ at-u) in
      let two = front_more v one (omega arith) (is-v ∙ at-v) in
      let three = front_more x (counted (4 * i + 2) two (omega arith)) (omega arith) (is_x ∙ at_x) in
      let four = front_more y (counted (4 * i + 3) three (omega arith)) (omega arith) (is_y ∙ at_y) in
      counted (4 * (i + 1)) four (omega arith)
