-- The turns on blocks as loops count them; and the number of a turn as a column.
use mathlib.Core.List.{List, [], ◌∷◌}
use mathlib.Core.Path.{◌≡◌, refl, ap, sym, ◌∙◌}
use Prim.Native.Nat.{ℕ, zero, suc, ◌+◌, ◌-◌, ◌/◌, ◌%◌, ◌<◌}
use native.Mathlib.Numerals.{add-one}
use native.Mathlib.Omega.{arith}
use Rattle.paper.specs.Strings.{Bytes, number}
use Rattle.paper.specs.Figure5.{Halves}
use Rattle.laws.proofs.BitStrings.{number_64}
use Rattle.columns.specs.Columns.{row0, row1, row2, row3, block_of}
use Rattle.turns.specs.Turns.{block_turn, block_turns_up, block_turns_down}

-- the number of a turn is in the last column
pub number_column : (i : ℕ) → i < 4294967296 → block_of (0 ∷ 0 ∷ 0 ∷ i ∷ []) ≡ number i
number_column i h =
    let a : 0 ≡ i / 72057594037927936 % 256 = omega arith in
    let b : 0 ≡ i / 281474976710656 % 256 = omega arith in
    let c : 0 ≡ i / 1099511627776 % 256 = omega arith in
    let d : 0 ≡ i / 4294967296 % 256 = omega arith in
    (λ t. 0 ∷ 0 ∷ 0 ∷ 0 ∷ 0 ∷ 0 ∷ 0 ∷ 0 ∷ a t ∷ b t ∷ c t ∷ d t ∷ row0 i ∷ row1 i ∷ row2 i ∷ row3 i ∷ [])
    ∙ sym (number_64 i (omega arith))

module _ (Ks : List Bytes) (M : Bytes) where
  -- t is s after the turns below k, and u is t after turn k
  pub up_none : (s : Halves) → s ≡ block_turns_up Ks M 0 s
  unfolding block_turns_up
  up_none s = refl

  pub up_more : (k : ℕ) (s t u : Halves) → t ≡ block_turns_up Ks M k s → u ≡ block_turn Ks M k t → u ≡ block_turns_up Ks M (k + 1) s
  unfolding block_turns_up
  up_more k s t u e d = d ∙ ap (block_turn Ks M k) e ∙ ap (λ (i : ℕ). block_turns_up Ks M i s) (sym (add-one k))

  -- the turns below k make w of t, and u is t after turn k - 1
  pub down_more : (k : ℕ) (t u w : Halves) → 0 < k → block_turns_down Ks M k t ≡ w → u ≡ block_turn Ks M (k - 1) t → block_turns_down Ks M (k - 1) u ≡ w
  unfolding block_turns_down
  down_more zero t u w h e d = absurd (omega arith)
  down_more (suc k) t u w h e d =
      let less : suc k - 1 ≡ k = omega arith in
      ap (block_turns_down Ks M (suc k - 1)) d ∙ ap (λ (i : ℕ). block_turns_down Ks M i (block_turn Ks M i t)) less ∙ e

  pub down_none : (t w : Halves) → block_turns_down Ks M 0 t ≡ w → t ≡ w
  unfolding block_turns_down
  down_none t w e = e
