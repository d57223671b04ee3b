-- The turns of AEZ-tiny on blocks, in the order of Figure 5, whose lines the numbers are: a half of n half-bytes is the block that has them at
-- its front and zeros behind them, as in `halves`. `tiny/proofs/OnBlocks` proves the whole equal to the figure's AEZ-tiny on bits.
use Rattle.std.specs.Prelude.{List, ℕ, zero, suc}
use Rattle.paper.specs.Strings.{Bytes, ◌⊕◌, ◌and◌, number}
use Rattle.paper.specs.Section7.{AES4}
use Rattle.paper.specs.Figure5 as figure5

-- under keys Ks of AES4 that have Δ and the mark in them, and with the bits M of a half
module _ (Ks : List Bytes) (M : Bytes) where
  -- 216: turn i
  unfoldable pub block_turn : ℕ → figure5.Halves → figure5.Halves
  block_turn i s = record { L = s.R; R = s.L ⊕ (AES4 Ks (s.R ⊕ number i) and M) }

  -- 215: turns 0, 1, .. k - 1
  unfoldable pub block_turns_up : ℕ → figure5.Halves → figure5.Halves
  block_turns_up zero s = s
  block_turns_up (suc k) s = block_turn k (block_turns_up k s)

  -- 215 when deciphering: turns k - 1, .. 1, 0
  unfoldable pub block_turns_down : ℕ → figure5.Halves → figure5.Halves
  block_turns_down zero s = s
  block_turns_down (suc k) s = block_turns_down k (block_turn k s)
