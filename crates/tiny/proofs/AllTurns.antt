-- All the turns of AEZ-tiny on the halves of a string.
use mathlib.Core.List.{List}
use mathlib.Core.Path.{◌≡◌, refl, ap, ◌∙◌}
use Prim.Native.Nat.{ℕ, ◌*◌, ◌≤◌}
use lib.ListN.{length}
use Rattle.paper.specs.Strings.{Bytes, Digits, Block, ◌⊕◌}
use Rattle.paper.specs.Section7.{AES4}
use Rattle.paper.specs.Figure6.{row, BlockFunction}
use Rattle.paper.specs.Figure5.{Halves, halves, joined, tiny_index}
use Rattle.laws.proofs.BlockFunction.{GivesBlocks}
use Rattle.laws.proofs.Counts.{up, down, through, counts_up, counts_down}
use Rattle.laws.proofs.Feistel.{feistel}
use Rattle.halves.specs.HalfBytes.{half_bytes, whole_bytes}
use Rattle.halves.specs.Blocks.{front, packed_both, firsts}
use Rattle.turns.specs.Turns.{block_turn, block_turns_up, block_turns_down}
use Rattle.tiny.specs.OnBytes.{mark}
use Rattle.tiny.proofs.OnHalves.{half_turns}
use Rattle.tiny.proofs.OnBlocks.{block_added, same_turns}

module _ (Ks : List Bytes) (M : Bytes) where
  -- as the turns of a list
  pub up_through : (k : ℕ) (s : Halves) → block_turns_up Ks M k s ≡ through (feistel (block_added Ks M)) (up k) s
  unfolding block_turns_up block_turn
  up_through k s = counts_up (feistel (block_added Ks M)) (block_turns_up Ks M) (λ t. refl) (λ i t. refl) k s

  pub down_through : (k : ℕ) (s : Halves) → block_turns_down Ks M k s ≡ through (feistel (block_added Ks M)) (down k) s
  unfolding block_turns_down block_turn
  down_through k s = counts_down (feistel (block_added Ks M)) (block_turns_down Ks M) (λ t. refl) (λ i t. refl) k s

-- n bytes Y are split into halves, turned and joined: s is the halves, t what the turns make of them, and Z is t's halves joined
module _
    (E : BlockFunction) (E_block : GivesBlocks E) (Δ : Bytes) (Δ-block : Block Δ) (n : ℕ) (few : n ≤ 31)
    (Ks : List Bytes) (under : (X : Bytes) → Block X → AES4 Ks X ≡ E (row 0) (tiny_index (8 * n)) (X ⊕ (Δ ⊕ mark n)))
    {M : Bytes} (bits : M ≡ front n) where
  pub all_turns_lem : (l : List ℕ) {Y Z : Bytes} (s t : Halves) → Digits 8 n Y → s ≡ packed_both (halves (length Y) (half_bytes Y))
      → t ≡ through (feistel (block_added Ks M)) l s → Z ≡ whole_bytes (joined (firsts (length Y) t)) → Z ≡ half_turns E Δ n l Y
  all_turns_lem l {Y} s t p split turns joins =
      joins
      ∙ ap (λ (k : ℕ). whole_bytes (joined (firsts k t))) p.len
      ∙ ap (λ (h : Halves). whole_bytes (joined (firsts n h)))
      (turns
      ∙ ap (λ (N : Bytes). through (feistel (block_added Ks N)) l s) bits
      ∙ ap (through (feistel (block_added Ks (front n))) l) (split ∙ ap (λ (k : ℕ). packed_both (halves k (half_bytes Y))) p.len))
      ∙ ap (λ (h : Halves). whole_bytes (joined h)) (same_turns E E_block Δ Δ-block n (tiny_index (8 * n)) few Ks under l p)
