-- The turns on blocks, in any order, are those on half-bytes: AES4 under keys that have Δ and the mark in them is E of the turn.
use mathlib.Core.List.{List}
use mathlib.Core.Path.{◌≡◌, ap, ap₂, sym, ◌∙◌}
use Prim.Native.Nat.{ℕ, ◌≤◌}
use native.Mathlib.Omega.{arith}
use Rattle.paper.specs.Strings.{Bytes, Digits, Block, ◌⊕◌, ◌and◌, number}
use Rattle.paper.specs.Section7.{AES4}
use Rattle.paper.specs.Figure6.{row, BlockFunction}
use Rattle.paper.specs.Figure5.{Halves, halves}
use Rattle.laws.proofs.BlockFunction.{GivesBlocks}
use Rattle.laws.proofs.Counts.{through, keep, commute}
use Rattle.laws.proofs.Digits.{⊕_digits, ⊕_block, take_digits, drop_digits, as_digits}
use Rattle.laws.proofs.Feistel.{RoundFunction, feistel}
use Rattle.laws.proofs.KeyBlocks.{number_block}
use Rattle.laws.proofs.Strings.{⊕_assoc, ⊕_comm, ⊕_left_comm}
use Rattle.halves.specs.HalfBytes.{half_bytes}
use Rattle.halves.specs.Blocks.{packed, front, packed_both, firsts}
use Rattle.halves.proofs.ByteHalves.{half_bytes_digits}
use Rattle.halves.proofs.PackedHalves.{packed_block, packed_front}
use Rattle.tiny.specs.OnBytes.{mark}
use Rattle.tiny.proofs.SummedHalves.{first_packed, packed_⊕, packed_10*}
use Rattle.tiny.proofs.OnHalves.{half_e, half_added, half_e_block, half_added_digits}

-- 216: what turn i adds to the left half, as a block
abbrev pub block_added : List Bytes → Bytes → RoundFunction
block_added Ks M i R = AES4 Ks (R ⊕ number i) and M

-- both halves have n half-bytes
record Good (n : ℕ) (s : Halves) : Type 0 where
  L : Digits 4 n s.L
  R : Digits 4 n s.R

-- the halves of n bytes
good_halves : {n : ℕ} {M : Bytes} → Digits 8 n M → Good n (halves n (half_bytes M))
good_halves {n} p = record { L = take_digits n (omega arith) (half_bytes_digits p); R = as_digits (omega arith) (drop_digits n (half_bytes_digits p)) }

module _
    (E : BlockFunction) (E_block : GivesBlocks E) (Δ : Bytes) (Δ-block : Block Δ) (n j : ℕ) (few : n ≤ 31)
    (Ks : List Bytes) (under : (X : Bytes) → Block X → AES4 Ks X ≡ E (row 0) j (X ⊕ (Δ ⊕ mark n))) where
  same_added : (i : ℕ) (R : List ℕ) → Digits 4 n R → block_added Ks (front n) i (packed R) ≡ packed (half_added E Δ n j i R)
  unfolding half_e
  same_added i R p =
      ap (λ (Y : Bytes). Y and front n) whole ∙ packed_front n (omega arith) (half_e_block E E_block Δ Δ-block n j few i R p)
    where
      sorted : (packed R ⊕ number i) ⊕ (Δ ⊕ mark n) ≡ Δ ⊕ ((packed R ⊕ mark n) ⊕ number i)
      sorted = simp (⊕_assoc, ⊕_comm, ⊕_left_comm)

      whole : AES4 Ks (packed R ⊕ number i) ≡ half_e E Δ j i R
      whole =
          under (packed R ⊕ number i) (⊕_block (packed_block n (omega arith) p) (number_block i))
          ∙ ap (E (row 0) j) (sorted ∙ ap (λ (X : Bytes). Δ ⊕ (X ⊕ number i)) (sym (packed_10* n (omega arith) p)))

  good_turn : (i : ℕ) (s : Halves) → Good n s → Good n (feistel (half_added E Δ n j) i s)
  good_turn i s g = record { L = g.R; R = ⊕_digits g.L (half_added_digits E E_block Δ Δ-block n j few i s.R g.R) (omega arith) }

  same_turn : (i : ℕ) (s : Halves) → Good n s → feistel (block_added Ks (front n)) i (packed_both s) ≡ packed_both (feistel (half_added E Δ n j) i s)
  same_turn i s g =
      ap (λ (X : Bytes). record { L = packed s.R; R = X })
      (ap (λ (X : Bytes). packed s.L ⊕ X) (same_added i s.R g.R)
      ∙ sym (packed_⊕ n (omega arith) g.L (half_added_digits E E_block Δ Δ-block n j few i s.R g.R)))

  first_both : (s : Halves) → Good n s → firsts n (packed_both s) ≡ s
  first_both s g = ap₂ (λ (X Y : List ℕ). record { L = X; R = Y }) (first_packed n (omega arith) g.L) (first_packed n (omega arith) g.R)

  -- the turns of a list
  pub same_turns : (l : List ℕ) {M : Bytes} → Digits 8 n M
      → firsts n (through (feistel (block_added Ks (front n))) l (packed_both (halves n (half_bytes M)))) ≡ through (feistel (half_added E Δ n j)) l (halves n (half_bytes M))
  same_turns l {M} p =
      let s : Halves = halves n (half_bytes M) in
      ap (firsts n) (commute (feistel (half_added E Δ n j)) (Good n) good_turn (feistel (block_added Ks (front n))) packed_both same_turn l s (good_halves p))
      ∙ first_both _ (keep (feistel (half_added E Δ n j)) (Good n) good_turn l s (good_halves p))
