-- Line 217's `if` on bytes is that on bits.
use mathlib.Core.Bool.{Bool}
use mathlib.Core.List.{[]}
use mathlib.Core.Path.{◌≡◌, refl, ap, ap₂, sym, ◌∙◌}
use Prim.Native.Nat.{ℕ, ◌*◌, ◌≤◌, ◌<◌}
use native.Mathlib.Omega.{arith}
use lib.Dec.{ltb}
use lib.ListN.{length}
use Rattle.std.specs.Prelude.{if◌then◌else◌}
use Rattle.paper.specs.Strings.{Bytes, Bits, Digits, Block, ◌⊕◌, ◌or◌, ◌and◌, zero_fill, bits0*, bits10*, pad10*, bits, bytes}
use Rattle.paper.specs.Figure6.{row, BlockFunction}
use Rattle.paper.specs.Figure5.{tiny_e, last_step}
use Rattle.laws.proofs.BlockFunction.{GivesBlocks}
use Rattle.laws.proofs.Digits.{⊕_block}
use Rattle.laws.proofs.BitStrings.{bytes_bits}
use Rattle.laws.proofs.Bitwise.{bits_⊕, bits_or, bits_and}
use Rattle.laws.proofs.LastStep.{by_test, mask, under_digits, masked_digits}
use Rattle.tiny.specs.OnBytes.{last_bytes}
use Rattle.tiny.proofs.PaddedHalves.{bits_0*, bits_1, one_block}

module _ (E : BlockFunction) (E_block : GivesBlocks E) (Δ : Bytes) (Δ-block : Block Δ) where
  pub tiny_e_bytes : (j : ℕ) {Y : Bytes} → Block Y → tiny_e E Δ j (bits Y) ≡ bits (E (row 0) j (Δ ⊕ Y))
  tiny_e_bytes j {Y} p =
      ap (λ (X : Bits). bits (E (row 0) j (bytes X))) (sym (bits_⊕ Δ Y))
      ∙ ap (λ (X : Bytes). bits (E (row 0) j X)) (bytes_bits (Δ ⊕ Y) (⊕_block Δ-block p).low)

  abbrev under : Bytes → Bytes
  under X = E (row 0) 3 (Δ ⊕ X)

  under_block : (X : Bytes) → Block X → Block (under X)
  under_block X p = E_block (row 0) 3 _ (⊕_block Δ-block p)

  module _ (n : ℕ) {C : Bytes} (some : 1 ≤ n) (p : Digits 8 n C) where
    abbrev flip : Bytes
    flip = mask under (pad10* []) 16 C

    pub last_bytes_digits : Digits 8 n (last_bytes E Δ C)
    unfolding last_bytes
    last_bytes_digits =
        by_test (λ (t : Bool). Digits 8 n (if t then C ⊕ flip else C)) (8 * length C) 128
        (λ h. masked_digits 8 16 under under_block one_block some (omega (arith, p.len)) p)
        p

    pub last_bits : last_step E Δ (8 * n) (bits C) ≡ bits (last_bytes E Δ C)
    unfolding last_bytes last_step
    last_bits =
        ap (λ (k : ℕ). if ltb (8 * k) 128 then bits C ⊕ (tiny_e E Δ 3 (bits0* (bits C) or bits10* []) and bits10* []) else bits C) (sym p.len)
        ∙ by_test
        (λ (t : Bool). (if t then bits C ⊕ (tiny_e E Δ 3 (bits0* (bits C) or bits10* []) and bits10* []) else bits C) ≡ bits (if t then C ⊕ flip else C))
        (8 * length C) 128 changed refl
      where
        changed : 8 * length C < 128 → bits C ⊕ (tiny_e E Δ 3 (bits0* (bits C) or bits10* []) and bits10* []) ≡ bits (C ⊕ flip)
        changed h =
            ap₂ (λ (X Y : Bits). bits C ⊕ (tiny_e E Δ 3 (X or Y) and Y)) (bits_0* C) bits_1
            ∙ ap (λ (X : Bits). bits C ⊕ (tiny_e E Δ 3 X and bits (pad10* []))) (sym (bits_or (zero_fill 16 C) (pad10* [])))
            ∙ ap (λ (X : Bits). bits C ⊕ (X and bits (pad10* []))) (tiny_e_bytes 3 (under_digits 8 16 under under_block one_block some (omega (arith, p.len)) p))
            ∙ ap (λ (X : Bits). bits C ⊕ X) (sym (bits_and (under (zero_fill 16 C or pad10* [])) (pad10* [])))
            ∙ sym (bits_⊕ C flip)
