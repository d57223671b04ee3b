-- Encipher and Decipher (lines 200 to 202) undo each other on every string of one byte or more, over any block function.
use mathlib.Core.Bool.{Bool, true, false}
use mathlib.Core.Path.{◌≡◌, refl, ap, ◌∙◌}
use Prim.Native.Nat.{ℕ, ◌≤◌}
use native.Mathlib.Omega.{arith}
use borrow.Author.Tests.{ltb-true, ltb-false}
use lib.Dec.{ltb}
use lib.ListN.{length}
use Rattle.std.specs.Prelude.{if◌then◌else◌}
use Rattle.paper.specs.Strings.{Bytes, Digits, Block}
use Rattle.paper.specs.Figure6.{BlockFunction}
use Rattle.paper.specs.Figure5.{encipher_tiny, decipher_tiny, core, encipher, decipher}
use Rattle.laws.proofs.BlockFunction.{GivesBlocks}
use Rattle.laws.proofs.Tiny.{encipher_tiny_bytes, decipher_tiny_bytes, decipher_encipher_tiny, encipher_decipher_tiny}
use Rattle.laws.proofs.CoreResult.{core_bytes}
use Rattle.laws.proofs.CoreInverse.{core_core}

-- a byte string of one byte or more
pub record Some (X : Bytes) : Type 0 where
  pub least : 1 ≤ length X
  pub bytes : Digits 8 (length X) X

module _
    (E : BlockFunction) (E_block : GivesBlocks E) (Δ : Bytes) (Δ-block : Block Δ) where
  -- below 32 bytes, and from 32 on
  enciphered : Bool → Bytes → Bytes
  enciphered b X = if b then encipher_tiny E Δ X else core E Δ 1 2 X

  deciphered : Bool → Bytes → Bytes
  deciphered b X = if b then decipher_tiny E Δ X else core E Δ 2 1 X

  enciphered_bytes : (b : Bool) (X : Bytes) → ltb (length X) 32 ≡ b → Some X → Digits 8 (length X) (enciphered b X)
  unfolding enciphered
  enciphered_bytes true X e p = encipher_tiny_bytes E E_block Δ Δ-block (length X) X p.least (omega (arith, ltb-true (length X) 32 e)) p.bytes
  enciphered_bytes false X e p = core_bytes E E_block Δ Δ-block 1 2 X (omega (arith, ltb-false (length X) 32 e)) p.bytes

  deciphered_bytes : (b : Bool) (X : Bytes) → ltb (length X) 32 ≡ b → Some X → Digits 8 (length X) (deciphered b X)
  unfolding deciphered
  deciphered_bytes true X e p = decipher_tiny_bytes E E_block Δ Δ-block (length X) X p.least (omega (arith, ltb-true (length X) 32 e)) p.bytes
  deciphered_bytes false X e p = core_bytes E E_block Δ Δ-block 2 1 X (omega (arith, ltb-false (length X) 32 e)) p.bytes

  undone : (b : Bool) (X : Bytes) → ltb (length X) 32 ≡ b → Some X → deciphered b (enciphered b X) ≡ X
  unfolding enciphered deciphered
  undone true X e p = decipher_encipher_tiny E E_block Δ Δ-block (length X) X p.least (omega (arith, ltb-true (length X) 32 e)) p.bytes
  undone false X e p = core_core E E_block Δ Δ-block 1 2 X (omega (arith, ltb-false (length X) 32 e)) p.bytes

  redone : (b : Bool) (X : Bytes) → ltb (length X) 32 ≡ b → Some X → enciphered b (deciphered b X) ≡ X
  unfolding enciphered deciphered
  redone true X e p = encipher_decipher_tiny E E_block Δ Δ-block (length X) X p.least (omega (arith, ltb-true (length X) 32 e)) p.bytes
  redone false X e p = core_core E E_block Δ Δ-block 2 1 X (omega (arith, ltb-false (length X) 32 e)) p.bytes

  encipher_at : (X : Bytes) → encipher E Δ X ≡ enciphered (ltb (length X) 32) X
  unfolding encipher enciphered
  encipher_at X = refl

  decipher_at : (X : Bytes) → decipher E Δ X ≡ deciphered (ltb (length X) 32) X
  unfolding decipher deciphered
  decipher_at X = refl

  pub encipher_bytes : (X : Bytes) → Some X → Digits 8 (length X) (encipher E Δ X)
  encipher_bytes X p = rw (encipher_at X) (enciphered_bytes (ltb (length X) 32) X refl p)

  pub decipher_bytes : (X : Bytes) → Some X → Digits 8 (length X) (decipher E Δ X)
  decipher_bytes X p = rw (decipher_at X) (deciphered_bytes (ltb (length X) 32) X refl p)

  pub decipher_encipher : (X : Bytes) → Some X → decipher E Δ (encipher E Δ X) ≡ X
  decipher_encipher X p =
      decipher_at (encipher E Δ X)
      ∙ ap (λ (n : ℕ). deciphered (ltb n 32) (encipher E Δ X)) (encipher_bytes X p).len
      ∙ ap (deciphered (ltb (length X) 32)) (encipher_at X)
      ∙ undone (ltb (length X) 32) X refl p

  pub encipher_decipher : (X : Bytes) → Some X → encipher E Δ (decipher E Δ X) ≡ X
  encipher_decipher X p =
      encipher_at (decipher E Δ X)
      ∙ ap (λ (n : ℕ). enciphered (ltb n 32) (decipher E Δ X)) (decipher_bytes X p).len
      ∙ ap (enciphered (ltb (length X) 32)) (decipher_at X)
      ∙ redone (ltb (length X) 32) X refl p
