-- The contracts of `tiny` and `wide` compose: going the other way over what one way gave is the string again, by the laws of AEZ-tiny and
-- AEZ-core. s is a slice's bytes at entry of one call, t at its exit, and u at the exit of the call that goes the other way.
use mathlib.Core.Path.{◌≡◌, refl, ap, ◌∙◌}
use Prim.Native.Nat.{◌≤◌}
use lib.ListN.{length}
use Rattle.paper.specs.Strings.{Bytes, Below, Block, Digits}
use Rattle.paper.specs.Figure6.{BlockFunction, E}
use Rattle.paper.specs.Figure5.{encipher_tiny, decipher_tiny, core}
use Rattle.laws.proofs.KeyBlocks.{KeyBytes, E_block}
use Rattle.laws.proofs.Tiny.{decipher_encipher_tiny, encipher_decipher_tiny}
use Rattle.laws.proofs.CoreInverse.{core_core}
use Rattle.key.specs.Meaning.{blocks}
use Rattle.key.specs.declared.Key.{Key}
use Rattle.wide.specs.Ways.{first_of, second_of}
use Rattle.wide.specs.declared.Way.{Way}
use Rattle.wide.specs.declared.Way.TheVariants.{Encipher, Decipher}

-- the other way
abbrev pub other : Way → Way
other Encipher = Decipher
other Decipher = Encipher

module _ (k : Key) (key : KeyBytes (blocks k)) (delta : Bytes) (block : Block delta) (s t u : Bytes) (p : Below 256 s) where
  abbrev f : BlockFunction
  f = E (blocks k)

  all : Digits 8 (length s) s
  all = record { len = refl; low = p }

  -- ---- `tiny`

  pub decipher_undoes : 1 ≤ length s → length s ≤ 31 → t ≡ encipher_tiny f delta s → u ≡ decipher_tiny f delta t → u ≡ s
  decipher_undoes least most a b =
      b ∙ ap (decipher_tiny f delta) a ∙ decipher_encipher_tiny f (E_block key) delta block (length s) s least most all

  pub encipher_undoes : 1 ≤ length s → length s ≤ 31 → t ≡ decipher_tiny f delta s → u ≡ encipher_tiny f delta t → u ≡ s
  encipher_undoes least most a b =
      b ∙ ap (encipher_tiny f delta) a ∙ encipher_decipher_tiny f (E_block key) delta block (length s) s least most all

  -- ---- `wide`

  pub other_undoes : (way : Way) → 32 ≤ length s → t ≡ core f delta (first_of way) (second_of way) s
      → u ≡ core f delta (first_of (other way)) (second_of (other way)) t → u ≡ s
  other_undoes Encipher long a b = b ∙ ap (core f delta 2 1) a ∙ core_core f (E_block key) delta block 1 2 s long all
  other_undoes Decipher long a b = b ∙ ap (core f delta 1 2) a ∙ core_core f (E_block key) delta block 2 1 s long all
