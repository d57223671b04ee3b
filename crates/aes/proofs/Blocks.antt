-- AES under keys of which the first is columns and the others are crossed gives blocks.
use mathlib.Core.List.{List, [], ◌∷◌, ◌++◌, map}
use mathlib.Core.Path.{◌≡◌, refl, subst}
use Prim.Native.Nat.{ℕ}
use lib.ListN.{length, get_or, drop}
use mir.Syntax.{w32}
use mir.Val.{Fits}
use Rattle.paper.specs.Strings.{Bytes, Block, Digits, ◌⊕◌}
use Rattle.paper.specs.Section7.{aesenc, rounds, AES}
use Rattle.laws.proofs.Digits.{below_of}
use Rattle.laws.proofs.AesBlocks.{AllBlocks, AES_block}
use Rattle.columns.specs.Columns.{block_of}
use Rattle.columns.proofs.Conversions.{block_of_block}
use Rattle.sub_bytes.specs.Planes.{crossed, crossed_bytes}
use Rattle.sub_bytes.proofs.States.{uncrossed_block}
use Rattle.aes.specs.Steps.{keys_of}

pub crossed_block : (w : List ℕ) → Block (crossed_bytes w)
crossed_block w = subst (λ (X : Bytes). Block X) (uncrossed_block w) (block_of_block (crossed w))

all_blocks : (k : List (List ℕ)) → AllBlocks (map crossed_bytes k)
all_blocks [] = tt
all_blocks (w ∷ k) = (crossed_block w, all_blocks k)

pub AES_keys : (k : List (List ℕ)) {X : Bytes} → Block X → Block (AES (keys_of k) X)
AES_keys k p = AES_block (keys_of k) (block_of_block (get_or k 0 []), all_blocks (drop 1 k)) p

-- an array of four numbers of 32 bits
pub word_digits : {l : List ℕ} → length l ≡ 4 → ((j : ℕ) → Fits w32 (get_or l j 0)) → Digits 32 4 l
word_digits {l} long low = record { len = long; low = below_of 4294967296 l (λ j h. (low j).fits) }

-- no round, and a round under one key more
pub rounds_none : (X : Bytes) → rounds [] X ≡ X
unfolding rounds
rounds_none X = refl

pub rounds_push : (k : List (List ℕ)) (K : List ℕ) (X : Bytes) → rounds (map crossed_bytes (k ++ K ∷ [])) X ≡ aesenc (rounds (map crossed_bytes k) X) (crossed_bytes K)
unfolding rounds
rounds_push [] K X = refl
rounds_push (K1 ∷ k) K X = rounds_push k K (aesenc X (crossed_bytes K1))

-- the first key is added, and the others have their rounds
pub AES_first : (k : List (List ℕ)) (X : Bytes) → AES (keys_of k) X ≡ rounds (map crossed_bytes (drop 1 k)) (X ⊕ block_of (get_or k 0 []))
unfolding AES
AES_first k X = refl
