-- AES4 of a group whose keys are the same for each block.
use mathlib.Core.List.{List}
use mathlib.Core.Path.{◌≡◌, ap}
use Prim.Native.Nat.{ℕ, ◌<◌}
use Rattle.paper.specs.Strings.{Bytes}
use Rattle.paper.specs.Section7.{AES4}
use Rattle.paper.specs.Figure6.{Key}
use Rattle.columns.specs.Columns.{columns_of, block_of}
use Rattle.groups.specs.Groups.{entry, AES4s, key_for, Holds}
use Rattle.groups.proofs.Each.{at_each, each_same}

pub at_AES4s : (k : ℕ → List Bytes) (g : List (List ℕ)) (i : ℕ) → i < 16 → entry (AES4s k g) i ≡ columns_of (AES4 (k i) (block_of (entry g i)))
unfolding AES4s
at_AES4s k g i h = at_each (λ j. columns_of (AES4 (k j) (block_of (entry g j)))) i h

-- the list that `keys` makes of a key
pub held : (keys : Key → List Bytes) (K : Key) (w : List (List ℕ)) → Holds K w → (g : List (List ℕ)) → AES4s (λ i. keys (key_for w i)) g ≡ AES4s (λ i. keys K) g
unfolding AES4s
held keys K w h g =
    each_same (λ i. columns_of (AES4 (keys (key_for w i)) (block_of (entry g i)))) (λ i. columns_of (AES4 (keys K) (block_of (entry g i))))
    (λ i b. ap (λ (k : Key). columns_of (AES4 (keys k) (block_of (entry g i)))) (h.0 i b))
