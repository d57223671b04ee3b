-- AES4 of a group on planes is AES4 of each of its blocks.
use mathlib.Core.List.{List, [], map}
use mathlib.Core.Path.{◌≡◌, refl, ap, sym, ◌∙◌}
use Prim.Native.Nat.{ℕ, ◌+◌, ◌*◌, ◌/◌, ◌%◌, ◌<◌}
use native.Mathlib.Nat.{mod-lt, le_refl}
use native.Mathlib.Omega.{arith}
use lib.Dec.{lit<}
use lib.ListN.{get_or, replicate}
use Rattle.paper.specs.Strings.{Bytes, Digits, tab}
use Rattle.paper.specs.Section7.{zeros, aesenc, rounds, AES, AES4}
use Rattle.laws.proofs.Strings.{⊕_zeros}
use Rattle.laws.proofs.WordBits.{number, bit_zero}
use Rattle.columns.specs.Columns.{columns_of, block_of}
use Rattle.columns.proofs.Conversions.{block_columns}
use Rattle.levels.specs.Levels.{turned}
use Rattle.planes.specs.Planes.{lane, plane_block, place_of, up_to, plane_blocks, columns_in, group_block, group_of}
use Rattle.planes.proofs.Places.{at_one}
use Rattle.groups.specs.Groups.{entry, AES4s, five_keys, EndsInZero}
use Rattle.groups.proofs.Each.{each_same}

-- ---- places

in_place : (i : ℕ) → i < 16 → place_of i < 16
in_place i h = omega arith

-- the block of one place of blocks that are known
pub at_block : (q : List ℕ) (f : ℕ → Bytes) → plane_blocks q ≡ map f (up_to 16) → (i : ℕ) → i < 16 → plane_block q (place_of i) ≡ f i
unfolding plane_blocks
at_block q f e i h = at_one (λ b. plane_block q (place_of b)) f e i h

-- planes of zeros have the zero key in every place
pub no_key : (s : ℕ) → plane_block (replicate 32 0) s ≡ zeros
unfolding plane_block lane
no_key s = λ t. tab 16 (λ i. number (tab 8 (λ p. bit_zero (16 * (i / 4) + s) t)))

-- ---- four rounds

module _ (w1 w2 w3 w4 : List ℕ) where
  abbrev four : Bytes → ℕ → Bytes
  four X s = aesenc (aesenc (aesenc (aesenc X (plane_block w1 s)) (plane_block w2 s)) (plane_block w3 s)) (plane_block w4 s)

  -- the first key is zero
  is_AES4 : (s : List ℕ) (i : ℕ) → four (block_of s) (place_of i) ≡ AES4 (five_keys w1 w2 w3 w4 i) (block_of s)
  unfolding AES rounds
  is_AES4 s i = ap (λ (X : Bytes). four X (place_of i)) (sym (⊕_zeros 16 (block_of s) (le_refl 16)))

  columns_low : (x y : ℕ) → Digits 32 4 (columns_in x y)
  columns_low x y = record {
    len = refl;
    low = (mod-lt x (lit< tt), (mod-lt y (lit< tt), (mod-lt (x / 4294967296) (lit< tt), (mod-lt (y / 4294967296) (lit< tt), tt))));
  }

  pub each_block : (g r : List (List ℕ)) (q p : List ℕ) → plane_blocks q ≡ map (λ b. block_of (get_or g b [])) (up_to 16)
      → map (plane_block p) (up_to 16) ≡ map (λ s. four (plane_block q s) s) (up_to 16)
      → map block_of r ≡ plane_blocks p → r ≡ group_of (turned p) → r ≡ AES4s (five_keys w1 w2 w3 w4) g
  unfolding group_of AES4s
  each_block g r q p into through out is =
      is ∙ each_same (group_block (turned p)) (λ i. columns_of (AES4 (five_keys w1 w2 w3 w4 i) (block_of (entry g i)))) one
    where
      one : (i : ℕ) → i < 16 → group_block (turned p) i ≡ columns_of (AES4 (five_keys w1 w2 w3 w4 i) (block_of (entry g i)))
      one i h =
          let at = i / 2 * 4 + i % 2 in
          sym (block_columns (columns_low (get_or (turned p) at 0) (get_or (turned p) (at + 2) 0)))
          ∙ ap columns_of
          (sym (at_block p (λ b. block_of (group_block (turned p) b)) (sym out ∙ ap (map block_of) is) i h)
          ∙ at_one (plane_block p) (λ s. four (plane_block q s) s) through (place_of i) (in_place i h)
          ∙ ap (λ (X : Bytes). four X (place_of i)) (at_block q (λ b. block_of (get_or g b [])) into i h)
          ∙ is_AES4 (entry g i) i)

-- lists of keys that agree
pub same_keys : (k l : ℕ → List Bytes) (g : List (List ℕ)) → ((i : ℕ) → k i ≡ l i) → AES4s k g ≡ AES4s l g
unfolding AES4s
same_keys k l g h =
    each_same (λ i. columns_of (AES4 (k i) (block_of (entry g i)))) (λ i. columns_of (AES4 (l i) (block_of (entry g i))))
    (λ i b. ap (λ (Ks : List Bytes). columns_of (AES4 Ks (block_of (entry g i)))) (h i))

-- the last key is zero
pub ended : (keys : Bytes → ℕ → List Bytes) (w g : List (List ℕ)) → EndsInZero w
    → AES4s (λ i. keys (plane_block (entry w 3) (place_of i)) i) g ≡ AES4s (keys zeros) g
ended keys w g e =
    same_keys (λ i. keys (plane_block (entry w 3) (place_of i)) i) (keys zeros) g
    (λ i. ap (λ (Z : Bytes). keys Z i) (ap (λ (z : List ℕ). plane_block z (place_of i)) e ∙ no_key (place_of i)))
