-- Lines 226, 232 and 233 of Figure 5 for one pair of blocks, which stand after each other in P, and for the pairs of a string.
use Rattle.std.specs.Prelude.{List, ◌++◌, ◌≡◌, ℕ, ◌+◌, ◌-◌, ◌*◌, ◌/◌, ◌≤◌, min, ltb, length, take, drop, if◌then◌else◌}
use Rattle.paper.specs.Strings.{Bytes, ◌⊕◌, sum, join}
use Rattle.paper.specs.Figure6.{row, BlockFunction, Key}
use Rattle.paper.specs.Figure5.{pairs}
use Rattle.columns.specs.Columns.{columns_of, block_of}
use Rattle.groups.specs.Groups.{each, entry, Holds}
use Rattle.pass.specs.declared.Pass.{Pass}
use Rattle.pass.specs.declared.Pass.TheVariants.{First, Second}

-- 226: W_i and X_i, of M_i and M'_i
module _ (E : BlockFunction) (i : ℕ) (P : Bytes) where
  unfoldable pub first_w : Bytes
  first_w = take 16 P ⊕ E (row 1) i (take 16 (drop 16 P))

  unfoldable pub first_x : Bytes
  first_x = take 16 (drop 16 P) ⊕ E (row 0) 0 first_w

  abbrev pub first_pair : Bytes
  first_pair = first_w ++ first_x

-- 232, 233: Y_i, Z_i, C'_i and C_i, of W_i and X_i and the sum S
module _ (E : BlockFunction) (S : Bytes) (i : ℕ) (P : Bytes) where
  unfoldable pub second_y : Bytes
  second_y = take 16 P ⊕ E (row 2) i S

  unfoldable pub second_z : Bytes
  second_z = take 16 (drop 16 P) ⊕ E (row 2) i S

  unfoldable pub second_c' : Bytes
  second_c' = second_y ⊕ E (row 0) 0 second_z

  unfoldable pub second_c : Bytes
  second_c = second_z ⊕ E (row 1) i second_c'

  abbrev pub second_pair : Bytes
  second_pair = second_c ++ second_c'

-- what one pair adds to the sum of a pass, and what becomes of it
abbrev pub summand : BlockFunction → Pass → ℕ → Bytes → Bytes
summand E First = first_x E
summand E (Second S) = second_y E S

abbrev pub new_pair : BlockFunction → Pass → ℕ → Bytes → Bytes
new_pair E First = first_pair E
new_pair E (Second S) = second_pair E S

-- the i-th pair of a string, counted from 1
abbrev pub pair_at : Bytes → ℕ → Bytes
pair_at M i = take 32 (drop (32 * (i - 1)) M)

-- the sum of what a function gives for each pair of M, and M with each pair replaced by what a function gives for it
abbrev pub pair_sum : (ℕ → Bytes → Bytes) → Bytes → Bytes
pair_sum f M = sum (pairs (length M)) (λ i. f i (pair_at M i))

abbrev pub paired : (ℕ → Bytes → Bytes) → Bytes → Bytes
paired f M = join (pairs (length M)) (λ i. f i (pair_at M i)) ++ drop (32 * pairs (length M)) M

-- P is whole pairs, sixteen at most
abbrev pub WholePairs : Bytes → Type 0
WholePairs P = (length P ≡ 32 * (length P / 32)) × (length P ≤ 512)

-- the same of a part P of whole pairs, whose first is the b-th of the string
abbrev pub part_sum : (ℕ → Bytes → Bytes) → ℕ → Bytes → Bytes
part_sum f b P = sum (length P / 32) (λ i. f (b - 1 + i) (pair_at P i))

abbrev pub part_paired : (ℕ → Bytes → Bytes) → ℕ → Bytes → Bytes
part_paired f b P = join (length P / 32) (λ i. f (b - 1 + i) (pair_at P i))

-- a ⊕ b of two groups, block by block
abbrev pub xors : List (List ℕ) → List (List ℕ) → List (List ℕ)
xors a b = each (λ i. columns_of (block_of (entry a i) ⊕ block_of (entry b i)))

-- how many of the pairs that are left a turn of a pass takes: sixteen at most, and one where fewer are left than make a group quicker
abbrev pub fewest : ℕ
fewest = 4

abbrev pub taken : ℕ → ℕ
taken left = if ltb left fewest then 1 else min left 16

-- w holds the key K, where there is a part P of more than one pair, and where a string of n bytes has as many pairs as make a group
abbrev pub HoldsBeside : Bytes → Key → List (List ℕ) → Type 0
HoldsBeside P K w = (length P ≡ 32 → ⊥) → Holds K w

abbrev pub HoldsFor : ℕ → Key → List (List ℕ) → Type 0
HoldsFor n K w = 32 * (fewest + 1) ≤ n → Holds K w
