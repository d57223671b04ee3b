-- What the steps of a group of pairs make, over plain groups: each pair is what Figure 5 says.
use mathlib.Core.List.{List, ◌++◌}
use mathlib.Core.Path.{◌≡◌, refl, ap, ap₂, sym, ◌∙◌}
use Prim.Native.Nat.{ℕ, ◌+◌, ◌-◌, ◌*◌, ◌/◌, ◌%◌, ◌≤◌}
use native.Mathlib.Omega.{arith}
use lib.ListN.{length, take, drop}
use Rattle.paper.specs.Strings.{Bytes, Digits, Block, ◌⊕◌, sum, join}
use Rattle.paper.specs.Section7.{◌·◌, two_to, AES4}
use Rattle.paper.specs.Figure6.{row, k0, k1, k2, masked, E}
use Rattle.laws.proofs.BlockFunction.{E_405, E_406_1, E_406_2}
use Rattle.laws.proofs.Joins.{sum_ext, join_ext}
use Rattle.laws.proofs.KeyBlocks.{E_block}
use Rattle.laws.proofs.Multiples.{times_zero}
use Rattle.laws.proofs.Strings.{⊕_assoc, ⊕_zeros}
use Rattle.columns.specs.Columns.{columns_of, block_of}
use Rattle.tbc.specs.declared.Base.{Base}
use Rattle.tbc.specs.Meaning.{base, OfJ}
use Rattle.tbc.proofs.Keys.{base_bytes}
use Rattle.groups.specs.Groups.{each, entry, loaded, AES4s, mask_from, key_for, Holds}
use Rattle.pass.specs.Pairs.{first_w, first_x, first_pair, second_y, second_z, second_c', second_c, second_pair, pair_at, xors}
use Rattle.pass.proofs.Blocks.{Are, are_blocks, xor_are, under_are, same_are, masks_are, left_are, right_are}

-- the groups of a part of n pairs from the b-th on
module _
    (k : Base) (m : List ℕ) (of : OfJ k m) (w : List (List ℕ)) (holds : Holds (base k) w)
    (n : ℕ) (few : n ≤ 16) (b : ℕ) (from1 : 1 ≤ b) (power : List ℕ) (carried : power ≡ columns_of (two_to ((b - 1) / 8) (base k).L))
    (masks : List (List ℕ)) (made : masks ≡ each (λ j. columns_of (mask_from m b power j))) where
  -- X_i with the mask of the i-th number
  masked_are : (g : List (List ℕ)) (f : ℕ → Bytes) → Are g n f → Are (xors g masks) n (λ i. masked (base k) (b - 1 + i) (f i))
  masked_are g f p i a c =
      xor_are n few g masks (xors g masks) f (λ i. ((b - 1 + i) % 8) · (base k).J ⊕ two_to ((b - 1 + i - 1) / 8) (base k).L) p
      (masks_are n few k m of b power masks from1 carried made) refl i a c
      ∙ sym (⊕_assoc (f i) (((b - 1 + i) % 8) · (base k).J) (two_to ((b - 1 + i - 1) / 8) (base k).L))

  -- lines 405 and 406
  row0_are : (g r : List (List ℕ)) (f : ℕ → Bytes) → Are g n f → r ≡ AES4s (λ j. k0 (key_for w j)) g → Are r n (λ i. E (base k) (row 0) 0 (f i))
  row0_are g r f p =
      let blocks = are_blocks g n f p in
      under_are n few k0 (base k) w holds g r f (λ i. E (base k) (row 0) 0 (f i)) p
      (λ i a c. E_405 (base k) (f i) 0 ∙ ap (AES4 (k0 (base k))) (ap (λ (Z : Bytes). f i ⊕ Z) (times_zero (base k).J) ∙ ⊕_zeros 16 (f i) (omega (arith, (blocks i a c).len))))
      (λ i a c. E_block (base_bytes k) (row 0) 0 (f i) (blocks i a c))

  row1_are : (g r : List (List ℕ)) (f : ℕ → Bytes) → Are g n f → r ≡ AES4s (λ j. k1 (key_for w j)) (xors g masks) → Are r n (λ i. E (base k) (row 1) (b - 1 + i) (f i))
  row1_are g r f p =
      under_are n few k1 (base k) w holds (xors g masks) r (λ i. masked (base k) (b - 1 + i) (f i)) (λ i. E (base k) (row 1) (b - 1 + i) (f i)) (masked_are g f p)
      (λ i a c. E_406_1 (base k) (f i) (b - 1 + i))
      (λ i a c. E_block (base_bytes k) (row 1) (b - 1 + i) (f i) (are_blocks g n f p i a c))

  row2_are : (g r : List (List ℕ)) (f : ℕ → Bytes) → Are g n f → r ≡ AES4s (λ j. k2 (key_for w j)) (xors g masks) → Are r n (λ i. E (base k) (row 2) (b - 1 + i) (f i))
  row2_are g r f p =
      under_are n few k2 (base k) w holds (xors g masks) r (λ i. masked (base k) (b - 1 + i) (f i)) (λ i. E (base k) (row 2) (b - 1 + i) (f i)) (masked_are g f p)
      (λ i a c. E_406_2 (base k) (f i) (b - 1 + i))
      (λ i a c. E_block (base_bytes k) (row 2) (b - 1 + i) (f i) (are_blocks g n f p i a c))

  added_are : (s g r : List (List ℕ)) (f h : ℕ → Bytes) → Are s n f → Are g n h → r ≡ xors s (AES4s (λ j. k0 (key_for w j)) g)
      → Are r n (λ i. f i ⊕ E (base k) (row 0) 0 (h i))
  added_are s g r f h p q e =
      xor_are n few s (AES4s (λ j. k0 (key_for w j)) g) r f (λ i. E (base k) (row 0) 0 (h i)) p (row0_are g (AES4s (λ j. k0 (key_for w j)) g) h q refl) e

  added_at_are : (s g r : List (List ℕ)) (f h : ℕ → Bytes) → Are s n f → Are g n h → r ≡ xors s (AES4s (λ j. k1 (key_for w j)) (xors g masks))
      → Are r n (λ i. f i ⊕ E (base k) (row 1) (b - 1 + i) (h i))
  added_at_are s g r f h p q e =
      xor_are n few s (AES4s (λ j. k1 (key_for w j)) (xors g masks)) r f (λ i. E (base k) (row 1) (b - 1 + i) (h i)) p
      (row1_are g (AES4s (λ j. k1 (key_for w j)) (xors g masks)) h q refl) e

  -- a part, and its blocks
  module _
      (P : Bytes) (long : length P ≡ 32 * n) (bytes : Digits 8 (length P) P)
      (left right : List (List ℕ)) (l : left ≡ each (λ j. loaded P (0 + j * 32))) (r : right ≡ each (λ j. loaded P (16 + j * 32))) where
    -- 226
    module _
        (W X : List (List ℕ))
        (p : W ≡ xors left (AES4s (λ j. k1 (key_for w j)) (xors right masks))) (q : X ≡ xors right (AES4s (λ j. k0 (key_for w j)) W)) where
      W_are : Are W n (λ i. first_w (E (base k)) (b - 1 + i) (pair_at P i))
      unfolding first_w
      W_are =
          added_at_are left right W (λ i. take 16 (pair_at P i)) (λ i. take 16 (drop 16 (pair_at P i)))
          (left_are n few P long bytes left l) (right_are n few P long bytes right r) p

      X_are : Are X n (λ i. first_x (E (base k)) (b - 1 + i) (pair_at P i))
      unfolding first_x
      X_are =
          added_are right W X (λ i. take 16 (drop 16 (pair_at P i))) (λ i. first_w (E (base k)) (b - 1 + i) (pair_at P i))
          (right_are n few P long bytes right r) W_are q

      pub firsts_summed : sum n (λ i. block_of (entry X (i - 1))) ≡ sum n (λ i. first_x (E (base k)) (b - 1 + i) (pair_at P i))
      firsts_summed = sum_ext n (λ i. block_of (entry X (i - 1))) (λ i. first_x (E (base k)) (b - 1 + i) (pair_at P i)) X_are

      pub firsts_joined : join n (λ i. block_of (entry W (i - 1)) ++ block_of (entry X (i - 1))) ≡ join n (λ i. first_pair (E (base k)) (b - 1 + i) (pair_at P i))
      firsts_joined =
          join_ext n (λ i. block_of (entry W (i - 1)) ++ block_of (entry X (i - 1))) (λ i. first_pair (E (base k)) (b - 1 + i) (pair_at P i))
          (λ i a c. ap₂ ◌++◌ (W_are i a c) (X_are i a c))

    -- 232, 233
    module _
        (S : Bytes) (block : Block S) (s Y Z C' C : List (List ℕ))
        (o : s ≡ AES4s (λ j. k2 (key_for w j)) (xors (each (λ j. columns_of S)) masks)) (y : Y ≡ xors left s) (z : Z ≡ xors right s)
        (p : C' ≡ xors Y (AES4s (λ j. k0 (key_for w j)) Z)) (q : C ≡ xors Z (AES4s (λ j. k1 (key_for w j)) (xors C' masks))) where
      S_are : Are s n (λ i. E (base k) (row 2) (b - 1 + i) S)
      S_are = row2_are (each (λ j. columns_of S)) s (λ i. S) (same_are n few S block) o

      Y_are : Are Y n (λ i. second_y (E (base k)) S (b - 1 + i) (pair_at P i))
      unfolding second_y
      Y_are = xor_are n few left s Y (λ i. take 16 (pair_at P i)) (λ i. E (base k) (row 2) (b - 1 + i) S) (left_are n few P long bytes left l) S_are y

      Z_are : Are Z n (λ i. second_z (E (base k)) S (b - 1 + i) (pair_at P i))
      unfolding second_z
      Z_are =
          xor_are n few right s Z (λ i. take 16 (drop 16 (pair_at P i))) (λ i. E (base k) (row 2) (b - 1 + i) S) (right_are n few P long bytes right r) S_are z

      C'_are : Are C' n (λ i. second_c' (E (base k)) S (b - 1 + i) (pair_at P i))
      unfolding second_c'
      C'_are =
          added_are Y Z C' (λ i. second_y (E (base k)) S (b - 1 + i) (pair_at P i)) (λ i. second_z (E (base k)) S (b - 1 + i) (pair_at P i)) Y_are Z_are p

      C_are : Are C n (λ i. second_c (E (base k)) S (b - 1 + i) (pair_at P i))
      unfolding second_c
      C_are =
          added_at_are Z C' C (λ i. second_z (E (base k)) S (b - 1 + i) (pair_at P i)) (λ i. second_c' (E (base k)) S (b - 1 + i) (pair_at P i)) Z_are C'_are q

      pub seconds_summed : sum n (λ i. block_of (entry Y (i - 1))) ≡ sum n (λ i. second_y (E (base k)) S (b - 1 + i) (pair_at P i))
      seconds_summed = sum_ext n (λ i. block_of (entry Y (i - 1))) (λ i. second_y (E (base k)) S (b - 1 + i) (pair_at P i)) Y_are

      pub seconds_joined : join n (λ i. block_of (entry C (i - 1)) ++ block_of (entry C' (i - 1))) ≡ join n (λ i. second_pair (E (base k)) S (b - 1 + i) (pair_at P i))
      seconds_joined =
          join_ext n (λ i. block_of (entry C (i - 1)) ++ block_of (entry C' (i - 1))) (λ i. second_pair (E (base k)) S (b - 1 + i) (pair_at P i))
          (λ i a c. ap₂ ◌++◌ (C_are i a c) (C'_are i a c))
