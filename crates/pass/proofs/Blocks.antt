-- The first n blocks of a group, after each of the steps of `groups`.
use mathlib.Core.List.{List}
use mathlib.Core.Path.{◌≡◌, refl, ap, ap₂, subst, sym, ◌∙◌}
use Prim.Native.Nat.{ℕ, ◌+◌, ◌-◌, ◌*◌, ◌/◌, ◌%◌, ◌≤◌}
use native.Mathlib.Omega.{arith}
use borrow.Author.Tests.{le-ltb}
use lib.ListN.{length, take, drop}
use Rattle.paper.specs.Strings.{Bytes, Digits, Block, ◌⊕◌}
use Rattle.paper.specs.Section7.{◌·◌, two_to, AES4}
use Rattle.paper.specs.Figure6.{Key}
use Rattle.laws.proofs.Digits.{⊕_block, take_digits, drop_digits}
use Rattle.laws.proofs.Joins.{UpTo}
use Rattle.laws.proofs.KeyBlocks.{times_block, two_to_block}
use Rattle.columns.specs.Columns.{columns_of, block_of}
use Rattle.columns.proofs.Conversions.{columns_block, block_of_block}
use Rattle.tbc.specs.declared.Base.{Base}
use Rattle.tbc.specs.Meaning.{base, OfJ}
use Rattle.tbc.proofs.Keys.{base_bytes}
use Rattle.groups.specs.Groups.{each, entry, loaded, AES4s, mask_from, key_for, Holds}
use Rattle.groups.proofs.Each.{at_each}
use Rattle.groups.proofs.Held.{held, at_AES4s}
use Rattle.groups.proofs.Numbered.{mask_is}
use Rattle.pass.specs.Pairs.{pair_at, xors}
use Rattle.pass.proofs.Halves.{left_is, right_is}

-- they are f 1 to f n
abbrev pub Are : List (List ℕ) → ℕ → (ℕ → Bytes) → Type 0
Are g n f = UpTo n (λ i. block_of (entry g (i - 1)) ≡ f i)

pub are_blocks : (g : List (List ℕ)) (n : ℕ) (f : ℕ → Bytes) → Are g n f → UpTo n (λ i. Block (f i))
are_blocks g n f p i a b = subst (λ (X : Bytes). Block X) (p i a b) (block_of_block (entry g (i - 1)))

module _ (n : ℕ) (few : n ≤ 16) where
  -- a group by its entries, which are columns of blocks
  each_are : (h f : ℕ → Bytes) (r : List (List ℕ)) → r ≡ each (λ j. columns_of (h j)) → UpTo n (λ i. h (i - 1) ≡ f i) → UpTo n (λ i. Block (h (i - 1))) → Are r n f
  each_are h f r e p q i a b =
      ap (λ (g : List (List ℕ)). block_of (entry g (i - 1))) e
      ∙ ap block_of (at_each (λ j. columns_of (h j)) (i - 1) (omega arith))
      ∙ columns_block (q i a b)
      ∙ p i a b

  pub xor_are : (s t r : List (List ℕ)) (f g : ℕ → Bytes) → Are s n f → Are t n g → r ≡ xors s t
      → Are r n (λ i. f i ⊕ g i)
  xor_are s t r f g p q e =
      each_are (λ j. block_of (entry s j) ⊕ block_of (entry t j)) (λ i. f i ⊕ g i) r e (λ i a b. ap₂ ◌⊕◌ (p i a b) (q i a b))
      (λ i a b. ⊕_block (block_of_block (entry s (i - 1))) (block_of_block (entry t (i - 1))))

  -- AES4 under a list of keys, where that gives blocks
  pub under_are : (ks : Key → List Bytes) (K : Key) (w : List (List ℕ)) → Holds K w → (g r : List (List ℕ)) (f E : ℕ → Bytes) → Are g n f
      → UpTo n (λ i. E i ≡ AES4 (ks K) (f i)) → UpTo n (λ i. Block (E i)) → r ≡ AES4s (λ j. ks (key_for w j)) g → Are r n E
  under_are ks K w h g r f E p e q o i a b =
      ap (λ (t : List (List ℕ)). block_of (entry t (i - 1))) (o ∙ held ks K w h g)
      ∙ ap block_of (at_AES4s (λ j. ks K) g (i - 1) (omega arith))
      ∙ ap (λ (X : Bytes). block_of (columns_of X)) (ap (AES4 (ks K)) (p i a b) ∙ sym (e i a b))
      ∙ columns_block (q i a b)

  pub same_are : (X : Bytes) → Block X → Are (each (λ j. columns_of X)) n (λ i. X)
  same_are X p = each_are (λ j. X) (λ i. X) (each (λ j. columns_of X)) refl (λ i a b. refl) (λ i a b. p)

  -- the masks of the numbers from b on
  pub masks_are : (k : Base) (m : List ℕ) → OfJ k m → (b : ℕ) (power : List ℕ) (r : List (List ℕ)) → 1 ≤ b → power ≡ columns_of (two_to ((b - 1) / 8) (base k).L)
      → r ≡ each (λ j. columns_of (mask_from m b power j))
      → Are r n (λ i. ((b - 1 + i) % 8) · (base k).J ⊕ two_to ((b - 1 + i - 1) / 8) (base k).L)
  masks_are k m of b power r h e o = each_are (mask_from m b power) mask r o is (λ i a c. subst (λ (X : Bytes). Block X) (sym (is i a c)) (block (b - 1 + i)))
    where
      mask : ℕ → Bytes
      mask i = ((b - 1 + i) % 8) · (base k).J ⊕ two_to ((b - 1 + i - 1) / 8) (base k).L

      block : (j : ℕ) → Block ((j % 8) · (base k).J ⊕ two_to ((j - 1) / 8) (base k).L)
      block j = ⊕_block (times_block (j % 8) (base_bytes k).J) (two_to_block ((j - 1) / 8) (base_bytes k).L)

      is : UpTo n (λ i. mask_from m b power (i - 1) ≡ mask i)
      is i a c =
          let same : b + (i - 1) ≡ b - 1 + i = omega arith in
          mask_is k m of b (i - 1) power h e ∙ ap (λ (j : ℕ). (j % 8) · (base k).J ⊕ two_to ((j - 1) / 8) (base k).L) same

  -- the blocks of n pairs
  module _ (P : Bytes) (long : length P ≡ 32 * n) (bytes : Digits 8 (length P) P) where
    whole : (at : ℕ) → at + 16 ≤ length P → block_of (loaded P at) ≡ take 16 (drop at P)
    whole at h =
        rw (le-ltb (length P) (at + 16) h) (columns_block (take_digits 16 (omega arith) (drop_digits at bytes)))

    load_are : (at : ℕ) (f : ℕ → Bytes) (r : List (List ℕ)) → r ≡ each (λ j. loaded P (at + j * 32)) → UpTo n (λ i. at + (i - 1) * 32 + 16 ≤ length P)
        → UpTo n (λ i. take 16 (drop (at + (i - 1) * 32) P) ≡ f i) → Are r n f
    load_are at f r e h p i a b =
        ap (λ (g : List (List ℕ)). block_of (entry g (i - 1))) e
        ∙ ap block_of (at_each (λ j. loaded P (at + j * 32)) (i - 1) (omega arith))
        ∙ whole (at + (i - 1) * 32) (h i a b)
        ∙ p i a b

    pub left_are : (r : List (List ℕ)) → r ≡ each (λ j. loaded P (0 + j * 32)) → Are r n (λ i. take 16 (pair_at P i))
    left_are r e =
        load_are 0 (λ i. take 16 (pair_at P i)) r e (λ i a b. omega arith)
        (λ i a b. let there : 0 + (i - 1) * 32 ≡ 32 * (i - 1) = omega arith in ap (λ (d : ℕ). take 16 (drop d P)) there ∙ sym (left_is P i))

    pub right_are : (r : List (List ℕ)) → r ≡ each (λ j. loaded P (16 + j * 32)) → Are r n (λ i. take 16 (drop 16 (pair_at P i)))
    right_are r e =
        load_are 16 (λ i. take 16 (drop 16 (pair_at P i))) r e (λ i a b. omega arith)
        (λ i a b. let there : 16 + (i - 1) * 32 ≡ 32 * (i - 1) + 16 = omega arith in ap (λ (d : ℕ). take 16 (drop d P)) there ∙ sym (right_is P i a (omega arith)))
