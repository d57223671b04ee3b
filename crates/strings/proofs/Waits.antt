-- Blocks that wait in a group: one more, and a group that is added up at once.
use mathlib.Core.List.{List, [], ◌∷◌}
use mathlib.Core.Path.{◌≡◌, refl, ap, ap₂, sym, ◌∙◌}
use Prim.Native.Nat.{ℕ, zero, suc, ◌+◌, ◌-◌, ◌/◌, ◌≤◌, ◌<◌}
use native.Mathlib.Numerals.{unary_clauses}
use native.Mathlib.Omega.{arith}
use lib.ListN.{length, set}
use lib.Seq.{get_or-set_same, get_or-set_other}
use Rattle.paper.specs.Strings.{Bytes, Block, zip, ◌⊕◌, number, sum}
use Rattle.paper.specs.Section7.{zeros, AES4}
use Rattle.paper.specs.Figure6.{Key, k0, row, BlockFunction, block_at, hash_string}
use Rattle.laws.proofs.AesBlocks.{AES_block}
use Rattle.laws.proofs.Digits.{zero_digits}
use Rattle.laws.proofs.Hash.{hash_full}
use Rattle.laws.proofs.Joins.{sum_ext}
use Rattle.laws.proofs.KeyBlocks.{KeyBytes, number_block}
use Rattle.laws.proofs.Strings.{⊕_comm, ⊕_assoc, ⊕_zeros}
use Rattle.columns.specs.Columns.{block_of}
use Rattle.columns.proofs.Conversions.{columns_block, block_of_block}
use Rattle.groups.specs.Groups.{entry, AES4s}
use Rattle.groups.proofs.Held.{at_AES4s}
use Rattle.strings.specs.declared.Sum.{Sum}
use Rattle.strings.specs.Waiting.{added_up}
use Rattle.strings.specs.Sums.{so_far}

module _ (keys : List Bytes) (g : List (List ℕ)) where
  pub added_none : added_up keys g 0 ≡ zeros
  unfolding added_up sum
  added_none = refl

  pub added_more : (n : ℕ) → added_up keys g (n + 1) ≡ added_up keys g n ⊕ AES4 keys (block_of (entry g n))
  unfolding added_up sum
  added_more n = simp unary_clauses refl

  -- the first n do not look at what is put after them
  kept : (n : ℕ) (x : List ℕ) → added_up keys (set g n x) n ≡ added_up keys g n
  unfolding added_up
  kept n x =
      sum_ext n (λ i. AES4 keys (block_of (entry (set g n x) (i - 1)))) (λ i. AES4 keys (block_of (entry g (i - 1))))
      (λ i a b. ap (λ (y : List ℕ). AES4 keys (block_of y)) (get_or-set_other g n (i - 1) x [] (λ (e : i - 1 ≡ n). omega arith)))

-- a block put after n others
pub added_put : (keys : List Bytes) (g : List (List ℕ)) (n : ℕ) (x : List ℕ) → n < length g
    → added_up keys (set g n x) (n + 1) ≡ added_up keys g n ⊕ AES4 keys (block_of x)
added_put keys g n x h =
    added_more keys (set g n x) n
    ∙ ap₂ (λ (S : Bytes) (y : List ℕ). S ⊕ AES4 keys (block_of y)) (kept keys g n x) (get_or-set_same g n x [] h)

-- with a total: a block that is put after n others, and one that is put first
pub more_waits : (keys : List Bytes) (g : List (List ℕ)) (n : ℕ) (x : List ℕ) (total : Bytes) → n < length g
    → total ⊕ added_up keys (set g n x) (n + 1) ≡ (total ⊕ added_up keys g n) ⊕ AES4 keys (block_of x)
more_waits keys g n x total h = ap (λ (S : Bytes). total ⊕ S) (added_put keys g n x h) ∙ sym (⊕_assoc total (added_up keys g n) (AES4 keys (block_of x)))

pub one_waits : (keys : List Bytes) (g : List (List ℕ)) (x : List ℕ) (total : Bytes) → 0 < length g → length total ≤ 16
    → total ⊕ added_up keys (set g 0 x) 1 ≡ total ⊕ AES4 keys (block_of x)
one_waits keys g x total h l =
    more_waits keys g 0 x total h
    ∙ ap (λ (S : Bytes). S ⊕ AES4 keys (block_of x)) (ap (λ (S : Bytes). total ⊕ S) (added_none keys g) ∙ ⊕_zeros 16 total l)

-- ---- What is summed is no longer than a block

⊕_short : (X Y : Bytes) → length (X ⊕ Y) ≤ length X
unfolding ◌⊕◌ zip
⊕_short [] Y = omega arith
⊕_short (x ∷ X) [] = omega arith
⊕_short (x ∷ X) (y ∷ Y) = omega (arith, ⊕_short X Y)

sum_short : (n : ℕ) (f : ℕ → Bytes) → length (sum n f) ≤ 16
unfolding sum
sum_short zero f = omega arith
sum_short (suc n) f = omega (arith, ⊕_short (sum n f) (f (suc n)), sum_short n f)

pub so_short : (keys : List Bytes) (g : List (List ℕ)) (n : ℕ) (total : Bytes) → length (total ⊕ added_up keys g n) ≤ 16
unfolding added_up
so_short keys g n total =
    omega (arith, ap length (⊕_comm total (added_up keys g n)), ⊕_short (added_up keys g n) total, sum_short n (λ i. AES4 keys (block_of (entry g (i - 1)))))

-- the stretch, which is one block, is hashed before anything waits
pub first_string : (K : Key) (f : BlockFunction) (τ : ℕ) (none : Sum) {bits S : Bytes} → none.total ≡ zeros → none.waiting ≡ 0
    → S ≡ so_far K none ⊕ hash_string f 1 bits → bits ≡ number τ → S ≡ hash_string f 1 (number τ)
first_string K f τ none t w e b =
    let H : Bytes = hash_string f 1 (number τ) in
    let long : length (number τ) ≡ 16 = (number_block τ).len in
    let is = hash_full f 1 (number τ) (λ e. omega arith) (omega arith) in
    let zero : so_far K none ≡ zeros =
    (λ i. t i ⊕ added_up (k0 K) none.group (w i)) ∙ ap (λ (X : Bytes). zeros ⊕ X) (added_none (k0 K) none.group) ∙ ⊕_zeros 16 zeros (omega arith) in
    e
    ∙ (λ i. zero i ⊕ hash_string f 1 (b i))
    ∙ ⊕_comm zeros H
    ∙ ⊕_zeros 16 H (omega (arith, ap length is, sum_short (length (number τ) / 16) (λ j. f (row 3) j (block_at (number τ) j))))

-- AES4 under k0 gives blocks
AES4_block : (K : Key) → KeyBytes K → {X : Bytes} → Block X → Block (AES4 (k0 K) X)
AES4_block K p b = let z = zero_digits 8 16 in AES_block (k0 K) (z, (p.I, (p.J, (p.L, (z, tt))))) b

-- a group that went through AES4 as one
pub added_group : (K : Key) → KeyBytes K → (e g : List (List ℕ)) (n : ℕ) → n ≤ 16 → e ≡ AES4s (λ i. k0 K) g
    → sum n (λ i. block_of (entry e (i - 1))) ≡ added_up (k0 K) g n
unfolding added_up
added_group K p e g n few s =
    sum_ext n (λ i. block_of (entry e (i - 1))) (λ i. AES4 (k0 K) (block_of (entry g (i - 1))))
    (λ i a b.
    ap (λ (l : List (List ℕ)). block_of (entry l (i - 1))) s
    ∙ ap block_of (at_AES4s (λ i. k0 K) g (i - 1) (omega arith))
    ∙ columns_block (AES4_block K p (block_of_block (entry g (i - 1)))))
