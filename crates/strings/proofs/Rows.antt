-- The rows of the hash: string i, from 1 on, has the row 2 + i. Lines 408 and 409 in it.
use mathlib.Core.List.{List}
use mathlib.Core.Logic.{◌⊎◌, inl, inr}
use mathlib.Core.Path.{◌≡◌, ap, sym, ◌∙◌}
use Prim.Native.Nat.{ℕ, ◌+◌, ◌-◌, ◌*◌, ◌/◌, ◌%◌, ◌≤◌}
use native.Mathlib.Omega.{arith}
use lib.ListN.{length, drop}
use Rattle.paper.specs.Strings.{Bytes, ◌⊕◌, pad10*, sum}
use Rattle.paper.specs.Section7.{◌·◌, two_to, AES4}
use Rattle.paper.specs.Figure6.{row, Key, k0, masked, E, block_at, hash_string}
use Rattle.laws.proofs.BlockFunction.{E_408, E_409}
use Rattle.laws.proofs.Hash.{hash_full, hash_short}
use Rattle.laws.proofs.Joins.{sum_ext}
use Rattle.laws.proofs.KeyBlocks.{times_block, two_to_block}
use Rattle.laws.proofs.Strings.{⊕_assoc}
use Rattle.columns.specs.Columns.{columns_of, block_of}
use Rattle.columns.proofs.Conversions.{made}
use Rattle.multiples.specs.Eight.{four_at}
use Rattle.multiples.proofs.Kept.{kept}
use Rattle.tbc.specs.Meaning.{base, OfJ}
use Rattle.tbc.specs.declared.Base.{Base}
use Rattle.tbc.proofs.Keys.{base_bytes}
use Rattle.strings.specs.Waiting.{full_term, short_term}

-- the masks that are read and carried: block X with the mask of its number j and with M
pub masked_is : (k : Base) (m : List ℕ) → OfJ k m → (j : ℕ) (power : List ℕ) → power ≡ columns_of (two_to ((j - 1) / 8) (base k).L) → (M : Bytes) {x X : Bytes} → x ≡ X
    → x ⊕ (block_of (four_at m (4 * (j % 8))) ⊕ block_of power ⊕ M) ≡ masked (base k) j X ⊕ M
masked_is k m of j power e M {x} {X} s =
    let A : Bytes = (j % 8) · (base k).J in
    let P : Bytes = two_to ((j - 1) / 8) (base k).L in
    let a = made (times_block (j % 8) (base_bytes k).J) (kept (base k).J m of (j % 8) (omega arith)) in
    let p = made (two_to_block ((j - 1) / 8) (base_bytes k).L) e in
    (λ i. s i ⊕ (a i ⊕ p i ⊕ M))
    ∙ sym (⊕_assoc X (A ⊕ P) M)
    ∙ ap (λ (Y : Bytes). Y ⊕ M) (sym (⊕_assoc X A P))

-- an empty string, or one whose last block is short
pub short_end : (n : ℕ) → (n ≡ 0) ⊎ ((n ≡ 0 → ⊥) × (n % 16 ≡ 0 → ⊥)) → n % 16 ≡ 0 → n ≡ 0
short_end n (inl h) e = h
short_end n (inr h) e = absurd (h.1 e)

module _ (K : Key) (i : ℕ) (first : 1 ≤ i) (M : Bytes) (is : M ≡ (i * 8) · K.J) where
  -- M is what row 2 + i adds
  of_row : M ≡ ((2 + i - 2) * 8) · K.J
  of_row = let same : i ≡ 2 + i - 2 = omega arith in is ∙ ap (λ (n : ℕ). (n * 8) · K.J) same

  pub full_terms : (t : Bytes) (n : ℕ) → sum n (full_term K M t) ≡ sum n (λ j. E K (row (2 + i)) j (block_at t j))
  full_terms t n =
      sum_ext n (full_term K M t) (λ j. E K (row (2 + i)) j (block_at t j))
      (λ j a b. ap (λ (N : Bytes). AES4 (k0 K) (masked K j (block_at t j) ⊕ N)) of_row ∙ sym (E_408 K (block_at t j) (2 + i) j (omega arith) a))

  pub short_term_lem : (last : Bytes) → short_term K M last ≡ E K (row (2 + i)) 0 (pad10* last)
  short_term_lem last =
      ap (λ (N : Bytes). AES4 (k0 K) (pad10* last ⊕ N)) of_row ∙ sym (E_409 K (pad10* last) (2 + i) (omega arith))

  -- S₁ is S with the full blocks of a string t
  module _ (t S S₁ : Bytes) (full : S₁ ≡ S ⊕ sum (length t / 16) (full_term K M t)) where
    full_is : S₁ ≡ S ⊕ sum (length t / 16) (λ j. E K (row (2 + i)) j (block_at t j))
    full_is = full ∙ ap (λ (X : Bytes). S ⊕ X) (full_terms t (length t / 16))

    -- no block is short or empty
    pub whole_string : length t % 16 ≡ 0 → (length t ≡ 0 → ⊥) → S₁ ≡ S ⊕ hash_string (E K) i t
    whole_string h g = full_is ∙ ap (λ (X : Bytes). S ⊕ X) (sym (hash_full (E K) i t g h))

    -- the last one is
    pub cut_string : (length t % 16 ≡ 0 → length t ≡ 0) → (last r : Bytes) → last ≡ drop (length t / 16 * 16) t
        → r ≡ S₁ ⊕ short_term K M last → r ≡ S ⊕ hash_string (E K) i t
    cut_string h last r g p =
        p
        ∙ (λ k. full_is k ⊕ short_term_lem last k)
        ∙ ap (λ (l : Bytes). (S ⊕ sum (length t / 16) (λ j. E K (row (2 + i)) j (block_at t j))) ⊕ E K (row (2 + i)) 0 (pad10* l)) g
        ∙ ⊕_assoc S (sum (length t / 16) (λ j. E K (row (2 + i)) j (block_at t j))) (E K (row (2 + i)) 0 (pad10* (drop (length t / 16 * 16) t)))
        ∙ ap (λ (X : Bytes). S ⊕ X) (sym (hash_short (E K) i t h))
