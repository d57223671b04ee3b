-- Multiples of blocks are blocks, and so is what the block function E of Figure 6 gives, under a key of three blocks.
use mathlib.Core.Bool.{Bool, true, false}
use mathlib.Core.List.{[], ◌∷◌}
use Prim.Native.Nat.{ℕ, zero, suc, ◌-◌, ◌*◌, ◌/◌, ◌%◌}
use native.Mathlib.Nat.{mod-lt, zero-lt-suc}
use native.Mathlib.Omega.{arith}
use lib.Dec.{eqb}
use Rattle.std.specs.Prelude.{if◌then◌else◌}
use Rattle.paper.specs.Strings.{Bytes, Below, Digits, Block, ◌⊕◌, digits, number, bits}
use Rattle.paper.specs.Section7.{zeros, msb, double, times_bits, ◌·◌, two_to}
use Rattle.paper.specs.Figure6.{minus1, row, Key, key_of, k0, k1, k2, K10, masked, hash_row, E}
use Rattle.laws.proofs.BlockFunction.{GivesBlocks}
use Rattle.laws.proofs.Digits.{⊕_block, take_digits, drop_digits, zero_digits, below_append}
use Rattle.laws.proofs.BitStrings.{length_digits}
use Rattle.laws.proofs.Multiples.{shift_block}
use Rattle.laws.proofs.AesBlocks.{AllBlocks, AES_block}

-- ---- numbers

-- digits to the base 256 are bytes
digits_bytes : (t n : ℕ) → Below 256 (digits 256 t n)
unfolding digits
digits_bytes zero n = tt
digits_bytes (suc t) n = below_append 256 (digits 256 t (n / 256)) (n % 256 ∷ []) (digits_bytes t (n / 256)) (mod-lt n (zero-lt-suc 255), tt)

pub number_block : (n : ℕ) → Block (number n)
number_block n = record { len = length_digits 256 16 n; low = digits_bytes 16 n }

-- ---- multiples

pub double_block : {X : Bytes} → Block X → Block (double X)
unfolding double
double_block {X} p = ⊕_block (shift_block X p) (number_block (135 * msb (bits X)))

bits_block : (k n : ℕ) {X : Bytes} → Block X → Block (times_bits k n X)
unfolding times_bits
bits_block zero n p = zero_digits 8 16
bits_block (suc k) zero p = zero_digits 8 16
bits_block (suc k) (suc n) {X} p = go (eqb (suc n % 2) 0) (double_block (bits_block k (suc n / 2) p))
  where
    go : (t : Bool) {Y : Bytes} → Block Y → Block (if t then Y else Y ⊕ X)
    go true q = q
    go false q = ⊕_block q p

pub times_block : (n : ℕ) {X : Bytes} → Block X → Block (n · X)
unfolding ◌·◌
times_block n p = bits_block n n p

pub two_to_block : (e : ℕ) {X : Bytes} → Block X → Block (two_to e X)
unfolding two_to
two_to_block zero p = p
two_to_block (suc e) p = double_block (two_to_block e p)

-- ---- the key and E

-- a key of three blocks
pub record KeyBytes (K : Key) : Type 0 where
  pub I : Block K.I
  pub J : Block K.J
  pub L : Block K.L

pub key_of_bytes : {K : Bytes} → Digits 8 48 K → KeyBytes (key_of K)
unfolding key_of
key_of_bytes p = record {
  I = take_digits 16 (omega arith) p;
  J = take_digits 16 (omega arith) (drop_digits 16 p);
  L = drop_digits 32 p;
}

module _ (K : Key) (k : KeyBytes K) where
  no_key : Block zeros
  no_key = zero_digits 8 16

  k0_blocks : AllBlocks (k0 K)
  k0_blocks = (no_key, (k.I, (k.J, (k.L, (no_key, tt)))))

  k1_blocks : AllBlocks (k1 K)
  k1_blocks = (no_key, (k.J, (k.L, (k.I, (no_key, tt)))))

  k2_blocks : AllBlocks (k2 K)
  k2_blocks = (no_key, (k.L, (k.I, (k.J, (k.I, tt)))))

  K10_blocks : AllBlocks (K10 K)
  K10_blocks = (no_key, (k.I, (k.L, (k.J, (k.I, (k.L, (k.J, (k.I, (k.L, (k.J, (k.I, tt)))))))))))

  masked_block : (j : ℕ) {X : Bytes} → Block X → Block (masked K j X)
  masked_block j p = ⊕_block (⊕_block p (times_block (j % 8) k.J)) (two_to_block ((j - 1) / 8) k.L)

  hash_row_block : (i j : ℕ) {X : Bytes} → Block X → Block (hash_row K i j X)
  unfolding hash_row
  hash_row_block i zero p = AES_block (k0 K) k0_blocks (⊕_block p (times_block ((i - 2) * 8) k.J))
  hash_row_block i (suc j) p = AES_block (k0 K) k0_blocks (⊕_block (masked_block (suc j) p) (times_block ((i - 2) * 8) k.J))

pub E_block : {K : Key} → KeyBytes K → GivesBlocks (E K)
unfolding E
E_block {K} k minus1 j X p = AES_block (K10 K) (K10_blocks K k) (⊕_block p (times_block j k.J))
E_block {K} k (row zero) j X p = AES_block (k0 K) (k0_blocks K k) (⊕_block p (times_block j k.J))
E_block {K} k (row (suc zero)) j X p = AES_block (k1 K) (k1_blocks K k) (masked_block K k j p)
E_block {K} k (row (suc (suc zero))) j X p = AES_block (k2 K) (k2_blocks K k) (masked_block K k j p)
E_block {K} k (row (suc (suc (suc i)))) j X p = hash_row_block K k (suc (suc (suc i))) j p
