-- AEZ-hash gives a block and AEZ-prf as many bytes as are asked for, where the block function takes blocks to blocks.
use mathlib.Core.Bool.{Bool, true, false}
use mathlib.Core.List.{List, [], ◌∷◌}
use mathlib.Core.Path.{◌≡◌, refl, sym, ◌∙◌}
use Prim.Native.Nat.{ℕ, ◌+◌, ◌-◌, ◌*◌, ◌/◌, ◌≤◌, min, max}
use native.Mathlib.Omega.{arith}
use borrow.Author.Tests.{eqb-true, eqb-false}
use lib.Dec.{eqb}
use lib.ListN.{length, drop, length-take, length-drop}
use Rattle.std.specs.Prelude.{if◌then◌else◌}
use Rattle.paper.specs.Strings.{Bytes, Below, Digits, Block, ◌⊕◌, pad10*, number, sum}
use Rattle.paper.specs.Figure6.{minus1, row, BlockFunction, block_at, hash_string, hash_from, AEZ_hash, prf_from, AEZ_prf}
use Rattle.paper.specs.Figure5.{tweak}
use Rattle.laws.proofs.BlockFunction.{GivesBlocks}
use Rattle.laws.proofs.Digits.{⊕_block, take_digits, zero_digits, as_digits, below_take, below_drop}
use Rattle.laws.proofs.Joins.{sum_block, join_bytes}
use Rattle.laws.proofs.Padding.{pad_block}
use Rattle.laws.proofs.Headers.{Readable, AllFit}
use Rattle.laws.proofs.KeyBlocks.{number_block}

-- every string of a list is bytes
abbrev pub AllBytes : List Bytes → Type 0
AllBytes [] = Unit {0}
AllBytes (T ∷ Ts) = Below 256 T × AllBytes Ts

-- block j of a string is bytes, 16 or what is left
cut_bytes : (T : Bytes) (j : ℕ) → Below 256 T → Digits 8 (min 16 (length T - 16 * (j - 1))) (block_at T j)
cut_bytes T j p = record {
  len = rw (length-take, length-drop);
  low = below_take 256 16 (drop (16 * (j - 1)) T) (below_drop 256 (16 * (j - 1)) T p);
}

-- block j of n bytes is full where a later one is
full_before : (n m j : ℕ) → min 16 (n - 16 * (m - 1)) ≡ 16 → 1 ≤ j → j ≤ m → min 16 (n - 16 * (j - 1)) ≡ 16
full_before n m j e a b = omega arith

-- and where it is not the last
full_inner : (n j : ℕ) → 1 ≤ j → j ≤ max 1 ((n + 15) / 16) - 1 → min 16 (n - 16 * (j - 1)) ≡ 16
full_inner n j a b = omega arith

module _ (f : BlockFunction) (f_block : GivesBlocks f) where
  -- lines 303 to 306
  string_block : (i : ℕ) (T : Bytes) → Below 256 T → Block (hash_string f i T)
  unfolding hash_string
  string_block i T p = go (eqb (length (block_at T m)) 16) refl
    where
      m : ℕ
      m = max 1 ((length T + 15) / 16)

      at : ℕ → Bytes
      at j = f (row (2 + i)) j (block_at T j)

      -- a block that is full
      full : (j : ℕ) → min 16 (length T - 16 * (j - 1)) ≡ 16 → Block (at j)
      full j e = f_block (row (2 + i)) j (block_at T j) (as_digits e (cut_bytes T j p))

      go : (t : Bool) → eqb (length (block_at T m)) 16 ≡ t
          → Block (if t then sum m at else sum (m - 1) at ⊕ f (row (2 + i)) 0 (pad10* (block_at T m)))
      go true e = sum_block m at (λ j a b. full j (full_before (length T) m j (sym (cut_bytes T m p).len ∙ eqb-true (length (block_at T m)) 16 e) a b))
      go false e =
          ⊕_block (sum_block (m - 1) at (λ j a b. full j (full_inner (length T) j a b)))
          (f_block (row (2 + i)) 0 (pad10* (block_at T m))
          (pad_block (cut_bytes T m p) (omega (arith, eqb-false (length (block_at T m)) 16 e, (cut_bytes T m p).len))))

  from_block : (i : ℕ) (T : List Bytes) → AllBytes T → Block (hash_from f i T)
  unfolding hash_from
  from_block i [] p = zero_digits 8 16
  from_block i (T ∷ Ts) p = ⊕_block (string_block i T p.0) (from_block (i + 1) Ts p.1)

  pub hash_block : (T : List Bytes) → AllBytes T → Block (AEZ_hash f T)
  unfolding AEZ_hash
  hash_block T p = from_block 1 T p

  pub prf_bytes : (T : List Bytes) (t : ℕ) → AllBytes T → Digits 8 t (AEZ_prf f T t)
  unfolding AEZ_prf prf_from
  prf_bytes T t p =
      take_digits t (omega arith)
      (join_bytes 16 ((t + 15) / 16) (λ i. f minus1 3 (AEZ_hash f T ⊕ number (i - 1))) (λ i a b. f_block minus1 3 _ (⊕_block (hash_block T p) (number_block (i - 1)))))

-- ---- tweaks

-- the tweak of strings of bytes is strings of bytes
pub tweak_bytes : (t : ℕ) (NA : List Bytes) → AllBytes NA → AllBytes (tweak t NA)
tweak_bytes t NA p = ((number_block (8 * t)).low, p)

fit_bytes : (ss : List Bytes) → AllFit ss → AllBytes ss
fit_bytes [] p = tt
fit_bytes (s ∷ ss) p = (p.0.low, fit_bytes ss p.1)

-- what a header holds is strings of bytes
pub readable_bytes : (ss : List Bytes) → Readable ss → AllBytes ss
readable_bytes ss r = fit_bytes ss r.each
