-- What the calls of E have in common: the masks of lines 404 to 406, and the keys that they stand in.
use mathlib.Core.List.{List, ◌∷◌}
use mathlib.Core.Path.{◌≡◌, refl, ap, sym, ◌∙◌}
use Prim.Native.Nat.{ℕ, ◌-◌, ◌*◌, ◌/◌, ◌%◌, ◌≤◌}
use native.Mathlib.Omega.{arith}
use lib.ListN.{drop}
use Rattle.paper.specs.Strings.{Bytes, Block, ◌⊕◌}
use Rattle.paper.specs.Section7.{zeros, two_to, ◌·◌, AES}
use Rattle.paper.specs.Figure6 as figure6
use Rattle.laws.proofs.Digits.{⊕_block}
use Rattle.laws.proofs.KeyBlocks.{times_block, two_to_block}
use Rattle.laws.proofs.Round.{AES_mask}
use Rattle.laws.proofs.Strings.{⊕_assoc}
use Rattle.columns.specs.Columns.{columns_of, block_of}
use Rattle.columns.proofs.Conversions.{made, sum_of}
use Rattle.aes.specs.Steps.{keys_of}
use Rattle.circuit.specs.Planes.{lane}
use Rattle.sub_bytes.specs.Planes.{plane_bytes, crossed_bytes}
use Rattle.multiples.specs.Eight.{four_at}
use Rattle.multiples.proofs.Kept.{kept}
use Rattle.pairs.specs.declared.Pair.{Pair}
use Rattle.tbc.specs.Meaning.{base, OfJ, masked0, Running}
use Rattle.tbc.specs.declared.Base.{Base}
use Rattle.tbc.proofs.Keys.{base_bytes}

-- (j mod 8)·J ⊕ 2^floor((j - 1) / 8)·L, which `Figure6.masked` adds
abbrev pub running_mask : Base → ℕ → Bytes
running_mask k j = (j % 8) · (base k).J ⊕ two_to ((j - 1) / 8) (base k).L

pub running_mask_block : (k : Base) (j : ℕ) → Block (running_mask k j)
running_mask_block k j = ⊕_block (times_block (j % 8) (base_bytes k).J) (two_to_block ((j - 1) / 8) (base_bytes k).L)

-- the masks that are read, of the multiples m that are lent
module _ (k : Base) (m : List ℕ) (of : OfJ k m) where
  -- lines 404 and 405: j·J
  pub read : (j : ℕ) → j ≤ 7 → four_at m (4 * (j % 8)) ≡ columns_of (j · (base k).J)
  read j h =
      let small : j % 8 ≡ j = omega arith in
      kept (base k).J m of (j % 8) (omega arith) ∙ ap (λ (n : ℕ). columns_of (n · (base k).J)) small

  -- lines 406 and 408, from what `running_mask` returns: (j mod 8)·J ⊕ 2^floor((j - 1) / 8)·L
  pub running_is : (p : Pair) (power r : List ℕ) → Running k p power → r ≡ columns_of (block_of (four_at m (4 * (p.number % 8))) ⊕ block_of power)
      → r ≡ columns_of (running_mask k p.number)
  running_is p power r h e =
      sum_of (times_block (p.number % 8) (base_bytes k).J) (two_to_block ((p.number - 1) / 8) (base_bytes k).L) (kept (base k).J m of (p.number % 8) (omega arith)) h.carried e

-- AES under keys of which the first is the mask M: the mask is added, and the zero key with it
pub with_mask : (Ks : List Bytes) (keys : List (List ℕ)) (mask : List ℕ) (M x r : Bytes) → Block M → Block x → mask ≡ columns_of M
    → keys_of keys ≡ block_of mask ∷ Ks → r ≡ AES (keys_of keys) x → r ≡ AES (zeros ∷ Ks) (x ⊕ M)
with_mask Ks keys mask M x r p q e f g =
    g ∙ ap (λ (l : List Bytes). AES l x) (f ∙ ap (λ (N : Bytes). N ∷ Ks) (made p e)) ∙ AES_mask Ks q p

-- the keys that `masked0` names: the last is zero, and zeros stay zeros when they are crossed
pub first_masked : (k : Base) (mask : List ℕ) → keys_of (masked0 k mask) ≡ block_of mask ∷ drop 1 (figure6.k0 (base k))
unfolding crossed_bytes plane_bytes lane
first_masked k mask = refl

-- what E gives, from the mask that was read and the keys that it stands in
module _ (k : Base) (m : List ℕ) (of : OfJ k m) (Ks : List Bytes) (keys : List (List ℕ)) (mask : List ℕ) {x r : Bytes} (q : Block x)
    (f : keys_of keys ≡ block_of mask ∷ Ks) (g : r ≡ AES (keys_of keys) x) where
  pub under_read : (j : ℕ) → j ≤ 7 → mask ≡ four_at m (4 * (j % 8)) → r ≡ AES (zeros ∷ Ks) (x ⊕ j · (base k).J)
  under_read j h e = with_mask Ks keys mask (j · (base k).J) x r (times_block j (base_bytes k).J) q (e ∙ read k m of j h) f g

  pub under_running : (p : Pair) (power : List ℕ) → Running k p power → mask ≡ columns_of (block_of (four_at m (4 * (p.number % 8))) ⊕ block_of power)
      → r ≡ AES (zeros ∷ Ks) (figure6.masked (base k) p.number x)
  under_running p power h e =
      with_mask Ks keys mask (running_mask k p.number) x r (running_mask_block k p.number) q (running_is k m of p power mask h e) f g
      ∙ ap (AES (zeros ∷ Ks)) (sym (⊕_assoc x ((p.number % 8) · (base k).J) (two_to ((p.number - 1) / 8) (base k).L)))
