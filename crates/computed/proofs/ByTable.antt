-- The block function with another function for the S-box, so that it can be computed by the table, and that it is E.
use mathlib.Core.List.{List, [], ◌∷◌, map}
use mathlib.Core.Path.{◌≡◌, refl, ap, fun_ext, ◌∙◌}
use Prim.Native.Nat.{ℕ, zero, suc, ◌-◌, ◌*◌}
use Rattle.paper.specs.Strings.{Bytes, ◌⊕◌}
use Rattle.paper.specs.Fips197.{sbox, SubBytes, ShiftRows, MixColumns}
use Rattle.paper.specs.Section7.{◌·◌, aesenc, rounds, AES}
use Rattle.paper.specs.Figure6.{Row, minus1, row, Key, k0, k1, k2, K10, masked, hash_row, E, BlockFunction}
use Rattle.sbox_rule.proofs.SBox.{looked, by_table}

module _ (S : ℕ → ℕ) where
  unfoldable pub rounds_by : List Bytes → Bytes → Bytes
  rounds_by [] X = X
  rounds_by (K ∷ Ks) X = rounds_by Ks (MixColumns (ShiftRows (map S X)) ⊕ K)

  unfoldable pub AESBy : List Bytes → Bytes → Bytes
  AESBy [] X = X
  AESBy (K0 ∷ Ks) X = rounds_by Ks (X ⊕ K0)

rounds_same : (Ks : List Bytes) (X : Bytes) → rounds Ks X ≡ rounds_by sbox Ks X
unfolding rounds rounds_by aesenc SubBytes
rounds_same [] X = refl
rounds_same (K ∷ Ks) X = rounds_same Ks (aesenc X K)

AES_same : (Ks : List Bytes) (X : Bytes) → AES Ks X ≡ AESBy sbox Ks X
unfolding AES AESBy
AES_same [] X = refl
AES_same (K ∷ Ks) X = rounds_same Ks (X ⊕ K)

-- E, over its AES
module _ (A : List Bytes → Bytes → Bytes) (K : Key) where
  unfoldable pub hash_row_over : ℕ → ℕ → Bytes → Bytes
  hash_row_over i zero X = A (k0 K) (X ⊕ ((i - 2) * 8) · K.J)
  hash_row_over i (suc j) X = A (k0 K) (masked K (suc j) X ⊕ ((i - 2) * 8) · K.J)

  unfoldable pub EOver : BlockFunction
  EOver minus1 j X = A (K10 K) (X ⊕ j · K.J)
  EOver (row zero) j X = A (k0 K) (X ⊕ j · K.J)
  EOver (row (suc zero)) j X = A (k1 K) (masked K j X)
  EOver (row (suc (suc zero))) j X = A (k2 K) (masked K j X)
  EOver (row (suc (suc (suc i)))) j X = hash_row_over (suc (suc (suc i))) j X

hash_row_same : (K : Key) (i j : ℕ) (X : Bytes) → hash_row K i j X ≡ hash_row_over AES K i j X
unfolding hash_row hash_row_over
hash_row_same K i zero X = refl
hash_row_same K i (suc j) X = refl

E_same : (K : Key) (r : Row) (j : ℕ) (X : Bytes) → E K r j X ≡ EOver AES K r j X
unfolding E EOver
E_same K minus1 j X = refl
E_same K (row zero) j X = refl
E_same K (row (suc zero)) j X = refl
E_same K (row (suc (suc zero))) j X = refl
E_same K (row (suc (suc (suc i)))) j X = hash_row_same K (suc (suc (suc i))) j X

abbrev pub AES_looked : List Bytes → Bytes → Bytes
AES_looked = AESBy looked

pub AES_by_table : AES ≡ AES_looked
AES_by_table = fun_ext (λ Ks. fun_ext (λ X. AES_same Ks X)) ∙ ap AESBy (fun_ext by_table)

abbrev pub E_looked : Key → BlockFunction
E_looked K = EOver AES_looked K

pub E_by_table : (K : Key) → E K ≡ E_looked K
E_by_table K = fun_ext (λ r. fun_ext (λ j. fun_ext (λ X. E_same K r j X))) ∙ ap (λ (A : List Bytes → Bytes → Bytes). EOver A K) AES_by_table
