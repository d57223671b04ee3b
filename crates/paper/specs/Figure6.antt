-- Figure 6 of the AEZ paper: the block function E, AEZ-hash and AEZ-prf. The numbers are the figure's lines.
-- The figure is partial: (1, 0), (2, 0), and numbers above 7 in rows -1 and 0 are not defined there. E is total: it goes on by the
-- same formulas, with 0 - 1 = 0. `Defined` is the figure's own domain.
use Rattle.std.specs.Prelude.{List, [], ◌∷◌, ℕ, zero, suc, ◌+◌, ◌-◌, ◌*◌, ◌/◌, ◌%◌, ◌≤◌, max, eqb, length, take, drop, if◌then◌else◌}
use Rattle.paper.specs.Strings.{Bytes, ◌⊕◌, pad10*, number, sum, join}
use Rattle.paper.specs.Section7.{zeros, ◌·◌, two_to, AES4, AES10}

-- the first index: -1, or a number
pub data Row : Type 0 where
  minus1 : Row
  row : ℕ → Row

-- the key, after Extract: three blocks
pub record Key : Type 0 where
  pub I : Bytes
  pub J : Bytes
  pub L : Bytes

-- 401: I ‖ J ‖ L, of the 48 bytes that 01 starts from
unfoldable pub key_of : Bytes → Key
key_of K = record { I = take 16 K; J = take 16 (drop 16 K); L = drop 32 K }

-- 404 to 409: where the figure defines E
abbrev pub Defined : Row → ℕ → Type 0
Defined minus1 j = j ≤ 7
Defined (row zero) j = j ≤ 7
Defined (row (suc zero)) j = 1 ≤ j
Defined (row (suc (suc zero))) j = 1 ≤ j
Defined (row (suc (suc (suc i)))) j = Unit {0}

module _ (K : Key) where
  -- 402: our copy prints I as the last key of k2
  abbrev pub k0 : List Bytes
  k0 = zeros ∷ K.I ∷ K.J ∷ K.L ∷ zeros ∷ []

  abbrev pub k1 : List Bytes
  k1 = zeros ∷ K.J ∷ K.L ∷ K.I ∷ zeros ∷ []

  abbrev pub k2 : List Bytes
  k2 = zeros ∷ K.L ∷ K.I ∷ K.J ∷ K.I ∷ []

  -- 403
  abbrev pub K10 : List Bytes
  K10 = zeros ∷ K.I ∷ K.L ∷ K.J ∷ K.I ∷ K.L ∷ K.J ∷ K.I ∷ K.L ∷ K.J ∷ K.I ∷ []

  -- 406, 408: (j mod 8)·J ⊕ 2^floor((j - 1) / 8)·L
  abbrev pub masked : ℕ → Bytes → Bytes
  masked j X = X ⊕ (j % 8) · K.J ⊕ two_to ((j - 1) / 8) K.L

  -- 407 to 409: rows from 3 on
  unfoldable pub hash_row : ℕ → ℕ → Bytes → Bytes
  hash_row i zero X = AES4 k0 (X ⊕ ((i - 2) * 8) · K.J)
  hash_row i (suc j) X = AES4 k0 (masked (suc j) X ⊕ ((i - 2) * 8) · K.J)

  -- 400: E^{i,j}(X)
  unfoldable pub E : Row → ℕ → Bytes → Bytes
  E minus1 j X = AES10 K10 (X ⊕ j · K.J)
  E (row zero) j X = AES4 k0 (X ⊕ j · K.J)
  E (row (suc zero)) j X = AES4 k1 (masked j X)
  E (row (suc (suc zero))) j X = AES4 k2 (masked j X)
  E (row (suc (suc (suc i)))) j X = hash_row (suc (suc (suc i))) j X

-- A block function by its two indices: E of a key, or any other
abbrev pub BlockFunction : Type 0
BlockFunction = Row → ℕ → Bytes → Bytes

-- 303: X_j, counted from 1, of X_1 .. X_m
abbrev pub block_at : Bytes → ℕ → Bytes
block_at T j = take 16 (drop (16 * (j - 1)) T)

module _ (E : BlockFunction) where
  -- 303 to 306: Δ_i, of the i-th string T
  unfoldable pub hash_string : ℕ → Bytes → Bytes
  hash_string i T =
      let m = max 1 ((length T + 15) / 16) in
      if eqb (length (block_at T m)) 16
      then sum m (λ j. E (row (2 + i)) j (block_at T j))
      else sum (m - 1) (λ j. E (row (2 + i)) j (block_at T j)) ⊕ E (row (2 + i)) 0 (pad10* (block_at T m))

  -- 302, 307: Δ_i ⊕ .. ⊕ Δ_t ⊕ 0
  unfoldable pub hash_from : ℕ → List Bytes → Bytes
  hash_from i [] = zeros
  hash_from i (T ∷ Ts) = hash_string i T ⊕ hash_from (i + 1) Ts

  -- 300
  unfoldable pub AEZ_hash : List Bytes → Bytes
  AEZ_hash T = hash_from 1 T

  -- 312, cut to t bytes: block i, counted from 1, is E of Δ ⊕ [i - 1]_128
  unfoldable pub prf_from : Bytes → ℕ → Bytes
  prf_from Δ t = take t (join ((t + 15) / 16) (λ i. E minus1 3 (Δ ⊕ number (i - 1))))

  -- 310, 311
  unfoldable pub AEZ_prf : List Bytes → ℕ → Bytes
  AEZ_prf T t = prf_from (AEZ_hash T) t
