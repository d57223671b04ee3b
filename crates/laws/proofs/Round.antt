-- The AES round: multiples of bytes with no branch, MixColumns on all columns at once, and rounds one after the other.
use mathlib.Core.List.{List, [], ◌∷◌, ◌++◌, map}
use mathlib.Core.Path.{◌≡◌, refl, ap, ap₂, sym, ◌∙◌}
use Prim.Native.Nat.{ℕ, zero, suc, ◌+◌, ◌-◌, ◌*◌, ◌/◌, ◌%◌, ◌≤◌, ◌<◌}
use native.Mathlib.Omega.{arith}
use lib.Bits.{bit_xor, xor_comm, xor_zero_r, xor_lt, xor_shr}
use lib.Dec.{eqb}
use lib.ListN.{length, get_or, take, drop}
use lib.Seq.{take-suc, take_all}
use Rattle.std.specs.Prelude.{if◌then◌else◌}
use Rattle.paper.specs.Strings.{Bytes, Block, tab, zip, ◌⊕◌}
use Rattle.paper.specs.Fips197.{xtime, ◌•◌, mul_bits, at, state, MixColumns}
use Rattle.paper.specs.Section7.{zeros, aesenc, rounds, AES}
use Rattle.laws.proofs.Digits.{⊕_block}
use Rattle.laws.proofs.Strings.{⊕_zeros}
use Rattle.laws.proofs.Tables.{tab_entries}
use Rattle.laws.proofs.Xor.{xor_assoc, xor_left_comm, xor_exchange, shift_xor, bit_times}

-- ---- multiples of bytes

by_top : (t v : ℕ) → t < 2 → (if eqb t 0 then v else bit_xor v 27) ≡ bit_xor v (t * 27)
by_top zero v h = sym (xor_zero_r v)
by_top (suc zero) v h = refl
by_top (suc (suc t)) v h = absurd (omega arith)

-- the bit that is lost, times 1b, is what xtime adds
pub xtime_mask : (x : ℕ) → x < 256 → xtime x ≡ bit_xor (x * 2 % 256) (x / 128 * 27)
xtime_mask x h = by_top (x / 128) (x * 2 % 256) (omega arith)

-- the double of a sum is the sum of the doubles
pub xtime_xor : (a b : ℕ) → a < 256 → b < 256 → xtime (bit_xor a b) ≡ bit_xor (xtime a) (xtime b)
xtime_xor a b h g =
    xtime_mask (bit_xor a b) (xor_lt 8 a b h g)
    ∙ ap₂ bit_xor (shift_xor a b) (ap (λ (t : ℕ). t * 27) (xor_shr a b 7) ∙ bit_times 27 (a / 128) (b / 128) (omega arith) (omega arith))
    ∙ xor_exchange (a * 2 % 256) (b * 2 % 256) (a / 128 * 27) (b / 128 * 27)
    ∙ sym (ap₂ bit_xor (xtime_mask a h) (xtime_mask b g))

-- ---- MixColumns

-- a byte of the result for each row: d is the doubles, s the bytes, each from its row on
mix_row0 : (d0 d1 s1 s2 s3 : ℕ) → bit_xor d0 (bit_xor (bit_xor d1 s1) (bit_xor s2 s3)) ≡ bit_xor (bit_xor (bit_xor d0 (bit_xor d1 s1)) s2) s3
mix_row0 d0 d1 s1 s2 s3 = simp xor_assoc

mix_row1 : (d1 d2 s2 s3 s0 : ℕ) → bit_xor d1 (bit_xor (bit_xor d2 s2) (bit_xor s3 s0)) ≡ bit_xor (bit_xor (bit_xor s0 d1) (bit_xor d2 s2)) s3
mix_row1 d1 d2 s2 s3 s0 = simp (xor_assoc, xor_comm, xor_left_comm)

mix_row2 : (d2 d3 s3 s0 s1 : ℕ) → bit_xor d2 (bit_xor (bit_xor d3 s3) (bit_xor s0 s1)) ≡ bit_xor (bit_xor (bit_xor s0 s1) d2) (bit_xor d3 s3)
mix_row2 d2 d3 s3 s0 s1 = simp (xor_assoc, xor_comm, xor_left_comm)

mix_row3 : (d3 d0 s0 s1 s2 : ℕ) → bit_xor d3 (bit_xor (bit_xor d0 s0) (bit_xor s1 s2)) ≡ bit_xor (bit_xor (bit_xor (bit_xor d0 s0) s1) s2) d3
mix_row3 d3 d0 s0 s1 s2 = simp (xor_assoc, xor_comm, xor_left_comm)

-- each column turned up by one row
abbrev pub turned_columns : Bytes → Bytes
turned_columns s = state (λ r c. at s ((r + 1) % 4) c)

-- 2 of a byte and, turned up, 3 of the byte and the two below it
abbrev pub mixed_all : (ℕ → ℕ) → Bytes → Bytes
mixed_all f s = map f s ⊕ turned_columns ((map f s ⊕ s) ⊕ turned_columns (s ⊕ turned_columns s))

-- the four columns of MixColumns over any doubling f
abbrev mix_columns_by : (ℕ → ℕ) → (ℕ → ℕ) → Bytes
mix_columns_by f s = mix_column_at 0 ++ mix_column_at 4 ++ mix_column_at 8 ++ mix_column_at 12
  where
    mix_column_at : ℕ → Bytes
    mix_column_at c =
        bit_xor (bit_xor (bit_xor (f (s c)) (bit_xor (f (s (c + 1))) (s (c + 1)))) (s (c + 2))) (s (c + 3))
        ∷ bit_xor (bit_xor (bit_xor (s c) (f (s (c + 1)))) (bit_xor (f (s (c + 2))) (s (c + 2)))) (s (c + 3))
        ∷ bit_xor (bit_xor (bit_xor (s c) (s (c + 1))) (f (s (c + 2)))) (bit_xor (f (s (c + 3))) (s (c + 3)))
        ∷ bit_xor (bit_xor (bit_xor (bit_xor (f (s c)) (s c)) (s (c + 1))) (s (c + 2))) (f (s (c + 3)))
        ∷ []

all_columns : (f s : ℕ → ℕ) → mixed_all f (tab 16 s) ≡ mix_columns_by f s
unfolding ◌⊕◌ zip
all_columns f s =
    λ i.
    mix_row0 (f (s 0)) (f (s 1)) (s 1) (s 2) (s 3) i
    ∷ mix_row1 (f (s 1)) (f (s 2)) (s 2) (s 3) (s 0) i
    ∷ mix_row2 (f (s 2)) (f (s 3)) (s 3) (s 0) (s 1) i
    ∷ mix_row3 (f (s 3)) (f (s 0)) (s 0) (s 1) (s 2) i
    ∷ mix_row0 (f (s 4)) (f (s 5)) (s 5) (s 6) (s 7) i
    ∷ mix_row1 (f (s 5)) (f (s 6)) (s 6) (s 7) (s 4) i
    ∷ mix_row2 (f (s 6)) (f (s 7)) (s 7) (s 4) (s 5) i
    ∷ mix_row3 (f (s 7)) (f (s 4)) (s 4) (s 5) (s 6) i
    ∷ mix_row0 (f (s 8)) (f (s 9)) (s 9) (s 10) (s 11) i
    ∷ mix_row1 (f (s 9)) (f (s 10)) (s 10) (s 11) (s 8) i
    ∷ mix_row2 (f (s 10)) (f (s 11)) (s 11) (s 8) (s 9) i
    ∷ mix_row3 (f (s 11)) (f (s 8)) (s 8) (s 9) (s 10) i
    ∷ mix_row0 (f (s 12)) (f (s 13)) (s 13) (s 14) (s 15) i
    ∷ mix_row1 (f (s 13)) (f (s 14)) (s 14) (s 15) (s 12) i
    ∷ mix_row2 (f (s 14)) (f (s 15)) (s 15) (s 12) (s 13) i
    ∷ mix_row3 (f (s 15)) (f (s 12)) (s 12) (s 13) (s 14) i
    ∷ []

pub mix_columns : (s : Bytes) → length s ≡ 16 → mixed_all xtime s ≡ MixColumns s
unfolding MixColumns ◌•◌ mul_bits
mix_columns s e = ap (mixed_all xtime) (tab_entries 16 s e) ∙ all_columns xtime (λ i. get_or s i 0)

-- ---- rounds

rounds_last : (Ks : List Bytes) (K X : Bytes) → rounds (Ks ++ K ∷ []) X ≡ aesenc (rounds Ks X) K
unfolding rounds
rounds_last [] K X = refl
rounds_last (K1 ∷ Ks) K X = rounds_last Ks K (aesenc X K1)

-- round i, under key i of k: the keys before it have had theirs. What would stand past the end, D, is never read
pub rounds_more : (i : ℕ) (k : List Bytes) (D X : Bytes) → 1 ≤ i → i < length k
    → rounds (take (i + 1 - 1) (drop 1 k)) X ≡ aesenc (rounds (take (i - 1) (drop 1 k)) X) (get_or k i D)
rounds_more zero k D X h g = absurd (omega arith)
rounds_more (suc i) [] D X h g = absurd (omega arith)
rounds_more (suc i) (K ∷ k) D X h g =
    let next : suc i + 1 - 1 ≡ suc i = omega arith in
    let this : i ≡ suc i - 1 = omega arith in
    ap (λ (n : ℕ). rounds (take n k) X) next
    ∙ ap (λ (l : List Bytes). rounds l X) (take-suc k i D (omega arith))
    ∙ rounds_last (take i k) (get_or k i D) X
    ∙ ap (λ (n : ℕ). aesenc (rounds (take n k) X) (get_or k i D)) this

-- AES under n + 1 keys: the first is added, and n rounds follow
pub AES_rounds : (n : ℕ) (k : List Bytes) (D X : Bytes) → length k ≡ suc n → AES k X ≡ rounds (take n (drop 1 k)) (X ⊕ get_or k 0 D)
unfolding AES
AES_rounds n [] D X e = absurd (omega arith)
AES_rounds n (K ∷ k) D X e = ap (λ (l : List Bytes). rounds l (X ⊕ K)) (sym (take_all n k (omega arith)))

-- a mask may stand for the zero key that is added with it
pub AES_mask : (Ks : List Bytes) {M X : Bytes} → Block X → Block M → AES (M ∷ Ks) X ≡ AES (zeros ∷ Ks) (X ⊕ M)
unfolding AES
AES_mask Ks {M} {X} p q = ap (rounds Ks) (sym (⊕_zeros 16 (X ⊕ M) (omega (arith, (⊕_block p q).len))))
