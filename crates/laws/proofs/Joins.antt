-- Sums and joins of strings that are counted from 1.
use mathlib.Core.List.{◌++◌, append_assoc, append-nil}
use mathlib.Core.Path.{◌≡◌, refl, ap, ap₂, sym, ◌∙◌}
use Prim.Native.Nat.{ℕ, zero, suc, ◌+◌, ◌-◌, ◌*◌, ◌≤◌}
use native.Mathlib.Decide.{dec_le}
use native.Mathlib.Nat.{add-zero, add-suc, mul-suc}
use native.Mathlib.Numerals.{add-one}
use native.Mathlib.Omega.{arith}
use lib.ListN.{length, take, drop, length-append}
use lib.Seq.{take_at, drop_at}
use Rattle.paper.specs.Strings.{Bytes, Digits, Block, ◌⊕◌, sum, join}
use Rattle.laws.proofs.Strings.{⊕_assoc, ⊕_zeros, ⊕_short}
use Rattle.laws.proofs.Digits.{⊕_digits, append_digits, zero_digits, as_digits}

-- P holds of each number from 1 to m
abbrev pub UpTo : ℕ → (ℕ → Type 0) → Type 0
UpTo m P = (i : ℕ) → 1 ≤ i → i ≤ m → P i

fewer : (m : ℕ) (P : ℕ → Type 0) → UpTo (suc m) P → UpTo m P
fewer m P h i a b = h i a (omega arith)

last : (m : ℕ) (P : ℕ → Type 0) → UpTo (suc m) P → P (suc m)
last m P h = h (suc m) (omega arith) (omega arith)

pub sum_ext : (m : ℕ) (f g : ℕ → Bytes) → UpTo m (λ i. f i ≡ g i) → sum m f ≡ sum m g
unfolding sum
sum_ext zero f g h = refl
sum_ext (suc m) f g h = ap₂ ◌⊕◌ (sum_ext m f g (fewer m (λ i. f i ≡ g i) h)) (last m (λ i. f i ≡ g i) h)

pub sum_block : (m : ℕ) (f : ℕ → Bytes) → UpTo m (λ i. Block (f i)) → Block (sum m f)
unfolding sum
sum_block zero f h = zero_digits 8 16
sum_block (suc m) f h = ⊕_digits (sum_block m f (fewer m (λ i. Block (f i)) h)) (last m (λ i. Block (f i)) h) (omega arith)

pub join_ext : (m : ℕ) (f g : ℕ → Bytes) → UpTo m (λ i. f i ≡ g i) → join m f ≡ join m g
unfolding join
join_ext zero f g h = refl
join_ext (suc m) f g h = ap₂ ◌++◌ (join_ext m f g (fewer m (λ i. f i ≡ g i) h)) (last m (λ i. f i ≡ g i) h)

-- strings of w bytes joined
pub join_bytes : (w m : ℕ) (f : ℕ → Bytes) → UpTo m (λ i. Digits 8 w (f i)) → Digits 8 (w * m) (join m f)
unfolding join
join_bytes w zero f h = as_digits (omega arith) (zero_digits 8 0)
join_bytes w (suc m) f h =
    as_digits (sym (mul-suc w m)) (append_digits (join_bytes w m f (fewer m (λ i. Digits 8 w (f i)) h)) (last m (λ i. Digits 8 w (f i)) h))

-- pairs of blocks joined
pub join_digits : (m : ℕ) (f : ℕ → Bytes) → UpTo m (λ i. Digits 8 32 (f i)) → Digits 8 (32 * m) (join m f)
join_digits m f h = join_bytes 32 m f h

-- strings of w entries joined: how long that is
join_long : (w m : ℕ) (f : ℕ → Bytes) → UpTo m (λ i. length (f i) ≡ w) → length (join m f) ≡ w * m
unfolding join
join_long w zero f h = omega arith
join_long w (suc m) f h =
    length-append (join m f) (f (suc m))
    ∙ ap₂ ◌+◌ (join_long w m f (fewer m (λ i. length (f i) ≡ w) h)) (last m (λ i. length (f i) ≡ w) h)
    ∙ sym (mul-suc w m)

-- the i-th of them
pub join_at : (w m i : ℕ) (f : ℕ → Bytes) (R : Bytes) → UpTo m (λ i. length (f i) ≡ w) → 1 ≤ i → i ≤ m
    → take w (drop (w * (i - 1)) (join m f ++ R)) ≡ f i
unfolding join
join_at w zero i f R h a b = absurd (omega arith)
join_at w (suc m) i f R h a b = go (dec_le i m) (λ c. join_at w m i f (f (suc m) ++ R) before a c)
  where
    before : UpTo m (λ i. length (f i) ≡ w)
    before = fewer m (λ i. length (f i) ≡ w) h

    go : Dec (i ≤ m) → (i ≤ m → take w (drop (w * (i - 1)) (join m f ++ (f (suc m) ++ R))) ≡ f i)
        → take w (drop (w * (i - 1)) ((join m f ++ f (suc m)) ++ R)) ≡ f i
    go (yes c) ih = ap (λ (l : Bytes). take w (drop (w * (i - 1)) l)) (append_assoc (join m f) (f (suc m)) R) ∙ ih c
    go (no c) ih =
        let e : suc m ≡ i = omega (arith, c) in
        let n : m ≡ i - 1 = omega arith in
        let long : length (join m f) ≡ w * (i - 1) = join_long w m f before ∙ ap (λ (k : ℕ). w * k) n in
        ap (λ (l : Bytes). take w (drop (w * (i - 1)) l)) (append_assoc (join m f) (f (suc m)) R)
        ∙ ap (take w) (drop_at (join m f) (f (suc m) ++ R) (w * (i - 1)) long)
        ∙ take_at (f (suc m)) R w (last m (λ i. length (f i) ≡ w) h)
        ∙ ap f e

-- a join with its next string
pub join_more : (i : ℕ) (f : ℕ → Bytes) → join (i + 1) f ≡ join i f ++ f (i + 1)
unfolding join
join_more i f = ap (λ (n : ℕ). join n f) (add-one i) ∙ ap (λ (n : ℕ). join i f ++ f n) (sym (add-one i))

-- a sum with its next term, counted as a loop does
pub sum_more : (j : ℕ) (f : ℕ → Bytes) → 1 ≤ j → sum (j + 1 - 1) f ≡ sum (j - 1) f ⊕ f j
unfolding sum
sum_more zero f h = absurd (omega arith)
sum_more (suc j) f h =
    let next : suc j + 1 - 1 ≡ suc j = omega arith in
    let this : j ≡ suc j - 1 = omega arith in
    ap (λ (n : ℕ). sum n f) next ∙ ap (λ (n : ℕ). sum n f ⊕ f (suc j)) this

-- a join of the first a strings and of n more
pub join_plus : (a n : ℕ) (f : ℕ → Bytes) → join (a + n) f ≡ join a f ++ join n (λ i. f (a + i))
unfolding join
join_plus a zero f = ap (λ (k : ℕ). join k f) (add-zero a) ∙ sym (append-nil (join a f))
join_plus a (suc n) f =
    ap (λ (k : ℕ). join k f) (add-suc a n)
    ∙ ap₂ (λ (l : Bytes) (k : ℕ). l ++ f k) (join_plus a n f) (sym (add-suc a n))
    ∙ append_assoc (join a f) (join n (λ i. f (a + i))) (f (a + suc n))

-- a sum is no longer than the block of zeros that it begins with
sum_short : (n : ℕ) (f : ℕ → Bytes) → length (sum n f) ≤ 16
unfolding sum
sum_short zero f = omega arith
sum_short (suc n) f = omega (arith, ⊕_short (sum n f) (f (suc n)), sum_short n f)

-- a sum of the first a terms and of n more
pub sum_plus : (a n : ℕ) (f : ℕ → Bytes) → sum (a + n) f ≡ sum a f ⊕ sum n (λ i. f (a + i))
unfolding sum
sum_plus a zero f = ap (λ (k : ℕ). sum k f) (add-zero a) ∙ sym (⊕_zeros 16 (sum a f) (sum_short a f))
sum_plus a (suc n) f =
    ap (λ (k : ℕ). sum k f) (add-suc a n)
    ∙ ap₂ (λ (l : Bytes) (k : ℕ). l ⊕ f k) (sum_plus a n f) (sym (add-suc a n))
    ∙ ⊕_assoc (sum a f) (sum n (λ i. f (a + i))) (f (a + suc n))
