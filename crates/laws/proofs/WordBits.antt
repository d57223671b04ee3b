-- The bits of a word of any width: of a sum, a product and a shift of words, and a word by its bits.
use mathlib.Core.Bool.{Bool, true, false}
use mathlib.Core.List.{List, [], ◌∷◌}
use mathlib.Core.Path.{◌≡◌, refl, ap, ap₂, sym, fun_ext, ◌∙◌}
use Prim.Native.Nat.{ℕ, zero, suc, ◌+◌, ◌-◌, ◌*◌, ◌/◌, ◌%◌, ◌^◌, ◌≤◌, ◌<◌}
use native.Mathlib.Nat.{zero-div, mod-lt, zero-lt-suc, mod-eq_of_lt, pow-suc, mul_assoc, div-one, div-eq_of_lt, lt_of_lt_of_le}
use native.Mathlib.Omega.{arith}
use borrow.Author.Tests.{ltb-true, ltb-false}
use lib.Arith.{mod-mul}
use lib.Bits.{bit_xor, bit_and, xor_shr, xor_mod, and_shr, and_mod, and_mask, shifted_even}
use lib.Dec.{ltb}
use lib.ListN.{get_or, get_or-eq_default}
use lib.Pow.{pow_pos, pow_mono, pow-add, shl-shr, shr-shr, field, mod-mod-pow}
use Rattle.std.specs.Prelude.{if◌then◌else◌}
use Rattle.paper.specs.Strings.{Below, tab_from, tab}
use Rattle.paper.specs.Fips197.{bit}
use Rattle.laws.proofs.Tables.{get_or_tab, length_tab}

-- the number of bits, the lowest first
abbrev pub number : List ℕ → ℕ
number [] = 0
number (b ∷ l) = b + 2 * number l

-- the word of w bits whose bit k is f k
unfoldable pub word_of : ℕ → (ℕ → ℕ) → ℕ
word_of w f = number (tab w f)

-- ---- bits of what the code computes

pub bit_lt : (x k : ℕ) → bit x k < 2
bit_lt x k = mod-lt (x / 2 ^ k) (zero-lt-suc 1)

pub bit_zero : (k : ℕ) → bit 0 k ≡ 0
bit_zero k = ap (λ (v : ℕ). v % 2) (zero-div (2 ^ k))

-- a bit past the width
pub bit_past : (w x k : ℕ) → x < 2 ^ w → w ≤ k → bit x k ≡ 0
bit_past w x k h past = ap (λ (v : ℕ). v % 2) (div-eq_of_lt (lt_of_lt_of_le h (pow_mono past)))

pub bit_xor_lem : (x y k : ℕ) → bit (bit_xor x y) k ≡ bit_xor (bit x k) (bit y k)
bit_xor_lem x y k = ap (λ (v : ℕ). v % 2) (xor_shr x y k) ∙ xor_mod (x / 2 ^ k) (y / 2 ^ k) 1

pub bit_and_lem : (x y k : ℕ) → bit (bit_and x y) k ≡ bit_and (bit x k) (bit y k)
bit_and_lem x y k = ap (λ (v : ℕ). v % 2) (and_shr x y k) ∙ and_mod (x / 2 ^ k) (y / 2 ^ k) 1

pub and_one : (x : ℕ) → x < 2 → bit_and x 1 ≡ x
and_one x h = and_mask x 1 ∙ mod-eq_of_lt h

-- a word moved down by n, and up by n
pub bit_down : (x n k : ℕ) → bit (x / 2 ^ n) k ≡ bit x (n + k)
bit_down x n k = ap (λ (v : ℕ). v % 2) (shr-shr x n k)

pub bit_low : (w x k : ℕ) → k < w → bit (x % 2 ^ w) k ≡ bit x k
bit_low w x k h =
    let whole : w ≡ suc (w - suc k) + k = omega arith in
    let some : suc (w - suc k) ≡ w - suc k + 1 = omega arith in
    ap (λ (n : ℕ). x % 2 ^ n / 2 ^ k % 2) whole
    ∙ ap (λ (v : ℕ). v % 2) (field x (suc (w - suc k)) k)
    ∙ ap (λ (n : ℕ). x / 2 ^ k % 2 ^ n % 2) some
    ∙ mod-mod-pow (x / 2 ^ k) (w - suc k) 1

pub bit_up : (w x n k : ℕ) → k < w → bit (x * 2 ^ n % 2 ^ w) k ≡ (if ltb k n then 0 else bit x (k - n))
bit_up w x n k h = bit_low w (x * 2 ^ n) k h ∙ go (ltb k n) refl
  where
    go : (t : Bool) → ltb k n ≡ t → bit (x * 2 ^ n) k ≡ (if t then 0 else bit x (k - n))
    go true e =
        let below : k < n = ltb-true k n e in
        let parts : n ≡ suc (n - suc k) + k = omega arith in
        ap (λ (m : ℕ). x * 2 ^ m / 2 ^ k % 2) parts
        ∙ ap (λ (v : ℕ). x * v / 2 ^ k % 2) (pow-add 2 (suc (n - suc k)) k)
        ∙ ap (λ (v : ℕ). v / 2 ^ k % 2) (sym (mul_assoc x (2 ^ suc (n - suc k)) (2 ^ k)))
        ∙ ap (λ (v : ℕ). v % 2) (shl-shr (x * 2 ^ suc (n - suc k)) k)
        ∙ shifted_even x (n - suc k)
    go false e =
        let above : n ≤ k = ltb-false k n e in
        let parts : k ≡ n + (k - n) = omega arith in
        ap (bit (x * 2 ^ n)) parts ∙ sym (bit_down (x * 2 ^ n) n (k - n)) ∙ ap (λ (v : ℕ). bit v (k - n)) (shl-shr x n)

-- ---- words by their bits

-- one of two bits, by a test
pub either_lt : (t : Bool) {x y : ℕ} → x < 2 → y < 2 → (if t then x else y) < 2
either_lt true hx hy = hx
either_lt false hx hy = hy

pub tab_bits : (i n : ℕ) (f : ℕ → ℕ) → ((k : ℕ) → f k < 2) → Below 2 (tab_from i n f)
tab_bits i zero f h = tt
tab_bits i (suc n) f h = (h i, tab_bits (suc i) n f h)

pub bit_number : (l : List ℕ) (k : ℕ) → Below 2 l → bit (number l) k ≡ get_or l k 0
bit_number [] k h = bit_zero k
bit_number (b ∷ l) zero h =
    let digit = h.0 in
    omega arith
bit_number (b ∷ l) (suc k) h =
    let digit = h.0 in
    let next : suc k ≡ 1 + k = omega arith in
    let rest : (b + 2 * number l) / 2 ≡ number l = omega arith in
    ap (bit (b + 2 * number l)) next
    ∙ sym (bit_down (b + 2 * number l) 1 k)
    ∙ ap (λ (v : ℕ). bit v k) rest
    ∙ bit_number l k h.1

-- the bits of a word that is known by them
abbrev pub known : ℕ → (ℕ → ℕ) → ℕ → ℕ
known w f k = if ltb k w then f k else 0

pub bit_word : (w : ℕ) (f : ℕ → ℕ) → ((k : ℕ) → f k < 2) → (k : ℕ) → bit (word_of w f) k ≡ known w f k
unfolding word_of
bit_word w f h k = bit_number (tab w f) k (tab_bits 0 w f h) ∙ go (ltb k w) refl
  where
    go : (t : Bool) → ltb k w ≡ t → get_or (tab w f) k 0 ≡ (if t then f k else 0)
    go true e = get_or_tab w k f (ltb-true k w e)
    go false e =
        let past : w ≤ k = ltb-false k w e in
        get_or-eq_default (tab w f) 0 {n = k} (omega (arith, length_tab w f))

-- n bits of x from bit i on
pub number_bits_lem : (i n x : ℕ) → number (tab_from i n (bit x)) ≡ x / 2 ^ i % 2 ^ n
number_bits_lem i zero x = omega arith
number_bits_lem i (suc n) x =
    let half : x / 2 ^ suc i ≡ x / 2 ^ i / 2 = ap (λ (m : ℕ). x / 2 ^ m) (next i) ∙ sym (shr-shr x i 1) in
    ap (λ (v : ℕ). bit x i + 2 * v) (number_bits_lem (suc i) n x ∙ ap (λ (v : ℕ). v % 2 ^ n) half)
    ∙ swapped (x / 2 ^ i) (x / 2 ^ i / 2 % 2 ^ n)
    ∙ sym (ap (λ (m : ℕ). x / 2 ^ i % m) (pow-suc 2 n) ∙ mod-mul (x / 2 ^ i) (pow_pos n) (zero-lt-suc 1))
  where
    next : (i : ℕ) → suc i ≡ i + 1
    next i = omega arith

    swapped : (y v : ℕ) → y % 2 + 2 * v ≡ v * 2 + y % 2
    swapped y v = omega arith

-- the w low bits of x
pub low_bits : (w x : ℕ) → bit (x % 2 ^ w) ≡ known w (bit x)
unfolding word_of
low_bits w x =
    ap (λ (v : ℕ). bit (v % 2 ^ w)) (sym (div-one x))
    ∙ ap bit (sym (number_bits_lem 0 w x))
    ∙ fun_ext (bit_word w (bit x) (bit_lt x))

pub tab_same : (i n : ℕ) (f g : ℕ → ℕ) → ((k : ℕ) → k < i + n → f k ≡ g k) → tab_from i n f ≡ tab_from i n g
tab_same i zero f g h = refl
tab_same i (suc n) f g h =
    ap₂ (λ (x : ℕ) (l : List ℕ). x ∷ l) (h i (omega arith)) (tab_same (suc i) n f g (λ k l. h k (omega arith)))

-- a word is known by its bits
pub by_bits : (w x : ℕ) (f : ℕ → ℕ) → x < 2 ^ w → ((k : ℕ) → k < w → bit x k ≡ f k) → x ≡ word_of w f
unfolding word_of
by_bits w x f h same =
    sym (ap (λ (v : ℕ). v % 2 ^ w) (div-one x) ∙ mod-eq_of_lt h)
    ∙ sym (number_bits_lem 0 w x)
    ∙ ap number (tab_same 0 w (bit x) f (λ k l. same k (omega arith)))
