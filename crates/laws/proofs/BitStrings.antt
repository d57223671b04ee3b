-- Numbers as digits, and byte strings as bit strings: what is written reads back.
use mathlib.Core.List.{List, [], ◌∷◌, ◌++◌, append_assoc, append-nil}
use mathlib.Core.Path.{◌≡◌, refl, ap, ap₂, sym, ◌∙◌}
use Prim.Native.Nat.{ℕ, zero, suc, ◌+◌, ◌*◌, ◌/◌, ◌%◌, ◌^◌, ◌≤◌, ◌<◌}
use native.Mathlib.Nat.{add-zero, add-suc, add_comm, mul-zero, mul-suc, zero-div, zero-mod, pow-zero, pow-suc, pow-succ', div-one, div-div-eq-div-mul, zero-lt-suc, mod-lt, mod-eq_of_lt, div-eq_of_lt, mul_assoc}
use native.Mathlib.Omega.{arith}
use lib.Arith.{mod-mul, digits_div, digits_mod}
use lib.ListN.{length, take, drop, replicate, length-append, replicate-append-replicate, take-append-drop}
use lib.Pow.{pow_pos}
use lib.Seq.{take_at, drop_at, length-take-le}
use Rattle.paper.specs.Strings.{Bits, Below, digits, number, number_bits, bits, value_from, bytes_of, bytes}

-- ---- digits

pub length_digits : (b t n : ℕ) → length (digits b t n) ≡ t
unfolding digits
length_digits b zero n = refl
length_digits b (suc t) n = length-append (digits b t (n / b)) (n % b ∷ []) ∙ omega (arith, length_digits b t (n / b))

-- the lowest digit stands last
pub digits_last : (b t n : ℕ) → digits b (suc t) n ≡ digits b t (n / b) ++ n % b ∷ []
unfolding digits
digits_last b t n = refl

-- the highest digit stands first
pub digits_first_lem : (b t n : ℕ) → digits b (suc t) n ≡ n / b ^ t % b ∷ digits b t n
unfolding digits
digits_first_lem b zero n = ap (λ (m : ℕ). m % b ∷ []) (sym (ap (λ (m : ℕ). n / m) (pow-zero b) ∙ div-one n))
digits_first_lem b (suc t) n =
    ap (λ (l : List ℕ). l ++ n % b ∷ []) (digits_first_lem b t (n / b))
    ∙ ap (λ (m : ℕ). m % b ∷ digits b (suc t) n) (div-div-eq-div-mul n b (b ^ t) ∙ ap (λ (m : ℕ). n / m) (sym (pow-succ' b t)))

-- the digits of n, each from n itself
abbrev pub direct : ℕ → ℕ → ℕ → List ℕ
direct b zero n = []
direct b (suc t) n = n / b ^ t % b ∷ direct b t n

pub digits_direct : (b t n : ℕ) → digits b t n ≡ direct b t n
unfolding digits
digits_direct b zero n = refl
digits_direct b (suc t) n = digits_first_lem b t n ∙ ap (λ (l : List ℕ). n / b ^ t % b ∷ l) (digits_direct b t n)

digits_zero : (b t : ℕ) → digits b t 0 ≡ replicate t 0
unfolding digits
digits_zero b zero = refl
digits_zero b (suc t) =
    digits_first_lem b t 0 ∙ ap₂ (λ (d : ℕ) (l : List ℕ). d ∷ l) (ap (λ (q : ℕ). q % b) (zero-div (b ^ t)) ∙ zero-mod b) (digits_zero b t)

-- the higher s digits, and the lower t
pub digits_split : (b s t n : ℕ) → digits b (s + t) n ≡ digits b s (n / b ^ t) ++ digits b t n
unfolding digits
digits_split b s zero n =
    ap₂ (λ (k m : ℕ). digits b k m) (add-zero s) (sym (ap (λ (m : ℕ). n / m) (pow-zero b) ∙ div-one n)) ∙ sym (append-nil (digits b s (n / b ^ 0)))
digits_split b s (suc t) n =
    ap (λ (k : ℕ). digits b k n) (add-suc s t)
    ∙ ap (λ (l : List ℕ). l ++ n % b ∷ []) (digits_split b s t (n / b))
    ∙ append_assoc (digits b s (n / b / b ^ t)) (digits b t (n / b)) (n % b ∷ [])
    ∙ ap (λ (m : ℕ). digits b s m ++ digits b (suc t) n) (div-div-eq-div-mul n b (b ^ t) ∙ ap (λ (m : ℕ). n / m) (sym (pow-succ' b t)))

-- n modulo a power of 2, by one division by 2
halved : (t n : ℕ) → n % 2 ^ suc t ≡ (n / 2 % 2 ^ t) * 2 + n % 2
halved t n = ap (λ (m : ℕ). n % m) (pow-suc 2 t) ∙ mod-mul n (pow_pos t) (zero-lt-suc 1)

-- t bits see n modulo 2^t alone
pub bits_mod : (t n : ℕ) → digits 2 t (n % 2 ^ t) ≡ digits 2 t n
unfolding digits
bits_mod zero n = refl
bits_mod (suc t) n =
    let low : n % 2 < 2 = mod-lt n (zero-lt-suc 1) in
    ap₂ (λ (h l : ℕ). digits 2 t h ++ l ∷ [])
    (ap (λ (m : ℕ). m / 2) (halved t n) ∙ digits_div (n / 2 % 2 ^ t) low)
    (ap (λ (m : ℕ). m % 2) (halved t n) ∙ digits_mod (n / 2 % 2 ^ t) low)
    ∙ ap (λ (l : List ℕ). l ++ n % 2 ∷ []) (bits_mod t (n / 2))

value_last : (a d : ℕ) (X : List ℕ) → value_from a (X ++ d ∷ []) ≡ value_from a X * 2 + d
unfolding value_from
value_last a d [] = refl
value_last a d (x ∷ X) = value_last (a * 2 + x) d X

-- the number that t bits represent
value_digits : (t n a : ℕ) → value_from a (digits 2 t n) ≡ a * 2 ^ t + n % 2 ^ t
unfolding value_from digits
value_digits zero n a = omega arith
value_digits (suc t) n a =
    let e : a * 2 ^ suc t ≡ a * 2 ^ t * 2 = ap (λ (m : ℕ). a * m) (pow-suc 2 t) ∙ sym (mul_assoc a (2 ^ t) 2) in
    value_last a (n % 2) (digits 2 t (n / 2)) ∙ omega (arith, value_digits t (n / 2) a, halved t n)

-- a number below 256 as a block
pub number_small : (n : ℕ) → n < 256 → number n ≡ replicate 15 0 ++ n ∷ []
unfolding digits
number_small n h =
    let high : n / 256 ≡ 0 = omega arith in
    let low : n % 256 ≡ n = mod-eq_of_lt h in
    ap₂ (λ (q r : ℕ). digits 256 15 q ++ r ∷ []) high low

gone : (n m : ℕ) → n < m → n / m % 256 ≡ 0
gone n m h = ap (λ (q : ℕ). q % 256) (div-eq_of_lt h)

-- a number of 64 bits as a block: eight zeros, and its bytes
pub number_64 : (n : ℕ) → n < 2 ^ 64 → number n ≡ replicate 8 0 ++
    n / 72057594037927936 % 256 ∷ n / 281474976710656 % 256 ∷ n / 1099511627776 % 256 ∷
    n / 4294967296 % 256 ∷ n / 16777216 % 256 ∷ n / 65536 % 256 ∷ n / 256 % 256 ∷ n % 256 ∷ []
number_64 n h =
    digits_direct 256 16 n
    ∙ (λ i.
    gone n (256 ^ 15) (omega arith) i
    ∷ gone n (256 ^ 14) (omega arith) i
    ∷ gone n (256 ^ 13) (omega arith) i
    ∷ gone n (256 ^ 12) (omega arith) i
    ∷ gone n (256 ^ 11) (omega arith) i
    ∷ gone n (256 ^ 10) (omega arith) i
    ∷ gone n (256 ^ 9) (omega arith) i
    ∷ gone n (256 ^ 8) (omega arith) i
    ∷ n / 72057594037927936 % 256 ∷ n / 281474976710656 % 256 ∷ n / 1099511627776 % 256 ∷ n / 4294967296 % 256 ∷ n / 16777216 % 256 ∷ n / 65536 % 256 ∷ n / 256 % 256 ∷ ap (λ (q : ℕ). q % 256) (div-one n) i ∷ [])

-- ---- each entry as t bits

unfoldable pub in_bits : ℕ → List ℕ → Bits
in_bits t [] = []
in_bits t (x ∷ X) = digits 2 t x ++ in_bits t X

module _ (t : ℕ) where
  more : (k : ℕ) → t + t * k ≡ t * suc k
  more k = add_comm t (t * k) ∙ sym (mul-suc t k)

  pub length_in_bits : (X : List ℕ) → length (in_bits t X) ≡ t * length X
  unfolding in_bits
  length_in_bits [] = sym (mul-zero t)
  length_in_bits (x ∷ X) = length-append (digits 2 t x) (in_bits t X) ∙ ap₂ ◌+◌ (length_digits 2 t x) (length_in_bits X) ∙ more (length X)

  pub in_bits_append : (X Y : List ℕ) → in_bits t (X ++ Y) ≡ in_bits t X ++ in_bits t Y
  unfolding in_bits
  in_bits_append [] Y = refl
  in_bits_append (x ∷ X) Y = ap (λ (l : Bits). digits 2 t x ++ l) (in_bits_append X Y) ∙ sym (append_assoc (digits 2 t x) (in_bits t X) (in_bits t Y))

  pub in_bits_zeros : (k : ℕ) → in_bits t (replicate k 0) ≡ replicate (t * k) 0
  unfolding in_bits
  in_bits_zeros zero = ap (λ (m : ℕ). replicate m 0) (sym (mul-zero t))
  in_bits_zeros (suc k) =
      ap₂ ◌++◌ (digits_zero 2 t) (in_bits_zeros k) ∙ replicate-append-replicate t (t * k) 0 ∙ ap (λ (m : ℕ). replicate m 0) (more k)

  module _ (n : ℕ) (X : List ℕ) (h : n ≤ length X) where
    split : in_bits t X ≡ in_bits t (take n X) ++ in_bits t (drop n X)
    split = sym (ap (in_bits t) (take-append-drop n X)) ∙ in_bits_append (take n X) (drop n X)

    first_long : length (in_bits t (take n X)) ≡ t * n
    first_long = length_in_bits (take n X) ∙ ap (λ (k : ℕ). t * k) (length-take-le n X h)

    pub in_bits_take : take (t * n) (in_bits t X) ≡ in_bits t (take n X)
    in_bits_take = ap (take (t * n)) split ∙ take_at (in_bits t (take n X)) (in_bits t (drop n X)) (t * n) first_long

    pub in_bits_drop : drop (t * n) (in_bits t X) ≡ in_bits t (drop n X)
    in_bits_drop = ap (drop (t * n)) split ∙ drop_at (in_bits t (take n X)) (in_bits t (drop n X)) (t * n) first_long

  -- digits to the base 2^t are t bits each
  in_bits_digits : (k n : ℕ) → in_bits t (digits (2 ^ t) k n) ≡ digits 2 (t * k) n
  unfolding in_bits digits
  in_bits_digits zero n = ap (λ (m : ℕ). digits 2 m n) (sym (mul-zero t))
  in_bits_digits (suc k) n =
      in_bits_append (digits (2 ^ t) k (n / 2 ^ t)) (n % 2 ^ t ∷ [])
      ∙ ap₂ ◌++◌ (in_bits_digits k (n / 2 ^ t)) (append-nil (digits 2 t (n % 2 ^ t)) ∙ bits_mod t n)
      ∙ sym (digits_split 2 (t * k) t n)
      ∙ ap (λ (m : ℕ). digits 2 m n) (sym (mul-suc t k))

-- ---- bits and bytes

pub bits_in_bits : (X : List ℕ) → bits X ≡ in_bits 8 X
unfolding bits in_bits
bits_in_bits [] = refl
bits_in_bits (b ∷ X) = ap (λ (l : Bits). digits 2 8 b ++ l) (bits_in_bits X)

pub length_bits : (X : List ℕ) → length (bits X) ≡ 8 * length X
length_bits X = ap length (bits_in_bits X) ∙ length_in_bits 8 X

pub bits_append : (X Y : List ℕ) → bits (X ++ Y) ≡ bits X ++ bits Y
bits_append X Y = bits_in_bits (X ++ Y) ∙ in_bits_append 8 X Y ∙ sym (ap₂ ◌++◌ (bits_in_bits X) (bits_in_bits Y))

-- [n]_128 as bits and as a block
pub bits_number : (n : ℕ) → number_bits n ≡ bits (number n)
bits_number n = sym (bits_in_bits (number n) ∙ in_bits_digits 8 16 n)

byte : (b : ℕ) → b < 256 → value_from 0 (digits 2 8 b) ≡ b
byte b h = value_digits 8 b 0 ∙ omega arith

read : (X : List ℕ) → Below 256 X → bytes_of (length X) (bits X) ≡ X
unfolding bytes_of bits
read [] p = refl
read (b ∷ X) p =
    ap₂ (λ (u v : List ℕ). value_from 0 u ∷ bytes_of (length X) v)
    (take_at (digits 2 8 b) (bits X) 8 (length_digits 2 8 b))
    (drop_at (digits 2 8 b) (bits X) 8 (length_digits 2 8 b))
    ∙ ap₂ (λ (x : ℕ) (l : List ℕ). x ∷ l) (byte b p.0) (read X p.1)

-- the bytes of the bits of X are X
pub bytes_bits : (X : List ℕ) → Below 256 X → bytes (bits X) ≡ X
unfolding bytes
bytes_bits X p =
    let n : length (bits X) / 8 ≡ length X = omega (arith, length_bits X) in
    ap (λ (m : ℕ). bytes_of m (bits X)) n ∙ read X p
