-- Multiples of blocks: doubling on bytes, and section 7's rules for n·X as equations.
use mathlib.Core.Bool.{Bool}
use mathlib.Core.List.{List, [], ◌∷◌, ◌++◌, append_assoc}
use mathlib.Core.Logic.{◌≢◌}
use mathlib.Core.Path.{◌≡◌, refl, ap, ap₂, sym, ◌∙◌}
use Prim.Native.Nat.{ℕ, zero, suc, ◌+◌, ◌*◌, ◌/◌, ◌%◌, ◌≤◌, ◌<◌}
use native.Mathlib.Nat.{mod-eq_of_lt, mod-lt, zero-lt-suc}
use native.Mathlib.Numerals.{add-one}
use native.Mathlib.Omega.{arith}
use borrow.Author.Tests.{eq-eqb, ne_eqb}
use lib.Bits.{bit_xor, xor_lt, xor_shifted, xor_zero_r}
use lib.Dec.{eqb}
use lib.ListN.{length, get_or, set, drop, length-set, get_or-append, get_or-eq_default}
use lib.Seq.{drop-append-le, get_or-set_same, get_or-set_other}
use Rattle.std.specs.Prelude.{if◌then◌else◌}
use Rattle.paper.specs.Strings.{Bytes, Below, Block, zip, ◌⊕◌, digits, number, bits, value_from, bytes_of, bytes}
use Rattle.paper.specs.Section7.{zeros, shift_left, double, times_bits, ◌·◌, two_to}
use Rattle.laws.proofs.Strings.{⊕_comm, ⊕_zeros, ⊕_last}
use Rattle.laws.proofs.Digits.{below_get_or}
use Rattle.laws.proofs.BitStrings.{digits_first_lem, digits_last, bits_mod, length_bits, bytes_bits, number_small}

-- ---- a shift by one bit, on bytes

-- each byte moved up by one bit, and below it the first bit of the next byte
left_shifted : Bytes → Bytes
left_shifted [] = []
left_shifted (b ∷ X) = bit_xor (b * 2 % 256) (get_or X 0 0 / 128) ∷ left_shifted X

-- a byte moved up, with the bit t below it
moved : (b t : ℕ) → t < 2 → bit_xor (b * 2 % 256) t ≡ b % 128 * 2 + t
moved b t h =
    let up : b * 2 % 256 ≡ b % 128 * 2 = omega arith in
    ap (λ (m : ℕ). bit_xor m t) up ∙ xor_shifted (b % 128) 1 t h

moved_bits : (b t : ℕ) → t < 2 → digits 2 8 (bit_xor (b * 2 % 256) t) ≡ digits 2 7 b ++ t ∷ []
moved_bits b t h =
    let n : ℕ = b % 128 * 2 + t in
    let high : n / 2 ≡ b % 128 = omega arith in
    let low : n % 2 ≡ t = omega arith in
    ap (digits 2 8) (moved b t h)
    ∙ digits_last 2 7 n
    ∙ ap₂ (λ (q r : ℕ). digits 2 7 q ++ r ∷ []) high low
    ∙ ap (λ (l : List ℕ). l ++ t ∷ []) (bits_mod 7 b)

top_lt : (X : Bytes) → Below 256 X → get_or X 0 0 / 128 < 2
top_lt X p = omega (arith, below_get_or 256 0 X (zero-lt-suc 255) p)

-- the first bit of X, then the bits of X shifted, are the bits of X and a 0
shift_bits : (X : Bytes) → Below 256 X → get_or X 0 0 / 128 ∷ bits (left_shifted X) ≡ bits X ++ 0 ∷ []
unfolding bits left_shifted
shift_bits [] p = refl
shift_bits (b ∷ X) p =
    let t : ℕ = get_or X 0 0 / 128 in
    let top : b / 128 ≡ b / 128 % 2 = sym (mod-eq_of_lt (top_lt (b ∷ X) p)) in
    let after : t ∷ bits (left_shifted X) ≡ bits X ++ 0 ∷ [] = shift_bits X p.1 in
    ap (λ (l : List ℕ). b / 128 ∷ (l ++ bits (left_shifted X))) (moved_bits b t (top_lt X p.1))
    ∙ ap (λ (l : List ℕ). b / 128 ∷ l) (append_assoc (digits 2 7 b) (t ∷ []) (bits (left_shifted X)))
    ∙ ap₂ (λ (h : ℕ) (l : List ℕ). h ∷ (digits 2 7 b ++ l)) top after
    ∙ ap (λ (l : List ℕ). b / 128 % 2 ∷ l) (sym (append_assoc (digits 2 7 b) (bits X) (0 ∷ [])))
    ∙ ap (λ (l : List ℕ). (l ++ bits X) ++ 0 ∷ []) (sym (digits_first_lem 2 7 b))

left_shifted_below : (X : Bytes) → Below 256 X → Below 256 (left_shifted X)
unfolding left_shifted
left_shifted_below [] p = tt
left_shifted_below (b ∷ X) p = (
  xor_lt 8 (b * 2 % 256) (get_or X 0 0 / 128) (mod-lt (b * 2) (zero-lt-suc 255)) (omega (arith, top_lt X p.1)),
  left_shifted_below X p.1,
)

left_shifted_length : (X : Bytes) → length (left_shifted X) ≡ length X
unfolding left_shifted
left_shifted_length [] = refl
left_shifted_length (b ∷ X) = ap suc (left_shifted_length X)

module _ (X : Bytes) (p : Block X) where
  some_bits : 1 ≤ length (bits X)
  some_bits = omega (arith, length_bits X, p.len)

  shift_left_lem : bytes (shift_left (bits X)) ≡ left_shifted X
  unfolding shift_left
  shift_left_lem =
      ap bytes (sym (drop-append-le 1 (bits X) (0 ∷ []) some_bits) ∙ sym (ap (drop 1) (shift_bits X p.low)))
      ∙ bytes_bits (left_shifted X) (left_shifted_below X p.low)

  -- X shifted is a block
  pub shift_block : Block (bytes (shift_left (bits X)))
  shift_block = rw shift_left_lem (record { len = left_shifted_length X ∙ p.len; low = left_shifted_below X p.low })

  -- msb(X) is the top bit of byte 0
  first_bit : get_or (bits X) 0 0 ≡ get_or X 0 0 / 128
  first_bit = sym (get_or-append (bits X) (0 ∷ []) 0 0 some_bits) ∙ sym (ap (λ (l : List ℕ). get_or l 0 0) (shift_bits X p.low))

  -- what byte 15 takes where the bit that is lost was 1
  abbrev lost : ℕ
  lost = get_or X 0 0 / 128 * 135

  in_last_byte : double X ≡ set (left_shifted X) 15 (bit_xor (get_or (left_shifted X) 15 0) lost)
  unfolding double
  in_last_byte =
      let n : 135 * get_or (bits X) 0 0 ≡ lost = omega (arith, first_bit) in
      let small : lost < 256 = omega (arith, top_lt X p.low) in
      ap₂ (λ (l : Bytes) (m : ℕ). l ⊕ number m) shift_left_lem n
      ∙ ap (λ (l : Bytes). left_shifted X ⊕ l) (number_small lost small)
      ∙ ⊕_last 15 lost (left_shifted X) (left_shifted_length X ∙ p.len)

-- 2·X, byte by byte: bytes 0 to 14, and byte 15
left_shifted_at : (X : Bytes) (i : ℕ) → i < length X → get_or (left_shifted X) i 0 ≡ bit_xor (get_or X i 0 * 2 % 256) (get_or X (suc i) 0 / 128)
unfolding left_shifted
left_shifted_at [] i h = absurd (omega arith)
left_shifted_at (b ∷ X) zero h = refl
left_shifted_at (b ∷ X) (suc i) h = left_shifted_at X i (omega arith)

module _ (X : Bytes) (p : Block X) where
  pub length_double : length (double X) ≡ 16
  length_double =
      ap length (in_last_byte X p) ∙ length-set (left_shifted X) 15 (bit_xor (get_or (left_shifted X) 15 0) (lost X p)) ∙ left_shifted_length X ∙ p.len

  pub double_at : (i : ℕ) → i < 15 → get_or (double X) i 0 ≡ bit_xor (get_or X i 0 * 2 % 256) (get_or X (i + 1) 0 / 128)
  double_at i h =
      ap (λ (l : Bytes). get_or l i 0) (in_last_byte X p)
      ∙ get_or-set_other (left_shifted X) 15 i (bit_xor (get_or (left_shifted X) 15 0) (lost X p)) 0 (λ e. omega arith)
      ∙ left_shifted_at X i (omega (arith, p.len))
      ∙ ap (λ (n : ℕ). bit_xor (get_or X i 0 * 2 % 256) (get_or X n 0 / 128)) (sym (add-one i))

  -- the bit that is lost, times 135, goes into byte 15
  pub double_at_15 : get_or (double X) 15 0 ≡ bit_xor (get_or X 15 0 * 2 % 256) (get_or X 0 0 / 128 * 135)
  double_at_15 =
      let none : get_or X 16 0 ≡ 0 = get_or-eq_default X 0 (omega (arith, p.len)) in
      ap (λ (l : Bytes). get_or l 15 0) (in_last_byte X p)
      ∙ get_or-set_same (left_shifted X) 15 (bit_xor (get_or (left_shifted X) 15 0) (lost X p)) 0 (omega (arith, left_shifted_length X, p.len))
      ∙ ap (λ (m : ℕ). bit_xor m (lost X p))
      (left_shifted_at X 15 (omega (arith, p.len)) ∙ ap (λ (m : ℕ). bit_xor (get_or X 15 0 * 2 % 256) (m / 128)) none ∙ xor_zero_r (get_or X 15 0 * 2 % 256))

-- ---- n·X

-- any fuel that is enough gives the same
fuel : (k l n : ℕ) (X : Bytes) → n ≤ k → n ≤ l → times_bits k n X ≡ times_bits l n X
unfolding times_bits
fuel zero zero n X h g = refl
fuel zero (suc l) zero X h g = refl
fuel zero (suc l) (suc n) X h g = absurd (omega arith)
fuel (suc k) zero zero X h g = refl
fuel (suc k) zero (suc n) X h g = absurd (omega arith)
fuel (suc k) (suc l) zero X h g = refl
fuel (suc k) (suc l) (suc n) X h g =
    ap (λ (Y : Bytes). if eqb (suc n % 2) 0 then double Y else double Y ⊕ X) (fuel k l (suc n / 2) X (omega arith) (omega arith))

-- 0·X = 0
pub times_zero : (X : Bytes) → 0 · X ≡ zeros
unfolding ◌·◌ times_bits
times_zero X = refl

half : (n : ℕ) (X : Bytes) → 1 ≤ n → n · X ≡ (if eqb (n % 2) 0 then double ((n / 2) · X) else double ((n / 2) · X) ⊕ X)
unfolding ◌·◌ times_bits
half zero X h = absurd (omega arith)
half (suc n) X h =
    ap (λ (Y : Bytes). if eqb (suc n % 2) 0 then double Y else double Y ⊕ X) (fuel n (suc n / 2) (suc n / 2) X (omega arith) (omega arith))

-- 2n·X = 2·(n·X)
pub times_even : (n : ℕ) (X : Bytes) → 1 ≤ n → n % 2 ≡ 0 → n · X ≡ double ((n / 2) · X)
times_even n X h e = half n X h ∙ ap (λ (b : Bool). if b then double ((n / 2) · X) else double ((n / 2) · X) ⊕ X) (eq-eqb (n % 2) 0 e)

-- (2n + 1)·X = (2n·X) ⊕ X
pub times_odd : (n : ℕ) (X : Bytes) → n % 2 ≢ 0 → n · X ≡ double ((n / 2) · X) ⊕ X
times_odd n X e =
    half n X (omega arith) ∙ ap (λ (b : Bool). if b then double ((n / 2) · X) else double ((n / 2) · X) ⊕ X) (ne_eqb (n % 2) 0 e)

pub double_zeros : double zeros ≡ zeros
unfolding double bits bytes bytes_of value_from shift_left digits ◌⊕◌ zip
double_zeros = refl

-- 1·X = 2·0 ⊕ X, which is X
pub times_one : (X : Bytes) → Block X → 1 · X ≡ X
times_one X p =
    times_odd 1 X (λ e. omega arith)
    ∙ ap (λ (Y : Bytes). double Y ⊕ X) (times_zero X)
    ∙ ap (λ (Y : Bytes). Y ⊕ X) double_zeros
    ∙ ⊕_comm zeros X
    ∙ ⊕_zeros 16 X (omega (arith, p.len))

pub two_to_suc : (e : ℕ) (X : Bytes) → two_to (suc e) X ≡ double (two_to e X)
unfolding two_to
two_to_suc e X = refl

pub two_to_zero : (X : Bytes) → two_to 0 X ≡ X
unfolding two_to
two_to_zero X = refl
