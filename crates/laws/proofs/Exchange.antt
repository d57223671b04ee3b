-- Two words of any width that exchange bits under a mask.
use mathlib.Core.Bool.{Bool, true, false}
use mathlib.Core.Path.{◌≡◌, refl, ap, ◌∙◌}
use Prim.Native.Nat.{ℕ, zero, suc, ◌+◌, ◌-◌, ◌*◌, ◌/◌, ◌%◌, ◌^◌, ◌≤◌, ◌<◌}
use native.Mathlib.Nat.{mod-lt, lt_of_le_of_lt}
use native.Mathlib.Omega.{arith}
use borrow.Author.Tests.{ltb-false}
use lib.Bits.{bit_xor, bit_and, xor_lt, xor_comm, xor_zero_r, and_zero_r, and_le_r}
use lib.Dec.{ltb, eqb}
use lib.Pow.{pow_pos}
use Rattle.std.specs.Prelude.{if◌then◌else◌}
use Rattle.paper.specs.Fips197.{bit}
use Rattle.laws.proofs.Xor.{xor_cancel}
use Rattle.laws.proofs.WordBits.{word_of, bit_lt, either_lt, bit_xor_lem, bit_and_lem, and_one, bit_down, bit_up, by_bits}

-- the bits of a and b after an exchange: where m has a 1, a's bit has changed places with the bit of b that stands n above it
abbrev pub lower : ℕ → ℕ → (ℕ → ℕ) → (ℕ → ℕ) → ℕ → ℕ
lower n m a b k = if eqb (bit m k) 0 then a k else b (n + k)

abbrev pub upper : ℕ → ℕ → (ℕ → ℕ) → (ℕ → ℕ) → ℕ → ℕ
upper n m a b k = if ltb k n then b k else if eqb (bit m (k - n)) 0 then b k else a (k - n)

-- by the mask's bit m, x or y
pub picked : (x y m : ℕ) → x < 2 → y < 2 → m < 2 → bit_xor x (bit_and (bit_xor y x) m) ≡ (if eqb m 0 then x else y)
picked x y zero hx hy hm = ap (bit_xor x) (and_zero_r (bit_xor y x)) ∙ xor_zero_r x
picked x y (suc zero) hx hy hm =
    ap (bit_xor x) (and_one (bit_xor y x) (xor_lt 1 y x hy hx)) ∙ xor_comm x (bit_xor y x) ∙ xor_cancel y x
picked x y (suc (suc m)) hx hy hm = absurd (omega arith)

module _ (w a b n m : ℕ) where
  -- the bits that change
  abbrev changed : ℕ
  changed = bit_and (bit_xor (b / 2 ^ n) a) m

  bit_changed : (k : ℕ) → bit changed k ≡ bit_and (bit_xor (bit b (n + k)) (bit a k)) (bit m k)
  bit_changed k =
      bit_and_lem (bit_xor (b / 2 ^ n) a) m k
      ∙ ap (λ (v : ℕ). bit_and v (bit m k)) (bit_xor_lem (b / 2 ^ n) a k ∙ ap (λ (v : ℕ). bit_xor v (bit a k)) (bit_down b n k))

  lower_bit : (k : ℕ) → bit (bit_xor a changed) k ≡ lower n m (bit a) (bit b) k
  lower_bit k =
      bit_xor_lem a changed k
      ∙ ap (bit_xor (bit a k)) (bit_changed k)
      ∙ picked (bit a k) (bit b (n + k)) (bit m k) (bit_lt a k) (bit_lt b (n + k)) (bit_lt m k)

  upper_bit : (k : ℕ) → k < w → bit (bit_xor b (changed * 2 ^ n % 2 ^ w)) k ≡ upper n m (bit a) (bit b) k
  upper_bit k h =
      bit_xor_lem b (changed * 2 ^ n % 2 ^ w) k ∙ ap (bit_xor (bit b k)) (bit_up w changed n k h) ∙ go (ltb k n) refl
    where
      go : (t : Bool) → ltb k n ≡ t
          → bit_xor (bit b k) (if t then 0 else bit changed (k - n))
          ≡ (if t then bit b k else if eqb (bit m (k - n)) 0 then bit b k else bit a (k - n))
      go true e = xor_zero_r (bit b k)
      go false e =
          let above : n ≤ k = ltb-false k n e in
          let back : n + (k - n) ≡ k = omega arith in
          ap (bit_xor (bit b k))
          (bit_changed (k - n)
          ∙ ap (λ (v : ℕ). bit_and v (bit m (k - n)))
          (ap (λ (j : ℕ). bit_xor (bit b j) (bit a (k - n))) back ∙ xor_comm (bit b k) (bit a (k - n))))
          ∙ picked (bit b k) (bit a (k - n)) (bit m (k - n)) (bit_lt b k) (bit_lt a (k - n)) (bit_lt m (k - n))

  module _ (ha : a < 2 ^ w) (hb : b < 2 ^ w) (hm : m < 2 ^ w) where
    pub lower_word : bit_xor a changed ≡ word_of w (lower n m (bit a) (bit b))
    lower_word =
        by_bits w (bit_xor a changed) (lower n m (bit a) (bit b))
        (xor_lt w a changed ha (lt_of_le_of_lt (and_le_r (bit_xor (b / 2 ^ n) a) m) hm)) (λ k h. lower_bit k)

    pub upper_word : bit_xor b (changed * 2 ^ n % 2 ^ w) ≡ word_of w (upper n m (bit a) (bit b))
    upper_word =
        by_bits w (bit_xor b (changed * 2 ^ n % 2 ^ w)) (upper n m (bit a) (bit b))
        (xor_lt w b (changed * 2 ^ n % 2 ^ w) hb (mod-lt (changed * 2 ^ n) (pow_pos w))) upper_bit

-- bits that are exchanged are bits
pub lower_lt : (n m a b k : ℕ) → lower n m (bit a) (bit b) k < 2
lower_lt n m a b k = either_lt (eqb (bit m k) 0) (bit_lt a k) (bit_lt b (n + k))

pub upper_lt : (n m a b k : ℕ) → upper n m (bit a) (bit b) k < 2
upper_lt n m a b k =
    either_lt (ltb k n) (bit_lt b k) (either_lt (eqb (bit m (k - n)) 0) (bit_lt b k) (bit_lt a (k - n)))
