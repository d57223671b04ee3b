-- The exclusive or of numbers: the laws that the kit's lib.Bits lacks.
use mathlib.Core.Path.{◌≡◌, refl, ap, ap₂, sym, ◌∙◌}
use Prim.Native.Nat.{ℕ, zero, suc, ◌+◌, ◌*◌, ◌/◌, ◌%◌, ◌<◌}
use native.Mathlib.Nat.{add-zero, zero-mul, mod-lt, zero-lt-suc}
use native.Mathlib.Omega.{arith}
use lib.Arith.{bin_ind}
use lib.Bits.{bit_xor, differ, xor_step, xor_block, xor_comm, xor_self, xor_zero_l, xor_zero_r, xor_shr, xor_mod}

bit : (n : ℕ) → n % 2 < 2
bit n = mod-lt n (zero-lt-suc 1)

-- on two bits bit_xor is differ
bits_differ : (x y : ℕ) → x < 2 → y < 2 → bit_xor x y ≡ differ x y
bits_differ zero y h k = refl
bits_differ (suc zero) zero h k = refl
bits_differ (suc zero) (suc zero) h k = refl
bits_differ (suc zero) (suc (suc y)) h k = absurd (omega arith)
bits_differ (suc (suc x)) y h k = absurd (omega arith)

differ_assoc : (x y z : ℕ) → x < 2 → y < 2 → z < 2 → differ (differ x y) z ≡ differ x (differ y z)
differ_assoc zero y z h k l = refl
differ_assoc (suc zero) zero z h k l = refl
differ_assoc (suc zero) (suc zero) zero h k l = refl
differ_assoc (suc zero) (suc zero) (suc zero) h k l = refl
differ_assoc (suc zero) (suc zero) (suc (suc z)) h k l = absurd (omega arith)
differ_assoc (suc zero) (suc (suc y)) z h k l = absurd (omega arith)
differ_assoc (suc (suc x)) y z h k l = absurd (omega arith)

-- the lowest bit of an xor
low_differ : (a b : ℕ) → bit_xor a b % 2 ≡ differ (a % 2) (b % 2)
low_differ a b = xor_mod a b 1 ∙ bits_differ (a % 2) (b % 2) (bit a) (bit b)

pub xor_assoc : (a b c : ℕ) → bit_xor (bit_xor a b) c ≡ bit_xor a (bit_xor b c)
xor_assoc =
    bin_ind (λ (n : ℕ). (b c : ℕ) → bit_xor (bit_xor n b) c ≡ bit_xor n (bit_xor b c)) (λ b c. refl) λ a ih b c.
    xor_step (bit_xor a b) c
    ∙ ap₂ (λ (x y : ℕ). x * 2 + y)
    (ap (λ (x : ℕ). bit_xor x (c / 2)) (xor_shr a b 1) ∙ ih (b / 2) (c / 2) ∙ ap (bit_xor (a / 2)) (sym (xor_shr b c 1)))
    (ap (λ (x : ℕ). differ x (c % 2)) (low_differ a b)
    ∙ differ_assoc (a % 2) (b % 2) (c % 2) (bit a) (bit b) (bit c)
    ∙ ap (differ (a % 2)) (sym (low_differ b c)))
    ∙ sym (xor_step a (bit_xor b c))

pub xor_left_comm : (a b c : ℕ) → bit_xor a (bit_xor b c) ≡ bit_xor b (bit_xor a c)
xor_left_comm a b c = sym (xor_assoc a b c) ∙ ap (λ (x : ℕ). bit_xor x c) (xor_comm a b) ∙ xor_assoc b a c

pub xor_cancel : (a b : ℕ) → bit_xor (bit_xor a b) b ≡ a
xor_cancel a b = xor_assoc a b b ∙ ap (bit_xor a) (xor_self b) ∙ xor_zero_r a

-- of two sums, the second of the one and the first of the other change places
pub xor_exchange : (a b c d : ℕ) → bit_xor (bit_xor a b) (bit_xor c d) ≡ bit_xor (bit_xor a c) (bit_xor b d)
xor_exchange a b c d = xor_assoc a b (bit_xor c d) ∙ ap (bit_xor a) (xor_left_comm b c d) ∙ sym (xor_assoc a c (bit_xor b d))

-- a shift of a byte by one bit
pub shift_xor : (a b : ℕ) → bit_xor a b * 2 % 256 ≡ bit_xor (a * 2 % 256) (b * 2 % 256)
shift_xor a b =
    let up : bit_xor a b * 2 ≡ bit_xor (a * 2) (b * 2) = sym (simp add-zero at (xor_block 1 a b 0 0 (zero-lt-suc 1) (zero-lt-suc 1))) in
    ap (λ (n : ℕ). n % 256) up ∙ xor_mod (a * 2) (b * 2) 8

-- two bits times a number
pub bit_times : (n t u : ℕ) → t < 2 → u < 2 → bit_xor t u * n ≡ bit_xor (t * n) (u * n)
bit_times n zero u h g = simp (xor_zero_l, zero-mul)
bit_times n (suc zero) zero h g = simp (xor_zero_r, zero-mul)
bit_times n (suc zero) (suc zero) h g = simp (xor_self, zero-mul)
bit_times n (suc zero) (suc (suc u)) h g = absurd (omega arith)
bit_times n (suc (suc t)) u h g = absurd (omega arith)
