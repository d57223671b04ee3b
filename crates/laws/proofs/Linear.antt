-- Multiples are linear: the double of a sum, the multiples of a double, and a number's multiple from its low bits and the rest.
use mathlib.Core.Path.{◌≡◌, refl, ap, ap₂, sym, ◌∙◌}
use Prim.Native.Nat.{ℕ, zero, suc, ◌+◌, ◌*◌, ◌/◌, ◌%◌, ◌<◌}
use native.Mathlib.Decide.{dec_lt}
use native.Mathlib.Nat.{zero-lt-suc}
use native.Mathlib.Omega.{arith}
use lib.Arith.{bin_ind}
use lib.Bits.{bit_xor, xor_shr}
use lib.ListN.{length, get_or}
use lib.Seq.{ext_get_or}
use Rattle.paper.specs.Strings.{Bytes, Block, ◌⊕◌}
use Rattle.paper.specs.Section7.{double, ◌·◌}
use Rattle.laws.proofs.Xor.{xor_exchange, shift_xor, bit_times}
use Rattle.laws.proofs.Strings.{⊕_assoc, ⊕_zeros, get_or_⊕}
use Rattle.laws.proofs.Digits.{⊕_block, below_get_or}
use Rattle.laws.proofs.Multiples.{length_double, double_at, double_at_15, double_zeros, times_zero, times_one, times_even, times_odd}
use Rattle.laws.proofs.KeyBlocks.{double_block, times_block}

-- ---- 2·(X ⊕ Y) = 2·X ⊕ 2·Y

module _ (X Y : Bytes) (p : Block X) (q : Block Y) where
  entry : (i : ℕ) → i < 16 → get_or (X ⊕ Y) i 0 ≡ bit_xor (get_or X i 0) (get_or Y i 0)
  entry i h = get_or_⊕ X Y i (omega (arith, p.len)) (omega (arith, q.len))

  doubles : (i : ℕ) → i < 16 → get_or (double X ⊕ double Y) i 0 ≡ bit_xor (get_or (double X) i 0) (get_or (double Y) i 0)
  doubles i h = get_or_⊕ (double X) (double Y) i (omega (arith, length_double X p)) (omega (arith, length_double Y q))

  abbrev top : Bytes → ℕ
  top Z = get_or Z 0 0 / 128

  byte_15 : get_or (double (X ⊕ Y)) 15 0 ≡ get_or (double X ⊕ double Y) 15 0
  byte_15 =
      double_at_15 (X ⊕ Y) (⊕_block p q)
      ∙ ap₂ (λ (a t : ℕ). bit_xor (a * 2 % 256) (t / 128 * 135)) (entry 15 (omega arith)) (entry 0 (omega arith))
      ∙ ap₂ bit_xor (shift_xor (get_or X 15 0) (get_or Y 15 0))
      (ap (λ (t : ℕ). t * 135) (xor_shr (get_or X 0 0) (get_or Y 0 0) 7)
      ∙ bit_times 135 (top X) (top Y) (omega (arith, below_get_or 256 0 X (zero-lt-suc 255) p.low)) (omega (arith, below_get_or 256 0 Y (zero-lt-suc 255) q.low)))
      ∙ xor_exchange (get_or X 15 0 * 2 % 256) (get_or Y 15 0 * 2 % 256) (top X * 135) (top Y * 135)
      ∙ sym (doubles 15 (omega arith) ∙ ap₂ bit_xor (double_at_15 X p) (double_at_15 Y q))

  byte_before : (i : ℕ) → i < 15 → get_or (double (X ⊕ Y)) i 0 ≡ get_or (double X ⊕ double Y) i 0
  byte_before i h =
      double_at (X ⊕ Y) (⊕_block p q) i h
      ∙ ap₂ (λ (a t : ℕ). bit_xor (a * 2 % 256) (t / 128)) (entry i (omega arith)) (entry (i + 1) (omega arith))
      ∙ ap₂ bit_xor (shift_xor (get_or X i 0) (get_or Y i 0)) (xor_shr (get_or X (i + 1) 0) (get_or Y (i + 1) 0) 7)
      ∙ xor_exchange (get_or X i 0 * 2 % 256) (get_or Y i 0 * 2 % 256) (get_or X (i + 1) 0 / 128) (get_or Y (i + 1) 0 / 128)
      ∙ sym (doubles i (omega arith) ∙ ap₂ bit_xor (double_at X p i h) (double_at Y q i h))

  long : length (double (X ⊕ Y)) ≡ 16
  long = length_double (X ⊕ Y) (⊕_block p q)

  pub double_⊕ : double (X ⊕ Y) ≡ double X ⊕ double Y
  double_⊕ =
      ext_get_or 0 _ _ (long ∙ sym (⊕_block (double_block p) (double_block q)).len) (λ i h. go i (omega (arith, long)) (dec_lt i 15))
    where
      go : (i : ℕ) → i < 16 → Dec (i < 15) → get_or (double (X ⊕ Y)) i 0 ≡ get_or (double X ⊕ double Y) i 0
      go i h (yes g) = byte_before i g
      go i h (no g) =
          let last : i ≡ 15 = omega (arith, g) in
          ap (λ (n : ℕ). get_or (double (X ⊕ Y)) n 0) last ∙ byte_15 ∙ ap (λ (n : ℕ). get_or (double X ⊕ double Y) n 0) (sym last)

-- ---- multiples

-- 2·X is the double of X
pub times_two : (X : Bytes) → Block X → 2 · X ≡ double X
times_two X p = times_even 2 X (omega arith) refl ∙ ap double (times_one X p)

-- one bit b more: (2n + b)·X = 2·(n·X) ⊕ b·X
pub times_bit : (n b : ℕ) (X : Bytes) → Block X → b < 2 → (n * 2 + b) · X ≡ double (n · X) ⊕ b · X
times_bit zero zero X p h =
    times_zero X
    ∙ sym double_zeros
    ∙ ap double (sym (times_zero X))
    ∙ sym (⊕_zeros 16 (double (0 · X)) (omega (arith, (double_block (times_block 0 p)).len)))
    ∙ ap (λ (Z : Bytes). double (0 · X) ⊕ Z) (sym (times_zero X))
times_bit (suc n) zero X p h =
    let even : (suc n * 2 + 0) % 2 ≡ 0 = omega arith in
    let is : (suc n * 2 + 0) / 2 ≡ suc n = omega arith in
    times_even (suc n * 2 + 0) X (omega arith) even
    ∙ ap (λ (k : ℕ). double (k · X)) is
    ∙ sym (⊕_zeros 16 (double (suc n · X)) (omega (arith, (double_block (times_block (suc n) p)).len)))
    ∙ ap (λ (Z : Bytes). double (suc n · X) ⊕ Z) (sym (times_zero X))
times_bit n (suc zero) X p h =
    let is : (n * 2 + 1) / 2 ≡ n = omega arith in
    times_odd (n * 2 + 1) X (λ e. omega arith) ∙ ap₂ (λ (k : ℕ) (Z : Bytes). double (k · X) ⊕ Z) is (sym (times_one X p))
times_bit n (suc (suc b)) X p h = absurd (omega arith)

-- n·(2·X) = 2·(n·X)
pub times_double : (n : ℕ) (X : Bytes) → Block X → n · double X ≡ double (n · X)
times_double n X p =
    bin_ind (λ (n : ℕ). n · double X ≡ double (n · X)) (times_zero (double X) ∙ sym (ap double (times_zero X) ∙ double_zeros)) step n
  where
    bit : (b : ℕ) → b < 2 → b · double X ≡ double (b · X)
    bit zero h = times_zero (double X) ∙ sym (ap double (times_zero X) ∙ double_zeros)
    bit (suc zero) h = times_one (double X) (double_block p) ∙ ap double (sym (times_one X p))
    bit (suc (suc b)) h = absurd (omega arith)

    step : (n : ℕ) → (n / 2) · double X ≡ double ((n / 2) · X) → n · double X ≡ double (n · X)
    step n ih =
        let b : n % 2 < 2 = omega arith in
        let cut : n ≡ n / 2 * 2 + n % 2 = omega arith in
        ap (λ (k : ℕ). k · double X) cut
        ∙ times_bit (n / 2) (n % 2) (double X) (double_block p) b
        ∙ ap₂ ◌⊕◌ (ap double ih) (bit (n % 2) b)
        ∙ sym (double_⊕ (double ((n / 2) · X)) ((n % 2) · X) (double_block (times_block (n / 2) p)) (times_block (n % 2) p))
        ∙ ap double (sym (times_bit (n / 2) (n % 2) X p b))
        ∙ ap (λ (k : ℕ). double (k · X)) (sym cut)

-- 8·X is three doubles
abbrev pub eightfold : Bytes → Bytes
eightfold X = double (double (double X))

-- (2n)·X = 2·(n·X), also at 0
twice : (n : ℕ) (X : Bytes) → Block X → (n * 2) · X ≡ double (n · X)
twice n X p =
    let is : n * 2 ≡ n * 2 + 0 = omega arith in
    ap (λ (k : ℕ). k · X) is
    ∙ times_bit n 0 X p (omega arith)
    ∙ ap (λ (Z : Bytes). double (n · X) ⊕ Z) (times_zero X)
    ∙ ⊕_zeros 16 (double (n · X)) (omega (arith, (double_block (times_block n p)).len))

-- (8n)·X = 8·(n·X)
pub eight_times : (n : ℕ) (X : Bytes) → Block X → (n * 8) · X ≡ eightfold (n · X)
eight_times n X p =
    let is : n * 8 ≡ n * 2 * 2 * 2 = omega arith in
    ap (λ (k : ℕ). k · X) is ∙ twice (n * 2 * 2) X p ∙ ap double (twice (n * 2) X p) ∙ ap (λ (Z : Bytes). double (double Z)) (twice n X p)

pub times_eight_one : (X : Bytes) → Block X → 8 · X ≡ eightfold X
times_eight_one X p = eight_times 1 X p ∙ ap eightfold (times_one X p)

-- n·(8·X) = (8n)·X
pub times_eight : (n : ℕ) (X : Bytes) → Block X → n · (8 · X) ≡ (n * 8) · X
times_eight n X p =
    ap (λ (Z : Bytes). n · Z) (times_eight_one X p)
    ∙ times_double n (double (double X)) (double_block (double_block p))
    ∙ ap double (times_double n (double X) (double_block p))
    ∙ ap (λ (Z : Bytes). double (double Z)) (times_double n X p)
    ∙ sym (eight_times n X p)

-- n·X from the three low bits of n and the rest: 8·((n / 8)·X) ⊕ (n mod 8)·X
pub times_low : (n : ℕ) (X : Bytes) → Block X → n · X ≡ eightfold ((n / 8) · X) ⊕ (n % 8) · X
times_low n X p =
    let B : (k : ℕ) → Block (k · X) = λ k. times_block k p in
    let D : (k : ℕ) → Block (double (k · X)) = λ k. double_block (B k) in
    let a : ℕ = n / 8 in
    let r2 : ℕ = n / 4 % 2 in
    let r1 : ℕ = n / 2 % 2 in
    let r0 : ℕ = n % 2 in
    let up2 : n / 4 ≡ n / 8 * 2 + n / 4 % 2 = omega arith in
    let up1 : n / 2 ≡ n / 4 * 2 + n / 2 % 2 = omega arith in
    let up0 : n ≡ n / 2 * 2 + n % 2 = omega arith in
    let low1 : n % 8 / 2 ≡ n / 4 % 2 * 2 + n / 2 % 2 = omega arith in
    let low0 : n % 8 ≡ n % 8 / 2 * 2 + n % 2 = omega arith in
    -- the three bits, one after the other
    let s2 : (n / 4) · X ≡ double (a · X) ⊕ r2 · X = ap (λ (k : ℕ). k · X) up2 ∙ times_bit a r2 X p (omega arith) in
    let s1 : (n / 2) · X ≡ double ((n / 4) · X) ⊕ r1 · X = ap (λ (k : ℕ). k · X) up1 ∙ times_bit (n / 4) r1 X p (omega arith) in
    let s0 : n · X ≡ double ((n / 2) · X) ⊕ r0 · X = ap (λ (k : ℕ). k · X) up0 ∙ times_bit (n / 2) r0 X p (omega arith) in
    let t1 : (n % 8 / 2) · X ≡ double (r2 · X) ⊕ r1 · X = ap (λ (k : ℕ). k · X) low1 ∙ times_bit r2 r1 X p (omega arith) in
    let t0 : (n % 8) · X ≡ double ((n % 8 / 2) · X) ⊕ r0 · X = ap (λ (k : ℕ). k · X) low0 ∙ times_bit (n % 8 / 2) r0 X p (omega arith) in
    -- each step with the rest kept apart
    let u1 : (n / 2) · X ≡ double (double (a · X)) ⊕ (n % 8 / 2) · X =
    s1
    ∙ ap (λ (Z : Bytes). double Z ⊕ r1 · X) s2
    ∙ ap (λ (Z : Bytes). Z ⊕ r1 · X) (double_⊕ (double (a · X)) (r2 · X) (D a) (B r2))
    ∙ ⊕_assoc (double (double (a · X))) (double (r2 · X)) (r1 · X)
    ∙ ap (λ (Z : Bytes). double (double (a · X)) ⊕ Z) (sym t1) in
    s0
    ∙ ap (λ (Z : Bytes). double Z ⊕ r0 · X) u1
    ∙ ap (λ (Z : Bytes). Z ⊕ r0 · X) (double_⊕ (double (double (a · X))) ((n % 8 / 2) · X) (double_block (D a)) (B (n % 8 / 2)))
    ∙ ⊕_assoc (eightfold (a · X)) (double ((n % 8 / 2) · X)) (r0 · X)
    ∙ ap (λ (Z : Bytes). eightfold (a · X) ⊕ Z) (sym t0)
