-- Numbers in decimal: the digits of n represent n, the first is not 0 where n is not, and a number below 10^k has at most k digits.
use mathlib.Core.Bool.{Bool, true, false}
use mathlib.Core.List.{[], ◌∷◌, ◌++◌}
use mathlib.Core.Path.{◌≡◌, refl, ap, ◌∙◌}
use Prim.Native.Nat.{ℕ, zero, suc, ◌+◌, ◌/◌, ◌%◌, ◌^◌, ◌≤◌, ◌<◌}
use native.Mathlib.Nat.{pow-succ'}
use native.Mathlib.Omega.{arith}
use borrow.Author.Tests.{ltb-true, ltb-false, lt-ltb, le-ltb}
use lib.Dec.{ltb}
use lib.ListN.{length, get_or, length-append, get_or-append}
use Rattle.std.specs.Prelude.{if◌then◌else◌}
use Rattle.paper.specs.Strings.{Bytes}
use Rattle.paper.specs.Pause.{decimal_after}
use Rattle.paper.specs.Ledger.{decimal_in, decimal}
use Rattle.laws.proofs.PauseSteps.{decimal_append, decimal_one}

-- the last digit of n, and the others
abbrev last : ℕ → ℕ
last n = 0x30 + n % 10

-- with more steps than n, how many does not matter
same_steps : (a b n : ℕ) → n < a → n < b → decimal_in a n ≡ decimal_in b n
unfolding decimal_in
same_steps zero b n p q = absurd (omega arith)
same_steps (suc a) zero n p q = absurd (omega arith)
same_steps (suc a) (suc b) n p q = go (ltb n 10) refl (λ r. same_steps a b (n / 10) (omega arith) (omega arith))
  where
    go : (t : Bool) → ltb n 10 ≡ t → (10 ≤ n → decimal_in a (n / 10) ≡ decimal_in b (n / 10))
        → (if t then (0x30 + n) ∷ [] else decimal_in a (n / 10) ++ last n ∷ []) ≡ (if t then (0x30 + n) ∷ [] else decimal_in b (n / 10) ++ last n ∷ [])
    go true e rest = refl
    go false e rest = ap (λ (X : Bytes). X ++ last n ∷ []) (rest (ltb-false n 10 e))

-- one digit, or the digits of n / 10 and the last
pub decimal_digit : (n : ℕ) → n < 10 → decimal n ≡ (0x30 + n) ∷ []
unfolding decimal decimal_in
decimal_digit n p = ap (λ (t : Bool). if t then (0x30 + n) ∷ [] else decimal_in n (n / 10) ++ last n ∷ []) (lt-ltb n 10 p)

pub decimal_more : (n : ℕ) → 10 ≤ n → decimal n ≡ decimal (n / 10) ++ (0x30 + n % 10) ∷ []
unfolding decimal decimal_in
decimal_more n p =
    ap (λ (t : Bool). if t then (0x30 + n) ∷ [] else decimal_in n (n / 10) ++ last n ∷ []) (le-ltb n 10 p)
    ∙ ap (λ (X : Bytes). X ++ last n ∷ []) (same_steps n (suc (n / 10)) (n / 10) (omega arith) (omega arith))

-- ---- What is shown for each number, by that

-- P of every number, from P of the digits and from P of n / 10 for larger ones; with k steps where n is below k
by_tenths : (P : ℕ → Type 0) → ((n : ℕ) → n < 10 → P n) → ((n : ℕ) → 10 ≤ n → P (n / 10) → P n) → (k n : ℕ) → n < k → P n
by_tenths P small more zero n p = absurd (omega arith)
by_tenths P small more (suc k) n p = go (ltb n 10) refl (λ r. by_tenths P small more k (n / 10) (omega arith))
  where
    go : (t : Bool) → ltb n 10 ≡ t → (10 ≤ n → P (n / 10)) → P n
    go true e rest = small n (ltb-true n 10 e)
    go false e rest = more n (ltb-false n 10 e) (rest (ltb-false n 10 e))

-- the digits represent n
pub decimal_value : (n : ℕ) → decimal_after 0 (decimal n) ≡ n
decimal_value n =
    by_tenths (λ n. decimal_after 0 (decimal n) ≡ n)
    (λ n p. ap (decimal_after 0) (decimal_digit n p) ∙ decimal_one 0 (0x30 + n) ∙ omega arith)
    (λ n p rest.
    ap (decimal_after 0) (decimal_more n p)
    ∙ decimal_append 0 (decimal (n / 10)) ((0x30 + n % 10) ∷ [])
    ∙ decimal_one (decimal_after 0 (decimal (n / 10))) (0x30 + n % 10)
    ∙ omega (arith, rest))
    (suc n) n (omega arith)

pub decimal_some : (n : ℕ) → 1 ≤ length (decimal n)
decimal_some n =
    by_tenths (λ n. 1 ≤ length (decimal n))
    (λ n p. omega (arith, ap length (decimal_digit n p)))
    (λ n p rest. omega (arith, ap length (decimal_more n p), length-append (decimal (n / 10)) ((0x30 + n % 10) ∷ [])))
    (suc n) n (omega arith)

-- no leading zero
pub decimal_first : (n : ℕ) → 1 ≤ n → 0x31 ≤ get_or (decimal n) 0 0
decimal_first n =
    by_tenths (λ n. 1 ≤ n → 0x31 ≤ get_or (decimal n) 0 0)
    (λ n p q. omega (arith, ap (λ (X : Bytes). get_or X 0 0) (decimal_digit n p)))
    (λ n p rest q.
    omega
    (arith, rest (omega arith), ap (λ (X : Bytes). get_or X 0 0) (decimal_more n p), get_or-append (decimal (n / 10)) ((0x30 + n % 10) ∷ []) 0 0 (omega (arith, decimal_some (n / 10)))))
    (suc n) n (omega arith)

-- a number below 10^(k + 1) has at most k + 1 digits
pub decimal_length : (k n : ℕ) → n < 10 ^ suc k → length (decimal n) ≤ suc k
decimal_length zero n p = omega (arith, ap length (decimal_digit n p))
decimal_length (suc k) n p = go (ltb n 10) refl (decimal_length k (n / 10) (omega (arith, pow-succ' 10 (suc k))))
  where
    go : (t : Bool) → ltb n 10 ≡ t → length (decimal (n / 10)) ≤ suc k → length (decimal n) ≤ suc (suc k)
    go true e rest = omega (arith, ap length (decimal_digit n (ltb-true n 10 e)))
    go false e rest = omega (arith, ap length (decimal_more n (ltb-false n 10 e)), length-append (decimal (n / 10)) ((0x30 + n % 10) ∷ []))
