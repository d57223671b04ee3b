-- How many digits a number has.
use Rattle.std.proofs.Common.{◌≡◌, ap, ◌∙◌, ℕ, zero, suc, ◌+◌, ◌*◌, ◌/◌, ◌%◌, ◌^◌, ◌<◌, ◌≤◌, [], ◌∷◌, length, arith, length-append}
use Rattle.std.proofs.Math.Nat.{pow-succ'}
use Rattle.paper.specs.Ledger.{decimal}
use Rattle.laws.proofs.Decimals.{decimal_digit, decimal_more}

-- one digit more than the logarithm
pub log_digits : (k n : ℕ) → 10 ^ k ≤ n → n < 10 * 10 ^ k → length (decimal n) ≡ k + 1
log_digits zero n p q = ap length (decimal_digit n (omega arith))
log_digits (suc k) n p q =
    let power : 10 ^ suc k ≡ 10 * 10 ^ k = pow-succ' 10 k in
    let least : 1 ≤ 10 ^ k = pow_positive k in
    ap length (decimal_more n (omega (arith, power, least)))
    ∙ omega (arith, length-append (decimal (n / 10)) ((0x30 + n % 10) ∷ []), log_digits k (n / 10) (omega (arith, power)) (omega (arith, power)))
  where
    pow_positive : (j : ℕ) → 1 ≤ 10 ^ j
    pow_positive zero = omega arith
    pow_positive (suc j) = omega (arith, pow-succ' 10 j, pow_positive j)

pub no_log : (n : ℕ) → n ≡ 0 → length (decimal n) ≡ 1
no_log n p = ap length (decimal_digit n (omega arith))
