-- The bytes of a number, from the highest down, as std and as the paper have them.
use Rattle.std.proofs.Common.{◌≡◌, ℕ, zero, suc, List, ◌∷◌, refl, ap, ap₂, sym, ◌∙◌, ◌/◌, ◌%◌, ◌^◌}
use Rattle.std.specs.Int.{byte_at, bytes_high_first}
use Rattle.laws.proofs.BitStrings.{digits_first_lem}
use Rattle.paper.specs.Strings.{digits}
use native.Mathlib.Nat.{div-one, pow-zero}

byte_digit : (k n : ℕ) → byte_at k n ≡ n / 256 ^ k % 256
byte_digit zero n = ap (λ (m : ℕ). m % 256) (sym (div-one n) ∙ ap (λ (m : ℕ). n / m) (sym (pow-zero 256)))
byte_digit (suc k) n = refl

pub bytes_digits : (k n : ℕ) → bytes_high_first k n ≡ digits 256 k n
unfolding digits
bytes_digits zero n = refl
bytes_digits (suc k) n = ap₂ (λ (x : ℕ) (l : List ℕ). x ∷ l) (byte_digit k n) (bytes_digits k n) ∙ sym (digits_first_lem 256 k n)
