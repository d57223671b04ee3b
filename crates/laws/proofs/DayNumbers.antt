-- The numbers of a day file: a number below 256^t is the value of its t bytes, and t bytes are those of their value. For two and four bytes.
use mathlib.Core.List.{[], ◌∷◌, ◌++◌}
use mathlib.Core.Path.{◌≡◌, refl, ap, ap₂, ◌∙◌}
use Prim.Native.Nat.{ℕ, suc, ◌+◌, ◌*◌, ◌/◌, ◌%◌, ◌<◌}
use native.Mathlib.Omega.{arith}
use lib.ListN.{length}
use Rattle.paper.specs.Strings.{Bytes, Below, digits}
use Rattle.paper.specs.DayFile.{value_after, value}

-- ---- The value of the bytes of a number

value_last : (n : ℕ) (X : Bytes) (b : ℕ) → value_after n (X ++ b ∷ []) ≡ value_after n X * 256 + b
unfolding value_after
value_last n [] b = refl
value_last n (x ∷ X) b = value_last (n * 256 + x) X b

-- one byte more
value_more : (t n : ℕ) → value (digits 256 t (n / 256)) ≡ n / 256 → value (digits 256 (suc t) n) ≡ n
unfolding digits
value_more t n e =
    value_last 0 (digits 256 t (n / 256)) (n % 256)
    ∙ ap (λ (k : ℕ). k * 256 + n % 256) e
    ∙ omega arith

value_none : (n : ℕ) → n < 1 → value (digits 256 0 n) ≡ n
unfolding digits value_after
value_none n p = omega arith

value_one : (n : ℕ) → n < 256 → value (digits 256 1 n) ≡ n
value_one n p = value_more 0 n (value_none (n / 256) (omega arith))

pub value_two : (n : ℕ) → n < 65536 → value (digits 256 2 n) ≡ n
value_two n p = value_more 1 n (value_one (n / 256) (omega arith))

value_three : (n : ℕ) → n < 16777216 → value (digits 256 3 n) ≡ n
value_three n p = value_more 2 n (value_two (n / 256) (omega arith))

pub value_four : (n : ℕ) → n < 4294967296 → value (digits 256 4 n) ≡ n
value_four n p = value_more 3 n (value_three (n / 256) (omega arith))

-- ---- The bytes of a value

digits_more : (t m b : ℕ) → b < 256 → digits 256 (suc t) (m * 256 + b) ≡ digits 256 t m ++ b ∷ []
unfolding digits
digits_more t m b p = ap₂ (λ (q r : ℕ). digits 256 t q ++ r ∷ []) (omega arith) (omega arith)

two_of : (a b : ℕ) → a < 256 → b < 256 → digits 256 2 (value (a ∷ b ∷ [])) ≡ a ∷ b ∷ []
unfolding value_after digits
two_of a b p q =
    digits_more 1 (0 * 256 + a) b q
    ∙ ap (λ (X : Bytes). X ++ b ∷ []) (digits_more 0 0 a p)

pub digits_two : (X : Bytes) → length X ≡ 2 → Below 256 X → digits 256 2 (value X) ≡ X
digits_two [] e p = absurd (omega arith)
digits_two (a ∷ []) e p = absurd (omega arith)
digits_two (a ∷ b ∷ []) e p = two_of a b p.0 p.1.0
digits_two (a ∷ b ∷ c ∷ X) e p = absurd (omega arith)

four_of : (a b c d : ℕ) → a < 256 → b < 256 → c < 256 → d < 256 → digits 256 4 (value (a ∷ b ∷ c ∷ d ∷ [])) ≡ a ∷ b ∷ c ∷ d ∷ []
unfolding value_after digits
four_of a b c d p q r s =
    digits_more 3 (((0 * 256 + a) * 256 + b) * 256 + c) d s
    ∙ ap (λ (X : Bytes). X ++ d ∷ []) (digits_more 2 ((0 * 256 + a) * 256 + b) c r)
    ∙ ap (λ (X : Bytes). X ++ c ∷ d ∷ []) (two_of a b p q)

pub digits_four : (X : Bytes) → length X ≡ 4 → Below 256 X → digits 256 4 (value X) ≡ X
digits_four [] e p = absurd (omega arith)
digits_four (a ∷ []) e p = absurd (omega arith)
digits_four (a ∷ b ∷ []) e p = absurd (omega arith)
digits_four (a ∷ b ∷ c ∷ []) e p = absurd (omega arith)
digits_four (a ∷ b ∷ c ∷ d ∷ []) e p = four_of a b c d p.0 p.1.0 p.1.1.0 p.1.1.1.0
digits_four (a ∷ b ∷ c ∷ d ∷ x ∷ X) e p = absurd (omega arith)
