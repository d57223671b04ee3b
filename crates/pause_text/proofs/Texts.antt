-- The digits of a text, and the number that they represent.
use Rattle.std.proofs.Common.{true, ◌≡◌, refl, ap, ◌∙◌, ℕ, ◌+◌, ◌-◌, ◌*◌, ◌^◌, ◌<◌, ◌≤◌, [], ◌∷◌, length, get_or, take, arith, add-one}
use Rattle.std.proofs.Math.Seq.{take-suc, length-take-le}
use Rattle.std.proofs.Math.Nat.{mul-le-mul, pow-le-pow_right}
use Rattle.std.specs.Char.{is_ascii_digit}
use Rattle.std.specs.List.{prefix_len, AllPass}
use Rattle.std.proofs.lemmas.Grind.{common_steps}
use Rattle.std.proofs.lemmas.List.Elements.{All-head, All-tail, All-take, All-nil, All-cons}
use Rattle.paper.specs.Strings.{Bytes}
use Rattle.paper.specs.Pause.{is_digit, digits_first, decimal_after}
use Rattle.laws.proofs.PauseSteps.{AllDigits, digits_front, decimal_append, decimal_one, decimal_below}

-- the library's digits are the definition's
pub digits_counted : (X : Bytes) → prefix_len is_ascii_digit X ≡ digits_first X
unfolding digits_first
digits_counted [] = refl
digits_counted (b ∷ X) = grind (arith, common_steps, digits_counted X)

-- ---- Digits by their places and one by one

abbrev Digit : ℕ → Type 0
Digit b = is_digit b ≡ true

one_by_one : (X : Bytes) → AllPass is_digit X → AllDigits X
one_by_one [] p = tt
one_by_one (b ∷ X) p = (All-head Digit b X p, one_by_one X (All-tail Digit b X p))

by_places : (X : Bytes) → AllDigits X → AllPass is_digit X
by_places [] p = All-nil Digit
by_places (b ∷ X) p = All-cons Digit b X p.0 (by_places X p.1)

pub digits_pass : (X : Bytes) → AllPass is_digit (take (digits_first X) X)
digits_pass X = by_places (take (digits_first X) X) (digits_front X)

-- ---- The number of some digits after n

-- one digit more
pub decimal_more : (n : ℕ) (X : Bytes) (i : ℕ) → i < length X → decimal_after n (take (i + 1) X) ≡ decimal_after n (take i X) * 10 + (get_or X i 0 - 48)
decimal_more n X i p =
    ap (λ k. decimal_after n (take k X)) (add-one i)
    ∙ ap (decimal_after n) (take-suc X i 0 p)
    ∙ decimal_append n (take i X) (get_or X i 0 ∷ [])
    ∙ decimal_one (decimal_after n (take i X)) (get_or X i 0)

-- below n + 1 with as many zeros, or more
pub decimal_limit : (n m : ℕ) (X : Bytes) → AllPass is_digit X → length X ≤ m → decimal_after n X < (n + 1) * 10 ^ m
decimal_limit n m X d h =
    let most : (n + 1) * 10 ^ length X ≤ (n + 1) * 10 ^ m = mul-le-mul {n₁ = n + 1} {n₂ = n + 1} (omega arith) (pow-le-pow_right {n = 10} (omega arith) h) in
    omega (arith, decimal_below n X (one_by_one X d), most)

-- at most nine digits
pub decimal_small : (n : ℕ) (X : Bytes) (i : ℕ) → length X ≤ 9 → AllPass is_digit X → i ≤ length X → decimal_after n (take i X) < (n + 1) * 1000000000
decimal_small n X i q d h = omega (arith, decimal_limit n 9 (take i X) (All-take Digit i X d) (omega (arith, length-take-le i X h)))

-- at most three
pub fraction_below : (n : ℕ) (F : Bytes) → n < 1000000000 → AllPass is_digit F → length F ≤ 3 → decimal_after n F < 1000000000000
fraction_below n F p d h = omega (arith, decimal_limit n 3 F d h)
