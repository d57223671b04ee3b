-- The last N of a machine number's eight bytes, as the definitions read and write them.
use Rattle.std.proofs.Common.{◌≡◌, refl, ap, sym, subst, ◌∙◌, ℕ, zero, suc, ◌+◌, ◌-◌, ◌*◌, ◌/◌, ◌%◌, ◌^◌, ◌<◌, ◌≤◌, List, [], ◌∷◌, ◌++◌, append_assoc, append-nil, length, get_or, take, drop, replicate, length-append, length-drop, arith}
use Rattle.std.proofs.lemmas.List.{length-take-le, take_all}
use borrow.Rule.Slice.PartMut.{put_mid, Post-is}
use Rattle.std.specs.Int.{w64, byte_at, bytes_high_first, to_be_bytes, from_be_bytes}
use Rattle.std.proofs.Math.Nat.{mul-le-mul_right, pow-suc, pow-succ', div-div-eq-div-mul}
use Rattle.paper.specs.Strings.{Bytes, Below, digits}
use Rattle.paper.specs.DayFile.{value_after, value}
use Rattle.laws.specs.Placing.{placed}
use Rattle.laws.proofs.BitStrings.{length_digits}
use Rattle.laws.proofs.Digits.{below_take, below_drop}

-- ---- Read

-- eight bytes
read_eight : (X : Bytes) → length X ≡ 8 → from_be_bytes w64 X ≡ value X
unfolding value_after
read_eight [] e = absurd (omega arith)
read_eight (a ∷ []) e = absurd (omega arith)
read_eight (a ∷ b ∷ []) e = absurd (omega arith)
read_eight (a ∷ b ∷ c ∷ []) e = absurd (omega arith)
read_eight (a ∷ b ∷ c ∷ d ∷ []) e = absurd (omega arith)
read_eight (a ∷ b ∷ c ∷ d ∷ p ∷ []) e = absurd (omega arith)
read_eight (a ∷ b ∷ c ∷ d ∷ p ∷ q ∷ []) e = absurd (omega arith)
read_eight (a ∷ b ∷ c ∷ d ∷ p ∷ q ∷ r ∷ []) e = absurd (omega arith)
read_eight (a ∷ b ∷ c ∷ d ∷ p ∷ q ∷ r ∷ s ∷ []) e = omega arith
read_eight (a ∷ b ∷ c ∷ d ∷ p ∷ q ∷ r ∷ s ∷ t ∷ X) e = absurd (omega arith)

-- zeros in front count for nothing
zeros_first : (k n : ℕ) (X : Bytes) → value (take k (replicate n 0) ++ X) ≡ value X
unfolding value_after
zeros_first zero n X = refl
zeros_first (suc k) zero X = refl
zeros_first (suc k) (suc n) X = zeros_first k n X

value_small : (n : ℕ) (X : Bytes) → Below 256 X → value_after n X < (n + 1) * 256 ^ length X
unfolding value_after
value_small n [] p = omega arith
value_small n (b ∷ X) p =
    let more : (n * 256 + b + 1) * 256 ^ length X ≤ (n + 1) * 256 * 256 ^ length X = mul-le-mul_right (256 ^ length X) (omega (arith, p.0)) in
    let less : value_after (n * 256 + b) X < (n + 1) * (256 ^ length X * 256) = omega (arith, value_small (n * 256 + b) X p.1, more) in
    rw (pow-suc 256 (length X)) less

-- ---- Put

-- the digits of a number are its bytes
byte_more : (t n : ℕ) → byte_at (suc t) n ≡ byte_at t (n / 256)
byte_more zero n = refl
byte_more (suc t) n = ap (λ (q : ℕ). q % 256) (ap (λ (k : ℕ). n / k) (pow-succ' 256 (suc t)) ∙ sym (div-div-eq-div-mul n 256 (256 ^ suc t)))

high_more : (t n : ℕ) → bytes_high_first (suc t) n ≡ bytes_high_first t (n / 256) ++ n % 256 ∷ []
high_more zero n = refl
high_more (suc t) n = (λ i. byte_more t n i ∷ high_more t n i)

digits_high : (t n : ℕ) → digits 256 t n ≡ bytes_high_first t n
unfolding digits
digits_high zero n = refl
digits_high (suc t) n = ap (λ (X : Bytes). X ++ n % 256 ∷ []) (digits_high t (n / 256)) ∙ sym (high_more t n)

last_bytes : (j t m n : ℕ) → m ≡ j + t → drop j (bytes_high_first m n) ≡ bytes_high_first t n
last_bytes zero t m n e = ap (λ (k : ℕ). bytes_high_first k n) (omega arith)
last_bytes (suc j) t zero n e = absurd (omega arith)
last_bytes (suc j) t (suc m) n e = last_bytes j t m n (omega arith)

-- ---- The parts of slices that the two functions copy

module _ (N at : ℕ) (short : N ≤ 8) where
  -- N bytes put last among eight zeros
  pub read_last : (s part : Bytes) → at + N ≤ length s → part ≡ take (at + N - at) (drop at s)
      → from_be_bytes w64 (put_mid (8 - N) (8 - (8 - N)) (replicate 8 0) part) ≡ value (take N (drop at s))
  read_last s part inside is =
      let zeros : Bytes = take (8 - N) (replicate 8 0) in
      let own : part ≡ take N (drop at s) = is ∙ ap (λ (k : ℕ). take k (drop at s)) (omega arith) in
      let long : length part ≡ N = ap length own ∙ length-take-le N (drop at s) (omega (arith, length-drop at s)) in
      let whole : put_mid (8 - N) (8 - (8 - N)) (replicate 8 0) part ≡ zeros ++ part =
      ap (λ (X : Bytes). zeros ++ (part ++ X)) (Post-is (8 - N) 8 (replicate 8 0) (omega arith)) ∙ ap (λ (X : Bytes). zeros ++ X) (append-nil part) in
      let eight : length (zeros ++ part) ≡ 8 = length-append zeros part ∙ omega (arith, long, length-take-le (8 - N) (replicate 8 (zero)) (omega arith)) in
      ap (from_be_bytes w64) whole ∙ read_eight (zeros ++ part) eight ∙ zeros_first (8 - N) 8 part ∙ ap value own

  pub read_small : (s : Bytes) → at + N ≤ length s → Below 256 s → value (take N (drop at s)) < 256 ^ N
  read_small s inside low =
      let long : length (take N (drop at s)) ≡ N = length-take-le N (drop at s) (omega (arith, length-drop at s)) in
      let P : ℕ → Type 0 = λ k. value (take N (drop at s)) < 256 ^ k in
      subst P long (omega (arith, value_small 0 (take N (drop at s)) (below_take 256 N (drop at s) (below_drop 256 at s low))))

  -- the last N of a number's eight bytes put at a place
  pub put_last : (n : ℕ) (out part : Bytes) → part ≡ take (8 - (8 - N)) (drop (8 - N) (to_be_bytes w64 n))
      → put_mid at (at + N - at) out part ≡ placed at (digits 256 N n) out
  put_last n out part is =
      let last : drop (8 - N) (to_be_bytes w64 n) ≡ digits 256 N n = last_bytes (8 - N) N 8 n (omega arith) ∙ sym (digits_high N n) in
      let own : part ≡ digits 256 N n =
      is ∙ ap (take (8 - (8 - N))) last ∙ take_all (8 - (8 - N)) (digits 256 N n) (omega (arith, length_digits 256 N n)) in
      let past : at + N ≡ at + length (digits 256 N n) = omega (arith, length_digits 256 N n) in
      ap (λ (X : Bytes). take at out ++ (part ++ X)) (Post-is at (at + N) out (omega arith))
      ∙ sym (append_assoc (take at out) part (drop (at + N) out))
      ∙ (λ i. take at out ++ own i ++ drop (past i) out)
