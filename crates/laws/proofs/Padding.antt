-- Strings filled up with zeros, and marked and filled up, to w entries: as bytes, half-bytes or bits.
use mathlib.Core.List.{List, [], ◌∷◌, ◌++◌, append_assoc}
use mathlib.Core.Logic.{⊎_elim}
use mathlib.Core.Path.{◌≡◌, refl, ap, sym, ◌∙◌}
use Prim.Native.Nat.{ℕ, zero, suc, ◌+◌, ◌-◌, ◌%◌, ◌^◌, ◌≤◌, ◌<◌}
use native.Mathlib.Nat.{sub-zero, mod_self, mod-eq_of_lt, eq-or-lt_of_le}
use native.Mathlib.Omega.{arith}
use lib.ListN.{length, drop, set, replicate, length-append}
use lib.Seq.{set_at}
use Rattle.paper.specs.Strings.{Bytes, Digits, Block, zero_fill, pad10*}
use Rattle.laws.proofs.Digits.{append_digits, zero_digits, as_digits}

-- the number of zeros
count : (w n : ℕ) → 1 ≤ n → n ≤ w → (w - n % w) % w ≡ w - n
count w n some h = ⊎_elim full less (eq-or-lt_of_le h)
  where
    full : n ≡ w → (w - n % w) % w ≡ w - n
    full e =
        let all : w - n % w ≡ w = omega (arith, mod_self w, ap (λ (k : ℕ). k % w) e) in
        ap (λ (k : ℕ). k % w) all ∙ omega (arith, mod_self w)

    less : n < w → (w - n % w) % w ≡ w - n
    less g =
        let rest : w - n < w = omega arith in
        ap (λ (k : ℕ). (w - k) % w) (mod-eq_of_lt g) ∙ mod-eq_of_lt rest

fill_short : (w : ℕ) (X : List ℕ) → 1 ≤ length X → length X ≤ w → zero_fill w X ≡ X ++ replicate (w - length X) 0
unfolding zero_fill
fill_short w X h g = ap (λ (k : ℕ). X ++ replicate k 0) (count w (length X) h g)

pub fill_digits : {b n : ℕ} {X : List ℕ} (w : ℕ) → 1 ≤ n → n ≤ w → Digits b n X → Digits b w (zero_fill w X)
fill_digits {b} {n} {X} w h g p =
    let e : zero_fill w X ≡ X ++ replicate (w - length X) 0 = fill_short w X (omega (arith, p.len)) (omega (arith, p.len)) in
    rw e (as_digits (omega (arith, p.len)) (append_digits p (zero_digits b (w - length X))))

-- X put over the front of w zeros
drop_zeros : (k w : ℕ) → drop {A = ℕ} k (replicate w 0) ≡ replicate (w - k) 0
drop_zeros zero w = ap (λ (n : ℕ). replicate n 0) (sym (sub-zero w))
drop_zeros (suc k) zero = let e : 0 ≡ 0 - suc k = omega arith in ap (λ (n : ℕ). replicate n 0) e
drop_zeros (suc k) (suc w) = let e : w - k ≡ suc w - suc k = omega arith in drop_zeros k w ∙ ap (λ (n : ℕ). replicate n 0) e

pub fill_over : (w : ℕ) (X : List ℕ) → 1 ≤ length X → length X ≤ w → X ++ drop (length X) (replicate w 0) ≡ zero_fill w X
fill_over w X h g = ap (λ (l : List ℕ). X ++ l) (drop_zeros (length X) w) ∙ sym (fill_short w X h g)

-- with an entry v after X
pub mark_short : (w v : ℕ) (X : List ℕ) → length X < w → zero_fill w (X ++ v ∷ []) ≡ X ++ v ∷ replicate (w - suc (length X)) 0
mark_short w v X h =
    let long : length (X ++ v ∷ []) ≡ suc (length X) = length-append X (v ∷ []) ∙ omega arith in
    fill_short w (X ++ v ∷ []) (omega arith) (omega arith)
    ∙ append_assoc X (v ∷ []) (replicate (w - length (X ++ v ∷ [])) 0)
    ∙ ap (λ (k : ℕ). X ++ v ∷ replicate (w - k) 0) long

-- v stored after X, over the front of w zeros
pub mark_over : (w v : ℕ) (X r : List ℕ) → length X < w → r ≡ X ++ drop (length X) (replicate w 0) → set r (length X) v ≡ zero_fill w (X ++ v ∷ [])
mark_over w v X r h e =
    let n : w - length X ≡ suc (w - suc (length X)) = omega arith in
    ap (λ (l : List ℕ). set l (length X) v) (e ∙ ap (λ (l : List ℕ). X ++ l) (drop_zeros (length X) w ∙ ap (λ (k : ℕ). replicate k 0) n))
    ∙ set_at X 0 (replicate (w - suc (length X)) 0) v (length X) refl
    ∙ sym (mark_short w v X h)

pub mark_digits : {b n : ℕ} {X : List ℕ} (w v : ℕ) → v < 2 ^ b → n < w → Digits b n X → Digits b w (zero_fill w (X ++ v ∷ []))
mark_digits {n = n} w v low h p = fill_digits {n = n + 1} w (omega arith) (omega arith) (append_digits p (record { len = refl; low = (low, tt) }))

-- X10* of bytes
pub pad_block : {n : ℕ} {X : Bytes} → Digits 8 n X → n < 16 → Block (pad10* X)
unfolding pad10*
pad_block p h = mark_digits 16 128 (omega arith) h p
