-- `Digits b n X`, a string of n digits of b bits: what each operation on strings keeps.
use mathlib.Core.List.{List, [], ◌∷◌, ◌++◌}
use mathlib.Core.Path.{◌≡◌, ap, ap₂, ◌∙◌}
use Prim.Native.Nat.{ℕ, zero, suc, ◌+◌, ◌-◌, ◌^◌, ◌≤◌, ◌<◌}
use native.Mathlib.Omega.{arith}
use lib.Bits.{xor_lt}
use lib.ListN.{length, get_or, take, drop, replicate, length-append, length-drop, length-replicate}
use lib.Pow.{pow_pos}
use lib.Seq.{length-take-le}
use Rattle.paper.specs.Strings.{Below, Digits, Block, zip, ◌⊕◌}
use Rattle.laws.proofs.Strings.{⊕_length}

pub below_append : (n : ℕ) (X Y : List ℕ) → Below n X → Below n Y → Below n (X ++ Y)
below_append n [] Y p q = q
below_append n (x ∷ X) Y p q = (p.0, below_append n X Y p.1 q)

pub below_take : (n k : ℕ) (X : List ℕ) → Below n X → Below n (take k X)
below_take n zero X p = tt
below_take n (suc k) [] p = tt
below_take n (suc k) (x ∷ X) p = (p.0, below_take n k X p.1)

pub below_drop : (n k : ℕ) (X : List ℕ) → Below n X → Below n (drop k X)
below_drop n zero X p = p
below_drop n (suc k) [] p = tt
below_drop n (suc k) (x ∷ X) p = below_drop n k X p.1

pub below_replicate : (n k a : ℕ) → a < n → Below n (replicate k a)
below_replicate n zero a h = tt
below_replicate n (suc k) a h = (h, below_replicate n k a h)

pub below_get_or : (n i : ℕ) (X : List ℕ) → zero < n → Below n X → get_or X i 0 < n
below_get_or n i [] h p = h
below_get_or n zero (x ∷ X) h p = p.0
below_get_or n (suc i) (x ∷ X) h p = below_get_or n i X h p.1

-- and back: what is below n at each index
pub below_of : (n : ℕ) (X : List ℕ) → ((i : ℕ) → i < length X → get_or X i 0 < n) → Below n X
below_of n [] h = tt
below_of n (x ∷ X) h = (h 0 (omega arith), below_of n X (λ i k. h (suc i) (omega arith)))

pub below_⊕ : (k : ℕ) (X Y : List ℕ) → Below (2 ^ k) X → Below (2 ^ k) Y → Below (2 ^ k) (X ⊕ Y)
unfolding ◌⊕◌ zip
below_⊕ k [] Y p q = tt
below_⊕ k (x ∷ X) [] p q = tt
below_⊕ k (x ∷ X) (y ∷ Y) p q = (xor_lt k x y p.0 q.0, below_⊕ k X Y p.1 q.1)

pub ⊕_digits : {b n k : ℕ} {X Y : List ℕ} → Digits b n X → Digits b k Y → n ≤ k → Digits b n (X ⊕ Y)
⊕_digits {b} {X = X} {Y = Y} p q h = record { len = ⊕_length X Y (omega arith) ∙ p.len; low = below_⊕ b X Y p.low q.low }

-- the xor of two blocks
pub ⊕_block : {X Y : List ℕ} → Block X → Block Y → Block (X ⊕ Y)
⊕_block p q = ⊕_digits p q (omega arith)

pub append_digits : {b n k : ℕ} {X Y : List ℕ} → Digits b n X → Digits b k Y → Digits b (n + k) (X ++ Y)
append_digits {b} {X = X} {Y = Y} p q = record { len = length-append X Y ∙ ap₂ ◌+◌ p.len q.len; low = below_append (2 ^ b) X Y p.low q.low }

pub take_digits : {b n : ℕ} {X : List ℕ} (k : ℕ) → k ≤ n → Digits b n X → Digits b k (take k X)
take_digits {b} {X = X} k h p = record { len = length-take-le k X (omega arith); low = below_take (2 ^ b) k X p.low }

pub drop_digits : {b n : ℕ} {X : List ℕ} (k : ℕ) → Digits b n X → Digits b (n - k) (drop k X)
drop_digits {b} {X = X} k p = record { len = length-drop k X ∙ ap (λ (j : ℕ). j - k) p.len; low = below_drop (2 ^ b) k X p.low }

pub zero_digits : (b n : ℕ) → Digits b n (replicate n 0)
zero_digits b n = record { len = length-replicate n 0; low = below_replicate (2 ^ b) n 0 (pow_pos b) }

-- a count that is the same number
pub as_digits : {b n k : ℕ} {X : List ℕ} → n ≡ k → Digits b n X → Digits b k X
as_digits e p = record { len = p.len ∙ e; low = p.low }
