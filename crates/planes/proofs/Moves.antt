-- A column above another, in one word.
use mathlib.Core.Bool.{Bool, true, false}
use mathlib.Core.Path.{◌≡◌, refl, ap, ◌∙◌}
use Prim.Native.Nat.{ℕ, ◌-◌, ◌*◌, ◌%◌, ◌^◌, ◌<◌}
use native.Mathlib.Nat.{mod-lt}
use native.Mathlib.Omega.{arith}
use borrow.Author.Tests.{ltb-false}
use lib.Bits.{bit_xor, xor_lt, xor_zero_l, xor_zero_r}
use lib.Dec.{ltb, lit<}
use Rattle.std.specs.Prelude.{if◌then◌else◌}
use Rattle.paper.specs.Fips197.{bit}
use Rattle.laws.proofs.WordBits.{word_of, bit_past, bit_xor_lem, bit_up, by_bits}
use Rattle.planes.specs.Planes.{joined_bit}

pub joined_word : (x y : ℕ) → x < 2 ^ 32 → y < 2 ^ 32
    → bit_xor x (y * 2 ^ 32 % 2 ^ 64) ≡ word_of 64 (joined_bit (bit x) (bit y))
joined_word x y hx hy =
    by_bits 64 (bit_xor x above) (joined_bit (bit x) (bit y)) (xor_lt 64 x above (omega arith) (mod-lt (y * 2 ^ 32) (lit< tt)))
    (λ k h. bit_xor_lem x above k ∙ ap (bit_xor (bit x k)) (bit_up 64 y 32 k h) ∙ go k (ltb k 32) refl)
  where
    above : ℕ
    above = y * 2 ^ 32 % 2 ^ 64

    go : (k : ℕ) (t : Bool) → ltb k 32 ≡ t
        → bit_xor (bit x k) (if t then 0 else bit y (k - 32)) ≡ (if t then bit x k else bit y (k - 32))
    go k true e = xor_zero_r (bit x k)
    go k false e =
        ap (λ (v : ℕ). bit_xor v (bit y (k - 32))) (bit_past 32 x k hx (ltb-false k 32 e)) ∙ xor_zero_l (bit y (k - 32))
