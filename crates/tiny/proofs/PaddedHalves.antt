-- X10* and X0* on half-bytes and on bytes are those of the figure on bits.
use mathlib.Core.List.{List, [], ◌∷◌, ◌++◌}
use mathlib.Core.Path.{◌≡◌, refl, ap, sym, ◌∙◌}
use Prim.Native.Nat.{ℕ, suc, ◌-◌, ◌*◌, ◌%◌, ◌<◌}
use native.Mathlib.Omega.{arith}
use lib.ListN.{length, replicate}
use Rattle.paper.specs.Strings.{Bytes, Bits, Block, zero_fill, bits0*, bits10*, pad10*, digits, bits}
use Rattle.laws.proofs.BitStrings.{in_bits, length_in_bits, in_bits_append, in_bits_zeros, length_bits, bits_append, bits_in_bits}
use Rattle.laws.proofs.Padding.{mark_short, pad_block}

-- X10* in half-bytes: the 1 bit and three zeros are the half-byte 8
unfoldable pub half10* : List ℕ → List ℕ
half10* X = zero_fill 32 (X ++ 8 ∷ [])

pub in_bits_10* : (X : List ℕ) → length X < 32 → bits10* (in_bits 4 X) ≡ in_bits 4 (half10* X)
unfolding bits10* half10* in_bits digits
in_bits_10* X h =
    let n : 128 - suc (length (in_bits 4 X)) ≡ suc (suc (suc (4 * (32 - suc (length X))))) = omega (arith, length_in_bits 4 X) in
    mark_short 128 1 (in_bits 4 X) (omega (arith, length_in_bits 4 X))
    ∙ ap (λ (k : ℕ). in_bits 4 X ++ 1 ∷ replicate k 0) n
    ∙ ap (λ (l : Bits). in_bits 4 X ++ 1 ∷ 0 ∷ 0 ∷ 0 ∷ l) (sym (in_bits_zeros 4 (32 - suc (length X))))
    ∙ sym (ap (in_bits 4) (mark_short 32 8 X h) ∙ in_bits_append 4 X (8 ∷ replicate (32 - suc (length X)) 0))

pub bits_0* : (C : Bytes) → bits0* (bits C) ≡ bits (zero_fill 16 C)
unfolding zero_fill
bits_0* C =
    let k : ℕ = (16 - length C % 16) % 16 in
    let n : (128 - length (bits C) % 128) % 128 ≡ 8 * k = omega (arith, length_bits C) in
    ap (λ (m : ℕ). bits C ++ replicate m 0) n
    ∙ ap (λ (l : Bits). bits C ++ l) (sym (bits_in_bits (replicate k 0) ∙ in_bits_zeros 8 k))
    ∙ sym (bits_append C (replicate k 0))

-- 10* alone
pub bits_1 : bits10* [] ≡ bits (pad10* [])
unfolding bits10* pad10* zero_fill bits digits
bits_1 = refl

pub one_block : Block (pad10* [])
one_block = pad_block {n = 0} {X = []} (record { len = refl; low = tt }) (omega arith)
