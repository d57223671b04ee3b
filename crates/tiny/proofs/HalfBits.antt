-- Bytes and their half-bytes have the same bits.
use mathlib.Core.List.{List, [], ◌∷◌, ◌++◌, append_assoc}
use mathlib.Core.Path.{◌≡◌, refl, ap, ap₂, sym, ◌∙◌}
use Prim.Native.Nat.{ℕ, ◌+◌, ◌-◌, ◌/◌, ◌%◌, ◌<◌}
use native.Mathlib.Nat.{mod-lt, zero-lt-suc}
use native.Mathlib.Omega.{arith}
use lib.Arith.{digits_div, digits_mod}
use lib.ListN.{length}
use Rattle.paper.specs.Strings.{Bytes, digits, bits}
use Rattle.laws.proofs.BitStrings.{digits_split, bits_mod, in_bits}
use Rattle.halves.specs.HalfBytes.{half_bytes, byte_of, whole_bytes}

eight : (b : ℕ) → digits 2 8 b ≡ digits 2 4 (b / 16) ++ digits 2 4 (b % 16)
eight b = digits_split 2 4 4 b ∙ ap (λ (l : List ℕ). digits 2 4 (b / 16) ++ l) (sym (bits_mod 4 b))

pub bits_half_bytes : (X : Bytes) → bits X ≡ in_bits 4 (half_bytes X)
unfolding bits half_bytes in_bits
bits_half_bytes [] = refl
bits_half_bytes (b ∷ X) =
    ap₂ ◌++◌ (eight b) (bits_half_bytes X) ∙ append_assoc (digits 2 4 (b / 16)) (digits 2 4 (b % 16)) (in_bits 4 (half_bytes X))

byte_bits : (h l : ℕ) → digits 2 8 (byte_of h l) ≡ digits 2 4 h ++ digits 2 4 l
byte_bits h l =
    let low : l % 16 < 16 = mod-lt l (zero-lt-suc 15) in
    eight (byte_of h l)
    ∙ ap₂ (λ (x y : ℕ). digits 2 4 x ++ digits 2 4 y) (digits_div (h % 16) low) (digits_mod (h % 16) low)
    ∙ ap₂ ◌++◌ (bits_mod 4 h) (bits_mod 4 l)

pub bits_whole_bytes : (n : ℕ) (X : List ℕ) → length X ≡ n + n → bits (whole_bytes X) ≡ in_bits 4 X
unfolding bits whole_bytes in_bits
bits_whole_bytes n [] e = refl
bits_whole_bytes n (h ∷ []) e = absurd (omega arith)
bits_whole_bytes n (h ∷ l ∷ X) e =
    ap₂ ◌++◌ (byte_bits h l) (bits_whole_bytes (n - 1) X (omega arith)) ∙ append_assoc (digits 2 4 h) (digits 2 4 l) (in_bits 4 X)
