-- FIPS 197's worked products (4.2) and the first round of its worked cipher (appendix B), computed.
use mathlib.Core.List.{[], ◌∷◌, map}
use mathlib.Core.Path.{◌≡◌, refl, ap, fun_ext, ◌∙◌}
use Prim.Native.Nat.{ℕ}
use Rattle.paper.specs.Strings.{Bytes, zip, ◌⊕◌}
use Rattle.paper.specs.Fips197.{◌•◌, mul_bits, SubBytes, ShiftRows, MixColumns}
use Rattle.paper.specs.Section7.{aesenc}
use Rattle.sbox_rule.proofs.SBox.{by_table}

pub product : 0x57 • 0x83 ≡ 0xc1
unfolding ◌•◌ mul_bits
product = refl

pub product_2 : 0x57 • 0x13 ≡ 0xfe
unfolding ◌•◌ mul_bits
product_2 = refl

-- appendix B, round 1: the state at its start, after each step, its key, and the state at the start of round 2
abbrev start : Bytes
start = 0x19 ∷ 0x3d ∷ 0xe3 ∷ 0xbe ∷ 0xa0 ∷ 0xf4 ∷ 0xe2 ∷ 0x2b ∷ 0x9a ∷ 0xc6 ∷ 0x8d ∷ 0x2a ∷ 0xe9 ∷ 0xf8 ∷ 0x48 ∷ 0x08 ∷ []

abbrev substituted : Bytes
substituted = 0xd4 ∷ 0x27 ∷ 0x11 ∷ 0xae ∷ 0xe0 ∷ 0xbf ∷ 0x98 ∷ 0xf1 ∷ 0xb8 ∷ 0xb4 ∷ 0x5d ∷ 0xe5 ∷ 0x1e ∷ 0x41 ∷ 0x52 ∷ 0x30 ∷ []

abbrev shifted : Bytes
shifted = 0xd4 ∷ 0xbf ∷ 0x5d ∷ 0x30 ∷ 0xe0 ∷ 0xb4 ∷ 0x52 ∷ 0xae ∷ 0xb8 ∷ 0x41 ∷ 0x11 ∷ 0xf1 ∷ 0x1e ∷ 0x27 ∷ 0x98 ∷ 0xe5 ∷ []

abbrev mixed_up : Bytes
mixed_up = 0x04 ∷ 0x66 ∷ 0x81 ∷ 0xe5 ∷ 0xe0 ∷ 0xcb ∷ 0x19 ∷ 0x9a ∷ 0x48 ∷ 0xf8 ∷ 0xd3 ∷ 0x7a ∷ 0x28 ∷ 0x06 ∷ 0x26 ∷ 0x4c ∷ []

abbrev round_key : Bytes
round_key = 0xa0 ∷ 0xfa ∷ 0xfe ∷ 0x17 ∷ 0x88 ∷ 0x54 ∷ 0x2c ∷ 0xb1 ∷ 0x23 ∷ 0xa3 ∷ 0x39 ∷ 0x39 ∷ 0x2a ∷ 0x6c ∷ 0x76 ∷ 0x05 ∷ []

abbrev next : Bytes
next = 0xa4 ∷ 0x9c ∷ 0x7f ∷ 0xf2 ∷ 0x68 ∷ 0x9f ∷ 0x35 ∷ 0x2b ∷ 0x6b ∷ 0x5b ∷ 0xea ∷ 0x43 ∷ 0x02 ∷ 0x6a ∷ 0x50 ∷ 0x49 ∷ []

pub worked_SubBytes : SubBytes start ≡ substituted
unfolding SubBytes
worked_SubBytes = ap (λ (f : ℕ → ℕ). map f start) (fun_ext by_table)

pub worked_ShiftRows : ShiftRows substituted ≡ shifted
unfolding ShiftRows
worked_ShiftRows = refl

pub worked_MixColumns : MixColumns shifted ≡ mixed_up
unfolding MixColumns ◌•◌ mul_bits
worked_MixColumns = refl

pub worked_round : aesenc start round_key ≡ next
unfolding aesenc ◌⊕◌ zip
worked_round =
    ap (λ (s : Bytes). MixColumns (ShiftRows s) ⊕ round_key) worked_SubBytes
    ∙ ap (λ (s : Bytes). MixColumns s ⊕ round_key) worked_ShiftRows
    ∙ ap (λ (s : Bytes). s ⊕ round_key) worked_MixColumns
