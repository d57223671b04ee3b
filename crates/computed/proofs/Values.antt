-- Five values of AEZ, computed from the definitions. The key is 00 01 .. 2f, the header strings are 01, "n7", no bytes and "de".
-- Two programs written apart from each other give the first four. The fifth, which has a pair of blocks, is weaker: the program that gives it is by the hand that wrote the definitions.
use mathlib.Core.List.{List, [], ◌∷◌}
use mathlib.Core.Path.{◌≡◌, refl}
use Rattle.paper.specs.Strings.{Bytes, tab, zip, ◌⊕◌, ◌or◌, ◌and◌, zero_fill, bits10*, pad10*, digits, bits, value_from, bytes_of, bytes, sum, join}
use Rattle.paper.specs.Fips197.{ShiftRows, MixColumns, ◌•◌, mul_bits}
use Rattle.paper.specs.Section7.{double, shift_left, times_bits, ◌·◌, two_to}
use Rattle.paper.specs.Figure6.{Key, key_of, E, BlockFunction, hash_string, hash_from, AEZ_hash, prf_from, AEZ_prf}
use Rattle.paper.specs.Figure5.{turn, turns_up, last_step, encipher_tiny, Wᵢ, Xᵢ, X, Sx, Sy, S, S'ᵢ, Yᵢ, Zᵢ, C'ᵢ, Cᵢ, Cu, Cv, Y, Cy, Cx, core, encipher, encrypt}
use Rattle.computed.proofs.ByTable.{rounds_by, AESBy, hash_row_over, EOver, E_looked, E_by_table}

abbrev key : Key
key = key_of (tab 48 (λ i. i))

abbrev strings : List Bytes
strings = (0x01 ∷ []) ∷ (0x6e ∷ 0x37 ∷ []) ∷ [] ∷ (0x64 ∷ 0x65 ∷ []) ∷ []

abbrev hello : Bytes
hello = 0x68 ∷ 0x65 ∷ 0x6c ∷ 0x6c ∷ 0x6f ∷ []

abbrev empty_sealed : Bytes
empty_sealed =
    0x4c ∷ 0x52 ∷ 0x4f ∷ 0x8f ∷ 0xf2 ∷ 0xa5 ∷ 0x4c ∷ 0x93 ∷ 0xb3 ∷ 0x53 ∷ 0x56 ∷ 0x93 ∷ 0x99 ∷ 0x84 ∷ 0x41 ∷ 0x1c ∷ []

abbrev five_sealed : Bytes
five_sealed =
    0xe3 ∷ 0x60 ∷ 0x00 ∷ 0x52 ∷ 0xf6 ∷ 0xf4 ∷ 0xbe ∷ 0x16 ∷ 0xf5 ∷ 0x14 ∷ 0xd7 ∷ 0xf4 ∷ 0xfe ∷ 0xe2 ∷ 0x21 ∷ 0xdd
    ∷ 0xcf ∷ 0x4d ∷ 0x71 ∷ 0xfd ∷ 0x5d ∷ []

abbrev five_unstretched_sealed : Bytes
five_unstretched_sealed =
    0xa6 ∷ 0x8f ∷ 0xcc ∷ 0x5b ∷ 0x92 ∷ []

abbrev thirty_two_sealed : Bytes
thirty_two_sealed =
    0xa9 ∷ 0x1e ∷ 0x24 ∷ 0x91 ∷ 0x6e ∷ 0x35 ∷ 0xe0 ∷ 0x79 ∷ 0xf6 ∷ 0xc7 ∷ 0x83 ∷ 0x2c ∷ 0x1f ∷ 0xda ∷ 0x0c ∷ 0x91
    ∷ 0xf5 ∷ 0xe5 ∷ 0xb1 ∷ 0xe2 ∷ 0x0a ∷ 0x55 ∷ 0x3e ∷ 0x16 ∷ 0x7a ∷ 0x97 ∷ 0xc4 ∷ 0xde ∷ 0xa8 ∷ 0x56 ∷ 0x31 ∷ 0xbc
    ∷ 0x95 ∷ 0x2f ∷ 0xaa ∷ 0x99 ∷ 0x2a ∷ 0x48 ∷ 0x8f ∷ 0x5e ∷ 0x4a ∷ 0x8a ∷ 0xf6 ∷ 0x59 ∷ 0xdc ∷ 0x16 ∷ 0x2d ∷ 0x84 ∷ []

abbrev sixty_four_sealed : Bytes
sixty_four_sealed =
    0xaf ∷ 0x30 ∷ 0xdb ∷ 0x69 ∷ 0x29 ∷ 0xf0 ∷ 0x5e ∷ 0x02 ∷ 0xb0 ∷ 0xc7 ∷ 0xdb ∷ 0x3b ∷ 0x06 ∷ 0x01 ∷ 0x06 ∷ 0x1e
    ∷ 0x5f ∷ 0xd9 ∷ 0x98 ∷ 0x71 ∷ 0x59 ∷ 0xd0 ∷ 0x64 ∷ 0x48 ∷ 0x0e ∷ 0x4d ∷ 0x64 ∷ 0x5a ∷ 0xc4 ∷ 0x7d ∷ 0x2a ∷ 0xed
    ∷ 0x2f ∷ 0xda ∷ 0x0c ∷ 0x51 ∷ 0x07 ∷ 0x96 ∷ 0x0b ∷ 0x63 ∷ 0xf7 ∷ 0x21 ∷ 0x87 ∷ 0x29 ∷ 0xf1 ∷ 0xe6 ∷ 0xe3 ∷ 0x77
    ∷ 0x04 ∷ 0x27 ∷ 0xf4 ∷ 0x58 ∷ 0x8f ∷ 0x29 ∷ 0x8d ∷ 0x04 ∷ 0x1f ∷ 0x09 ∷ 0x84 ∷ 0xac ∷ 0x22 ∷ 0x4c ∷ 0x69 ∷ 0xa2 ∷ []

-- what five texts seal to under the block function e
pub record Values (e : BlockFunction) : Type 0 where
  pub empty : encrypt e strings 16 [] ≡ empty_sealed
  pub five : encrypt e strings 16 hello ≡ five_sealed
  pub five_unstretched : encrypt e strings 0 hello ≡ five_unstretched_sealed
  pub thirty_two : encrypt e strings 16 (tab 32 (λ i. i)) ≡ thirty_two_sealed
  pub sixty_four : encrypt e strings 0 (tab 64 (λ i. i)) ≡ sixty_four_sealed

looked_values : Values (E_looked key)
unfolding AESBy rounds_by EOver hash_row_over key_of ShiftRows MixColumns ◌•◌ mul_bits double shift_left times_bits ◌·◌ two_to zip ◌⊕◌ ◌or◌ ◌and◌ zero_fill bits10* pad10* digits bits value_from bytes_of bytes sum join hash_string hash_from AEZ_hash prf_from AEZ_prf turn turns_up last_step encipher_tiny Wᵢ Xᵢ X Sx Sy S S'ᵢ Yᵢ Zᵢ C'ᵢ Cᵢ Cu Cv Y Cy Cx core encipher encrypt
looked_values = record { empty = refl; five = refl; five_unstretched = refl; thirty_two = refl; sixty_four = refl }

pub values : Values (E key)
values = rw (E_by_table key) looked_values
