-- Places where a definition is easily mistaken, computed: over any keys, blocks and block function, request E2's example, and headers that do not read.
use mathlib.Core.List.{[], ◌∷◌}
use mathlib.Core.Path.{◌≡◌, refl}
use Prim.Native.Nat.{ℕ}
use Rattle.paper.specs.Strings.{Bytes, tab, ◌⊕◌, pad10*, digits, sum}
use Rattle.paper.specs.Fips197.{SubBytes, ShiftRows, MixColumns}
use Rattle.paper.specs.Section7.{zeros, aesenc, rounds, AES}
use Rattle.paper.specs.Figure6.{row, BlockFunction}
use Rattle.paper.specs.Figure5.{X}
use Rattle.paper.specs.Document01.{bad_entry, read_strings, reading, write_strings, write_header, log_items, log_header}

-- the last round keeps its MixColumns
pub last_MixColumns : (K0 K1 B : Bytes) → AES (K0 ∷ K1 ∷ []) B ≡ MixColumns (ShiftRows (SubBytes (B ⊕ K0))) ⊕ K1
unfolding AES rounds aesenc
last_MixColumns K0 K1 B = refl

-- of 48 bytes, d is 16: u is full, and v, which is empty, counts all the same
pub empty_v : (E : BlockFunction) (Δ : Bytes) (x y : ℕ) → X E Δ x y (tab 48 (λ i. i)) ≡ zeros ⊕ E (row 0) 4 (tab 16 (λ i. i)) ⊕ E (row 0) 5 (pad10* [])
unfolding X sum
empty_v E Δ x y = refl

-- request E2: an item without bytes is written all the same, the collector or the locale
pub no_collector : log_header (0x01 ∷ []) (0x6e ∷ 0x37 ∷ []) [] (0x64 ∷ 0x65 ∷ [])
    ≡ 0x04 ∷ 0x00 ∷ 0x01 ∷ 0x01 ∷ 0x00 ∷ 0x02 ∷ 0x6e ∷ 0x37 ∷ 0x00 ∷ 0x00 ∷ 0x00 ∷ 0x02 ∷ 0x64 ∷ 0x65 ∷ []
unfolding log_header log_items write_header write_strings digits
no_collector = refl

pub no_locale : log_header (0x01 ∷ []) (0x6e ∷ 0x37 ∷ []) (0x64 ∷ 0x65 ∷ []) []
    ≡ 0x04 ∷ 0x00 ∷ 0x01 ∷ 0x01 ∷ 0x00 ∷ 0x02 ∷ 0x6e ∷ 0x37 ∷ 0x00 ∷ 0x02 ∷ 0x64 ∷ 0x65 ∷ 0x00 ∷ 0x00 ∷ []
unfolding log_header log_items write_header write_strings digits
no_locale = refl

-- request E5: the second of two strings has one length byte; the first of two is too long, and so is the second; a string runs past the end,
-- and is not told as bytes left over; a byte is left over; 17 strings
pub one_length_byte : reading (0x02 ∷ 0x00 ∷ 0x01 ∷ 0x61 ∷ 0x00 ∷ []) ≡ bad_entry 2
unfolding reading read_strings
one_length_byte = refl

pub first_of_two_bad : reading (0x02 ∷ 0xff ∷ 0xff ∷ 0xff ∷ 0xff ∷ []) ≡ bad_entry 1
unfolding reading read_strings
first_of_two_bad = refl

pub past_the_end : reading (0x01 ∷ 0x00 ∷ 0x02 ∷ 0x61 ∷ []) ≡ bad_entry 1
unfolding reading read_strings
past_the_end = refl

pub left_over : reading (0x01 ∷ 0x00 ∷ 0x01 ∷ 0x61 ∷ 0x62 ∷ []) ≡ bad_entry 17
unfolding reading read_strings
left_over = refl

pub seventeen_strings : reading (0x11 ∷ 0x00 ∷ 0x00 ∷ []) ≡ bad_entry 0
unfolding reading
seventeen_strings = refl
