-- Twelve facts of the definitions, each computed.
use mathlib.Core.List.{List, [], ◌∷◌}
use mathlib.Core.Path.{◌≡◌, refl, ap, ◌∙◌}
use Prim.Native.Nat.{ℕ}
use lib.ListN.{replicate}
use Rattle.paper.specs.Strings.{Bytes, zip, ◌⊕◌, zero_fill, pad10*, digits, bits, value_from, bytes_of, bytes}
use Rattle.paper.specs.Fips197.{sbox, affine, inverse, squares, ShiftRows, MixColumns, ◌•◌, mul_bits}
use Rattle.paper.specs.Section7.{zeros, double, shift_left, times_bits, ◌·◌, AES, AES4, AES10}
use Rattle.paper.specs.Figure5.{pairs, rest}
use Rattle.paper.specs.Document01.{write_strings, write_header, log_items, log_header}
use Rattle.computed.proofs.ByTable.{rounds_by, AESBy, AES_looked, AES_by_table}

-- the block 00 .. 00 n
abbrev pub last : ℕ → Bytes
last n = 0x00 ∷ 0x00 ∷ 0x00 ∷ 0x00 ∷ 0x00 ∷ 0x00 ∷ 0x00 ∷ 0x00 ∷ 0x00 ∷ 0x00 ∷ 0x00 ∷ 0x00 ∷ 0x00 ∷ 0x00 ∷ 0x00 ∷ n ∷ []

-- the block 80 00 .. 00
abbrev pub high : Bytes
high = 0x80 ∷ 0x00 ∷ 0x00 ∷ 0x00 ∷ 0x00 ∷ 0x00 ∷ 0x00 ∷ 0x00 ∷ 0x00 ∷ 0x00 ∷ 0x00 ∷ 0x00 ∷ 0x00 ∷ 0x00 ∷ 0x00 ∷ 0x00 ∷ []

pub record TwelveFacts : Type 0 where
  pub double_high : double high ≡ last 0x87
  pub double_one : double (last 0x01) ≡ last 0x02
  pub seven_ones : 7 · last 0x01 ≡ last 0x07
  pub no_multiple : 0 · replicate 16 0xff ≡ replicate 16 0x00
  pub padding : pad10* [] ≡ high
  pub sbox_00 : sbox 0x00 ≡ 0x63
  pub sbox_01 : sbox 0x01 ≡ 0x7c
  pub sbox_53 : sbox 0x53 ≡ 0xed
  pub four_rounds : AES4 (replicate 5 zeros) zeros ≡ replicate 16 0x76
  pub ten_rounds : AES10 (replicate 11 zeros) zeros ≡ replicate 16 0x36
  pub counts : (pairs 48 ≡ 0) × (rest 48 ≡ 16)
  pub log_header_lem : log_header (0x01 ∷ []) (0x6e ∷ 0x37 ∷ []) [] (0x64 ∷ 0x65 ∷ [])
      ≡ 0x04 ∷ 0x00 ∷ 0x01 ∷ 0x01 ∷ 0x00 ∷ 0x02 ∷ 0x6e ∷ 0x37 ∷ 0x00 ∷ 0x00 ∷ 0x00 ∷ 0x02 ∷ 0x64 ∷ 0x65 ∷ []

-- AES by the table of the S-box
looked : (Ks : List Bytes) (X Y : Bytes) → AES_looked Ks X ≡ Y → AES Ks X ≡ Y
looked Ks X Y e = ap (λ (A : List Bytes → Bytes → Bytes). A Ks X) AES_by_table ∙ e

pub twelve_facts : TwelveFacts
unfolding double shift_left times_bits ◌·◌ zip ◌⊕◌ zero_fill pad10* digits bits value_from bytes_of bytes sbox affine inverse squares ◌•◌ mul_bits ShiftRows MixColumns AESBy rounds_by write_strings write_header log_items log_header
twelve_facts = record {
  double_high = refl;
  double_one = refl;
  seven_ones = refl;
  no_multiple = refl;
  padding = refl;
  sbox_00 = refl;
  sbox_01 = refl;
  sbox_53 = refl;
  four_rounds = looked (replicate 5 zeros) zeros (replicate 16 0x76) refl;
  ten_rounds = looked (replicate 11 zeros) zeros (replicate 16 0x36) refl;
  counts = (refl, refl);
  log_header_lem = refl;
}
