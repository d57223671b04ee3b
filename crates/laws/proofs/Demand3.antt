-- DEMAND 3, over the definitions with the real block function. A key, a header and a stretch are fixed. These theorems say what opens, to
-- what, and that no two texts seal to one string. They say nothing about how hard it is to find a string that opens: strength against
-- attackers is not claimed here.
use mathlib.Core.List.{List}
use mathlib.Core.Logic.{◌↔◌}
use mathlib.Core.Option.{Option, some}
use mathlib.Core.Path.{◌≡◌, refl, ap, sym, ◌∙◌}
use Prim.Native.Nat.{ℕ, ◌+◌, ◌≤◌}
use lib.ListN.{length}
use Rattle.paper.specs.Strings.{Bytes, Below, Digits, Block}
use Rattle.paper.specs.Figure6.{key_of, E, AEZ_prf}
use Rattle.paper.specs.Figure5.{tweak, delta, encrypt, decrypt}
use Rattle.paper.specs.Document01.{read_header, longest_sealed, longest_stretch}
use Rattle.laws.proofs.BlockFunction.{GivesBlocks}
use Rattle.laws.proofs.Headers.{read_readable}
use Rattle.laws.proofs.KeyBlocks.{key_of_bytes, E_block}
use Rattle.laws.proofs.HashBlocks.{AllBytes, hash_block, prf_bytes, tweak_bytes, readable_bytes}
use Rattle.laws.proofs.Sealing.{encrypt_bytes, decrypt_encrypt, encrypt_decrypt, opens_at_0}

-- what is fixed: a key of 48 bytes, a header that reads as some strings, and a stretch of at most 64 bytes
pub record Fixed (key header : Bytes) (strings : List Bytes) (stretch : ℕ) : Type 0 where
  pub key_bytes : Digits 8 48 key
  pub header_bytes : Below 256 header
  pub reads : read_header header ≡ some strings
  pub short : stretch ≤ longest_stretch

module _ (key header : Bytes) (strings : List Bytes) (stretch : ℕ) (fixed : Fixed key header strings stretch) where
  -- what a text seals to, and what a string opens to, if it opens
  abbrev pub sealed : Bytes → Bytes
  sealed M = encrypt (E (key_of key)) strings stretch M

  abbrev pub opened : Bytes → Option Bytes
  opened C = decrypt (E (key_of key)) strings stretch C

  -- a string of bytes within the limit
  pub record Within (C : Bytes) : Type 0 where
    pub bytes : Below 256 C
    pub limit : length C ≤ longest_sealed

  -- M is a text, and C is what it seals to
  pub record Seals (M C : Bytes) : Type 0 where
    pub text : Below 256 M
    pub to : sealed M ≡ C

  block_function : GivesBlocks (E (key_of key))
  block_function = E_block (key_of_bytes fixed.key_bytes)

  strings_bytes : AllBytes (tweak stretch strings)
  strings_bytes = tweak_bytes stretch strings (readable_bytes strings (read_readable header strings fixed.header_bytes fixed.reads))

  hashed : Block (delta (E (key_of key)) strings stretch)
  hashed = hash_block (E (key_of key)) block_function (tweak stretch strings) strings_bytes

  prf : Digits 8 stretch (AEZ_prf (E (key_of key)) (tweak stretch strings) stretch)
  prf = prf_bytes (E (key_of key)) block_function (tweak stretch strings) stretch strings_bytes

  -- a text and its sealed string: as many bytes more as the stretch
  pub sealed_length : (M : Bytes) → Below 256 M → length (sealed M) ≡ length M + stretch
  sealed_length M p = (encrypt_bytes (E (key_of key)) block_function strings stretch hashed prf M p).len

  -- and it is bytes too
  pub sealed_bytes : (M : Bytes) → Below 256 M → Below 256 (sealed M)
  sealed_bytes M p = (encrypt_bytes (E (key_of key)) block_function strings stretch hashed prf M p).low

  -- a string opens to the text that seals to it
  pub opens_to : (M C : Bytes) → Seals M C → opened C ≡ some M
  opens_to M C s = ap opened (sym s.to) ∙ decrypt_encrypt (E (key_of key)) block_function strings stretch hashed prf M s.text

  -- what a string opens to is a text that seals to it
  pub opened_seals : (M C : Bytes) → Below 256 C → opened C ≡ some M → Seals M C
  opened_seals M C p e =
      let was = encrypt_decrypt (E (key_of key)) block_function strings stretch hashed prf C M p e in
      record { text = was.0; to = was.1 }

  -- a string of at most 65,536 bytes opens if and only if some text seals to it
  pub opens_iff_sealed : (C : Bytes) → Within C → ((M : Bytes) × (opened C ≡ some M)) ↔ ((M : Bytes) × Seals M C)
  opens_iff_sealed C w = ((λ o. (o.0, opened_seals o.0 C w.bytes o.1)), (λ s. (s.0, opens_to s.0 C s.1)))

  -- that text is the only one
  pub only_text : (M N C : Bytes) → Seals M C → Seals N C → M ≡ N
  only_text M N C s u = let e : some M ≡ some N = sym (opens_to M C s) ∙ opens_to N C u in cc

  -- and it is what opening returns
  pub opening_returns : (M N C : Bytes) → Seals M C → opened C ≡ some N → N ≡ M
  opening_returns M N C s o = let e : some N ≡ some M = sym o ∙ opens_to M C s in cc

  -- two texts whose sealed strings are within the limit have equal sealed strings only if they are equal
  pub sealing_injective : (M N : Bytes) → Below 256 M → Below 256 N → Within (sealed M) → Within (sealed N) → sealed M ≡ sealed N → M ≡ N
  sealing_injective M N p q v w e = only_text M N (sealed N) (record { text = p; to = e }) (record { text = q; to = refl })

  -- at stretch 0 every string opens
  pub opens_at_stretch_0 : stretch ≡ 0 → (C : Bytes) → Within C → (M : Bytes) × (opened C ≡ some M)
  opens_at_stretch_0 z C w = opens_at_0 (E (key_of key)) block_function strings stretch hashed prf z C w.bytes
