-- AEZ-tiny on half-bytes, with the turns in any order, is that on bits: the whole of both directions.
use mathlib.Core.List.{List}
use mathlib.Core.Path.{◌≡◌, ap, ap₂, sym, ◌∙◌}
use Prim.Native.Nat.{ℕ, ◌+◌, ◌*◌, ◌/◌, ◌≤◌}
use native.Mathlib.Omega.{arith}
use lib.ListN.{take}
use Rattle.paper.specs.Strings.{Bytes, Bits, Digits, Block, ◌⊕◌, number, bits, bytes}
use Rattle.paper.specs.Figure6.{row, BlockFunction}
use Rattle.paper.specs.Figure5.{tiny_rounds, tiny_index, tiny_e, last_step, encipher_tiny, decipher_tiny}
use Rattle.laws.proofs.BlockFunction.{GivesBlocks}
use Rattle.laws.proofs.Counts.{up, down}
use Rattle.laws.proofs.Digits.{⊕_block, take_digits}
use Rattle.laws.proofs.BitStrings.{in_bits, in_bits_take, bits_number, bytes_bits}
use Rattle.laws.proofs.Bitwise.{bits_⊕}
use Rattle.laws.proofs.KeyBlocks.{number_block}
use Rattle.laws.proofs.Padding.{mark_digits}
use Rattle.laws.proofs.Feistel.{RoundFunction, pass, pass_digits, pass_in_bits}
use Rattle.laws.proofs.Tiny.{added, all_turns, encipher_tiny_bits, decipher_tiny_bits}
use Rattle.halves.specs.HalfBytes.{half_bytes, whole_bytes}
use Rattle.halves.proofs.ByteHalves.{half_bytes_digits, whole_bytes_digits}
use Rattle.tiny.specs.OnBytes.{last_bytes}
use Rattle.tiny.proofs.HalfBits.{bits_half_bytes, bits_whole_bytes}
use Rattle.tiny.proofs.PaddedHalves.{half10*, in_bits_10*}
use Rattle.tiny.proofs.LastBits.{tiny_e_bytes, last_bytes_digits, last_bits}

-- 216: E of turn i, for the right half R
unfoldable pub half_e : BlockFunction → Bytes → ℕ → ℕ → List ℕ → Bytes
half_e E Δ j i R = E (row 0) j (Δ ⊕ (whole_bytes (half10* R) ⊕ number i))

-- 216: what turn i adds
abbrev pub half_added : BlockFunction → Bytes → ℕ → ℕ → RoundFunction
half_added E Δ n j i R = take n (half_bytes (half_e E Δ j i R))

-- 214 to 217, but for its `if`: the turns of a list on n bytes
abbrev pub half_turns : BlockFunction → Bytes → ℕ → List ℕ → Bytes → Bytes
half_turns E Δ n l M = whole_bytes (pass (half_added E Δ n (tiny_index (8 * n))) n l (half_bytes M))

module _ (E : BlockFunction) (E_block : GivesBlocks E) (Δ : Bytes) (Δ-block : Block Δ) (n j : ℕ) (few : n ≤ 31) where
  module _ (i : ℕ) (R : List ℕ) (p : Digits 4 n R) where
    padded_digits : Digits 4 32 (half10* R)
    unfolding half10*
    padded_digits = mark_digits 32 8 (omega arith) (omega arith) p

    padded : Block (whole_bytes (half10* R) ⊕ number i)
    padded = ⊕_block (whole_bytes_digits 16 (half10* R) padded_digits.len) (number_block i)

    pub half_e_block : Block (half_e E Δ j i R)
    unfolding half_e
    half_e_block = E_block (row 0) j _ (⊕_block Δ-block padded)

    half_e_digits : Digits 4 32 (half_bytes (half_e E Δ j i R))
    half_e_digits = half_bytes_digits {n = 16} half_e_block

    pub half_added_digits : Digits 4 n (half_added E Δ n j i R)
    half_added_digits = take_digits n (omega arith) half_e_digits

    added_in_bits : added E Δ (4 * n) j i (in_bits 4 R) ≡ in_bits 4 (half_added E Δ n j i R)
    added_in_bits =
        ap (λ (X : Bits). take (4 * n) (tiny_e E Δ j X))
        (ap₂ ◌⊕◌ (in_bits_10* R (omega (arith, p.len)) ∙ sym (bits_whole_bytes 16 (half10* R) padded_digits.len)) (bits_number i)
        ∙ sym (bits_⊕ (whole_bytes (half10* R)) (number i)))
        ∙ ap (take (4 * n)) (whole ∙ bits_half_bytes (half_e E Δ j i R))
        ∙ in_bits_take 4 n (half_bytes (half_e E Δ j i R)) (omega (arith, half_e_digits.len))
      where
        whole : tiny_e E Δ j (bits (whole_bytes (half10* R) ⊕ number i)) ≡ bits (half_e E Δ j i R)
        whole = unfold half_e in tiny_e_bytes E E_block Δ Δ-block j padded

  -- the turns of a list
  module _ (l : List ℕ) {M : Bytes} (p : Digits 8 n M) where
    abbrev passed : Bytes
    passed = whole_bytes (pass (half_added E Δ n j) n l (half_bytes M))

    half_digits : Digits 4 (n + n) (pass (half_added E Δ n j) n l (half_bytes M))
    half_digits = pass_digits 4 n (half_added E Δ n j) half_added_digits l (half_bytes_digits p)

    passed_digits : Digits 8 n passed
    passed_digits = whole_bytes_digits n _ half_digits.len

    passed_bits : pass (added E Δ (4 * n) j) (4 * n) l (bits M) ≡ bits passed
    passed_bits =
        ap (pass (added E Δ (4 * n) j) (4 * n) l) (bits_half_bytes M)
        ∙ pass_in_bits 4 n (half_added E Δ n j) half_added_digits 4 (added E Δ (4 * n) j) added_in_bits l (half_bytes_digits p)
        ∙ sym (bits_whole_bytes n _ half_digits.len)

module _
    (E : BlockFunction) (E_block : GivesBlocks E) (Δ : Bytes) (Δ-block : Block Δ)
    (n : ℕ) (some : 1 ≤ n) (few : n ≤ 31) where
  all_turns_bits : (l : List ℕ) {M : Bytes} → Digits 8 n M → all_turns E Δ n l (bits M) ≡ bits (half_turns E Δ n l M)
  all_turns_bits l {M} p =
      let half : 8 * n / 2 ≡ 4 * n = omega arith in
      ap (λ (h : ℕ). pass (added E Δ h (tiny_index (8 * n))) h l (bits M)) half
      ∙ passed_bits E E_block Δ Δ-block n (tiny_index (8 * n)) few l p

  half_turns_digits : (l : List ℕ) {M : Bytes} → Digits 8 n M → Digits 8 n (half_turns E Δ n l M)
  half_turns_digits l p = passed_digits E E_block Δ Δ-block n (tiny_index (8 * n)) few l p

  module _ (M : Bytes) (p : Digits 8 n M) where
    -- enciphering on half-bytes
    pub encipher_tiny_half_bytes : encipher_tiny E Δ M ≡ last_bytes E Δ (half_turns E Δ n (up (tiny_rounds (8 * n))) M)
    encipher_tiny_half_bytes =
        let l : List ℕ = up (tiny_rounds (8 * n)) in
        let q = half_turns_digits l p in
        encipher_tiny_bits E Δ n p
        ∙ ap (λ (X : Bits). bytes (last_step E Δ (8 * n) X)) (all_turns_bits l p)
        ∙ ap bytes (last_bits E E_block Δ Δ-block n some q)
        ∙ bytes_bits (last_bytes E Δ (half_turns E Δ n l M)) (last_bytes_digits E E_block Δ Δ-block n some q).low

    -- deciphering on half-bytes
    pub decipher_tiny_half_bytes : decipher_tiny E Δ M ≡ half_turns E Δ n (down (tiny_rounds (8 * n))) (last_bytes E Δ M)
    decipher_tiny_half_bytes =
        let l : List ℕ = down (tiny_rounds (8 * n)) in
        let q = last_bytes_digits E E_block Δ Δ-block n some p in
        decipher_tiny_bits E Δ n p
        ∙ ap (λ (X : Bits). bytes (all_turns E Δ n l X)) (last_bits E E_block Δ Δ-block n some p)
        ∙ ap bytes (all_turns_bits l q)
        ∙ bytes_bits (half_turns E Δ n l (last_bytes E Δ M)) (half_turns_digits l q).low
