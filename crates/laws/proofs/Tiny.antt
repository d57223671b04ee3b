-- AEZ-tiny, over any block function: its two directions undo each other on strings of 1 to 31 bytes.
use mathlib.Core.List.{List, reverse}
use mathlib.Core.Path.{◌≡◌, refl, ap, sym, ◌∙◌}
use Prim.Native.Nat.{ℕ, ◌+◌, ◌*◌, ◌/◌, ◌≤◌}
use native.Mathlib.Omega.{arith}
use lib.ListN.{take}
use Rattle.paper.specs.Strings.{Bytes, Bits, Digits, Block, ◌⊕◌, bits10*, number_bits, bits, bytes}
use Rattle.paper.specs.Figure6.{row, BlockFunction}
use Rattle.paper.specs.Figure5.{Halves, halves, joined, tiny_rounds, tiny_index, tiny_e, turn, turns_up, turns_down, last_step, encipher_tiny, decipher_tiny}
use Rattle.laws.proofs.BlockFunction.{GivesBlocks}
use Rattle.laws.proofs.Counts.{up, down, reverse_up, reverse_down, counts_up, counts_down}
use Rattle.laws.proofs.Digits.{⊕_digits, take_digits, as_digits}
use Rattle.laws.proofs.BitStrings.{bytes_bits}
use Rattle.laws.proofs.BitBytes.{digits_bits, bits_digits, bytes_digits, bits_bytes}
use Rattle.laws.proofs.Padding.{mark_digits}
use Rattle.laws.proofs.Feistel.{RoundFunction, feistel, pass, pass_digits, pass_pass}
use Rattle.laws.proofs.LastStep.{last_step_digits, last_step_last_step}

-- ---- line 216: what a turn adds

-- of its number and the right half
abbrev pub added : BlockFunction → Bytes → ℕ → ℕ → RoundFunction
added E Δ n j i R = take n (tiny_e E Δ j (bits10* R ⊕ number_bits i))

module _ (E : BlockFunction) (E_block : GivesBlocks E) (Δ : Bytes) (Δ-block : Block Δ) (j : ℕ) where
  tiny_e_digits : (X : Bits) → Digits 1 128 X → Digits 1 128 (tiny_e E Δ j X)
  tiny_e_digits X p = bits_digits (E_block (row 0) j _ (bytes_digits 16 (⊕_digits (bits_digits Δ-block) p (omega arith))))

  added_digits : (n : ℕ) → n ≤ 127 → (i : ℕ) (X : Bits) → Digits 1 n X → Digits 1 n (added E Δ n j i X)
  unfolding bits10*
  added_digits n few i X p =
      take_digits n (omega arith) (tiny_e_digits _ (⊕_digits (mark_digits 128 1 (omega arith) (omega arith) p) (digits_bits 128 i) (omega arith)))

-- ---- on 8 n bits

module _ (E : BlockFunction) (Δ : Bytes) (n : ℕ) where
  -- 214 to 217, but for its `if`: the turns of a list
  abbrev pub all_turns : List ℕ → Bits → Bits
  all_turns l X = pass (added E Δ (8 * n / 2) (tiny_index (8 * n))) (8 * n / 2) l X

  abbrev forth : Bits → Bits
  forth X = last_step E Δ (8 * n) (all_turns (up (tiny_rounds (8 * n))) X)

  abbrev back : Bits → Bits
  back X = all_turns (down (tiny_rounds (8 * n))) (last_step E Δ (8 * n) X)

  module _ {M : Bytes} (p : Digits 8 n M) where
    pub encipher_tiny_bits : encipher_tiny E Δ M ≡ bytes (forth (bits M))
    unfolding encipher_tiny turns_up turn
    encipher_tiny_bits =
        ap (λ (k : ℕ). bytes (last_step E Δ (8 * k) (joined (turns_up E Δ (8 * k / 2) (tiny_index (8 * k)) (tiny_rounds (8 * k)) (halves (8 * k / 2) (bits M)))))) p.len
        ∙ ap (λ (s : Halves). bytes (last_step E Δ (8 * n) (joined s)))
        (counts_up (feistel (added E Δ (8 * n / 2) (tiny_index (8 * n)))) (turns_up E Δ (8 * n / 2) (tiny_index (8 * n))) (λ s. refl) (λ k s. refl)
        (tiny_rounds (8 * n)) (halves (8 * n / 2) (bits M)))

    pub decipher_tiny_bits : decipher_tiny E Δ M ≡ bytes (back (bits M))
    unfolding decipher_tiny turns_down turn
    decipher_tiny_bits =
        ap (λ (k : ℕ). bytes (joined (turns_down E Δ (8 * k / 2) (tiny_index (8 * k)) (tiny_rounds (8 * k)) (halves (8 * k / 2) (last_step E Δ (8 * k) (bits M)))))) p.len
        ∙ ap (λ (s : Halves). bytes (joined s))
        (counts_down (feistel (added E Δ (8 * n / 2) (tiny_index (8 * n)))) (turns_down E Δ (8 * n / 2) (tiny_index (8 * n))) (λ s. refl) (λ k s. refl)
        (tiny_rounds (8 * n)) (halves (8 * n / 2) (last_step E Δ (8 * n) (bits M))))

module _
    (E : BlockFunction) (E_block : GivesBlocks E) (Δ : Bytes) (Δ-block : Block Δ)
    (n : ℕ) (some : 1 ≤ n) (few : n ≤ 31) where
  half : 8 * n ≡ 8 * n / 2 + 8 * n / 2
  half = omega arith

  module _ {X : Bits} (p : Digits 1 (8 * n) X) where
    last_digits : Digits 1 (8 * n) (last_step E Δ (8 * n) X)
    last_digits = last_step_digits E Δ (tiny_e_digits E E_block Δ Δ-block 3) (8 * n) (omega arith) p

    last_last : last_step E Δ (8 * n) (last_step E Δ (8 * n) X) ≡ X
    last_last = last_step_last_step E Δ (tiny_e_digits E E_block Δ Δ-block 3) (8 * n) (omega arith) p

    module _ (l : List ℕ) where
      all_turns_digits : Digits 1 (8 * n) (all_turns E Δ n l X)
      all_turns_digits =
          as_digits (sym half)
          (pass_digits 1 (8 * n / 2) (added E Δ (8 * n / 2) (tiny_index (8 * n)))
          (added_digits E E_block Δ Δ-block (tiny_index (8 * n)) (8 * n / 2) (omega arith)) l (as_digits half p))

      -- m is the other order
      all_turns_back : {m : List ℕ} → reverse l ≡ m → all_turns E Δ n m (all_turns E Δ n l X) ≡ X
      all_turns_back e =
          ap (λ (k : List ℕ). all_turns E Δ n k (all_turns E Δ n l X)) (sym e)
          ∙ pass_pass 1 (8 * n / 2) (added E Δ (8 * n / 2) (tiny_index (8 * n)))
          (added_digits E E_block Δ Δ-block (tiny_index (8 * n)) (8 * n / 2) (omega arith)) l (as_digits half p)

  module _ {X : Bits} (p : Digits 1 (8 * n) X) where
    forth_digits : Digits 1 (8 * n) (forth E Δ n X)
    forth_digits = last_digits (all_turns_digits p (up (tiny_rounds (8 * n))))

    back_digits : Digits 1 (8 * n) (back E Δ n X)
    back_digits = all_turns_digits (last_digits p) (down (tiny_rounds (8 * n)))

    back_forth : back E Δ n (forth E Δ n X) ≡ X
    back_forth =
        ap (all_turns E Δ n (down (tiny_rounds (8 * n)))) (last_last (all_turns_digits p (up (tiny_rounds (8 * n)))))
        ∙ all_turns_back p (up (tiny_rounds (8 * n))) (reverse_up (tiny_rounds (8 * n)))

    forth_back : forth E Δ n (back E Δ n X) ≡ X
    forth_back =
        ap (last_step E Δ (8 * n)) (all_turns_back (last_digits p) (down (tiny_rounds (8 * n))) (reverse_down (tiny_rounds (8 * n))))
        ∙ last_last p

-- ---- on n bytes

-- G undoes F on 8 n bits, and so on n bytes
undone : (n : ℕ) (F G : Bits → Bits) {M : Bytes} → Digits 8 n M → Digits 1 (8 * n) (F (bits M)) → G (F (bits M)) ≡ bits M → bytes (G (bits (bytes (F (bits M))))) ≡ M
undone n F G {M} p q e = ap (λ (X : Bits). bytes (G X)) (bits_bytes n q) ∙ ap bytes e ∙ bytes_bits M p.low

module _
    (E : BlockFunction) (E_block : GivesBlocks E) (Δ : Bytes) (Δ-block : Block Δ)
    (n : ℕ) (M : Bytes) (some : 1 ≤ n) (few : n ≤ 31) (p : Digits 8 n M) where
  pub encipher_tiny_bytes : Digits 8 n (encipher_tiny E Δ M)
  encipher_tiny_bytes = rw (encipher_tiny_bits E Δ n p) (bytes_digits n (forth_digits E E_block Δ Δ-block n some few (bits_digits p)))

  pub decipher_tiny_bytes : Digits 8 n (decipher_tiny E Δ M)
  decipher_tiny_bytes = rw (decipher_tiny_bits E Δ n p) (bytes_digits n (back_digits E E_block Δ Δ-block n some few (bits_digits p)))

  pub decipher_encipher_tiny : decipher_tiny E Δ (encipher_tiny E Δ M) ≡ M
  decipher_encipher_tiny =
      decipher_tiny_bits E Δ n encipher_tiny_bytes
      ∙ ap (λ (C : Bytes). bytes (back E Δ n (bits C))) (encipher_tiny_bits E Δ n p)
      ∙ undone n (forth E Δ n) (back E Δ n) p (forth_digits E E_block Δ Δ-block n some few (bits_digits p)) (back_forth E E_block Δ Δ-block n some few (bits_digits p))

  pub encipher_decipher_tiny : encipher_tiny E Δ (decipher_tiny E Δ M) ≡ M
  encipher_decipher_tiny =
      encipher_tiny_bits E Δ n decipher_tiny_bytes
      ∙ ap (λ (C : Bytes). bytes (forth E Δ n (bits C))) (decipher_tiny_bits E Δ n p)
      ∙ undone n (back E Δ n) (forth E Δ n) p (back_digits E E_block Δ Δ-block n some few (bits_digits p)) (forth_back E E_block Δ Δ-block n some few (bits_digits p))
