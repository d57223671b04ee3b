-- The branches of lines 100 to 115: the empty text or another, a string of the stretch's length or a longer one.
use mathlib.Core.Bool.{Bool, true, false}
use mathlib.Core.List.{[], ◌∷◌, ◌++◌, append-nil}
use mathlib.Core.Option.{Option, none, some}
use mathlib.Core.Path.{◌≡◌, refl, ap, ap₂, sym, ◌∙◌}
use Prim.Native.Nat.{ℕ, zero, suc, ◌+◌, ◌-◌, ◌≤◌, ◌<◌}
use native.Mathlib.Nat.{zero-add}
use native.Mathlib.Omega.{arith}
use borrow.Author.Tests.{eq-eqb, ne_eqb, le-ltb, lt-ltb}
use lib.ListN.{length, take, drop, replicate, length-append, length-drop, take-append-drop}
use lib.Seq.{take_all, take-append_seam}
use Rattle.std.specs.Prelude.{if◌then◌else◌}
use Rattle.paper.specs.Strings.{Bytes, same}
use Rattle.paper.specs.Figure6.{BlockFunction, prf_from}
use Rattle.paper.specs.Figure5.{encipher_tiny, decipher_tiny, core, encipher, decipher, unpadded}
use Rattle.laws.proofs.Tables.{no_entries}
use Rattle.laws.proofs.Fronts.{lent_end}
use Rattle.laws.proofs.Sealing.{same_equal}
use Rattle.wide.specs.declared.Way.{Way}
use Rattle.wide.specs.declared.Way.TheVariants.{Encipher, Decipher}
use Rattle.wide.specs.Ways.{first_of, second_of}
use Rattle.cipher.specs.Under.{ciphered, encrypt_under, decrypt_under, opens, leaves}

-- ---- Lines 200 to 202, by the length: Y is what the call left for X

module _ (f : BlockFunction) (Δ X Y : Bytes) where
  pub by_core : (w : Way) → 32 ≤ length X → Y ≡ core f Δ (first_of w) (second_of w) X → Y ≡ ciphered w f Δ X
  unfolding encipher decipher
  by_core Encipher h e = e ∙ simp (le-ltb _ _ h)
  by_core Decipher h e = e ∙ simp (le-ltb _ _ h)

  module _ (h : length X < 32) where
    pub by_tiny : (w : Way) → w ≡ Encipher → Y ≡ encipher_tiny f Δ X → Y ≡ ciphered w f Δ X
    unfolding encipher
    by_tiny w is e = e ∙ simp (is, lt-ltb _ _ h)

    pub by_tiny_back : (w : Way) → w ≡ Decipher → Y ≡ decipher_tiny f Δ X → Y ≡ ciphered w f Δ X
    unfolding decipher
    by_tiny_back w is e = e ∙ simp (is, lt-ltb _ _ h)

-- ---- A string put first in a buffer

-- mid is the buffer out with M first
module _ (M out mid : Bytes) (put : mid ≡ take 0 out ++ M ++ drop (0 + length M) out) where
  pub put_first : mid ≡ M ++ drop (length M) out
  put_first = put ∙ ap (λ (k : ℕ). M ++ drop k out) (zero-add (length M))

  -- a string that fills the buffer
  pub put_all : length M ≡ length out → mid ≡ M
  put_all h = put_first ∙ ap (λ (l : Bytes). M ++ l) (no_entries (drop (length M) out) (length-drop (length M) out ∙ omega arith)) ∙ append-nil M

module _ (M out mid : Bytes) (copied : mid ≡ M ++ drop (length M) out) where
  -- M first, and zeros for the rest, which was lent
  cleared : (zs : Bytes) → length M ≤ length out → zs ≡ replicate (length (take (length mid - length M) (drop (length M) mid))) 0
      → take (length M) mid ++ (zs ++ drop (length mid - length M) (drop (length M) mid)) ≡ M ++ replicate (length out - length M) 0
  cleared zs h z =
      let n : ℕ = length out - length M in
      let ends : length (drop (length M) out) ≡ n = length-drop (length M) out in
      let long : length mid ≡ length out = ap length copied ∙ length-append M (drop (length M) out) ∙ omega (arith, ends) in
      let front : take (length M) mid ≡ M = ap (take (length M)) copied ∙ take-append_seam M (drop (length M) out) in
      let back : length (drop (length M) mid) ≡ n = length-drop (length M) mid ∙ ap (λ (k : ℕ). k - length M) long in
      let all : take (length mid - length M) (drop (length M) mid) ≡ drop (length M) mid = take_all (length mid - length M) (drop (length M) mid) (omega (arith, long, back)) in
      let zeros : zs ≡ replicate n 0 = z ∙ ap (λ (k : ℕ). replicate k 0) (ap length all ∙ back) in
      lent_end mid zs (length M) (omega (arith, long)) ∙ (λ i. front i ++ zeros i)

-- the first zeros of many
take_zeros : (t n : ℕ) → t ≤ n → take {A = ℕ} t (replicate n 0) ≡ replicate t 0
take_zeros zero n h = refl
take_zeros (suc t) zero h = absurd (omega (arith, h))
take_zeros (suc t) (suc n) h = ap (λ (l : Bytes). 0 ∷ l) (take_zeros t n (omega (arith, h)))

-- ---- The branches

module _ (E : BlockFunction) (Δ : Bytes) where
  -- the empty text: out is filled
  pub seals_none : (M out last : Bytes) → length M ≡ 0 → last ≡ prf_from E Δ (length out) → last ≡ encrypt_under E Δ (length out - length M) M
  unfolding encrypt_under
  seals_none M out last e p =
      let n : ℕ = length out - length M in
      let all : length out ≡ n = omega (arith, e) in
      p
      ∙ ap (prf_from E Δ) all
      ∙ sym (ap (λ (b : Bool). if b then prf_from E Δ n else encipher E Δ (M ++ replicate n 0)) (eq-eqb (length M) 0 e))

  -- another: it is put first, the rest is cleared, and all is enciphered
  pub seals_some : (M out mid zs last : Bytes) → length M ≤ length out → (length M ≡ 0 → ⊥) → mid ≡ M ++ drop (length M) out
      → zs ≡ replicate (length (take (length mid - length M) (drop (length M) mid))) 0
      → last ≡ encipher E Δ (take (length M) mid ++ (zs ++ drop (length mid - length M) (drop (length M) mid)))
      → last ≡ encrypt_under E Δ (length out - length M) M
  unfolding encrypt_under
  seals_some M out mid zs last h f copied z e =
      let n : ℕ = length out - length M in
      e
      ∙ ap (encipher E Δ) (cleared M out mid copied zs h z)
      ∙ sym (ap (λ (b : Bool). if b then prf_from E Δ n else encipher E Δ (M ++ replicate n 0)) (ne_eqb (length M) 0 f))

  module _ (t : ℕ) (C : Bytes) where
    -- what the check found, and the text
    abbrev checked : Bool → Bytes → Option Bytes
    checked b M = if b then some M else none

    opened_empty : length C ≡ t → decrypt_under E Δ t C ≡ checked (same C (prf_from E Δ t)) []
    unfolding decrypt_under
    opened_empty e = ap (λ (b : Bool). if b then checked (same C (prf_from E Δ t)) [] else unpadded E [] t (decipher E Δ C)) (eq-eqb (length C) t e)

    opened_other : (length C ≡ t → ⊥) → decrypt_under E Δ t C
        ≡ checked (same (drop (length (decipher E Δ C) - t) (decipher E Δ C)) (replicate t 0)) (take (length (decipher E Δ C) - t) (decipher E Δ C))
    unfolding decrypt_under unpadded
    opened_other f = ap (λ (b : Bool). if b then checked (same C (prf_from E Δ t)) [] else unpadded E [] t (decipher E Δ C)) (ne_eqb (length C) t f)

    opens_checked : (b : Bool) (M : Bytes) → opens (checked b M) ≡ b
    opens_checked true M = refl
    opens_checked false M = refl

    -- a string of the stretch's length: P is compared with it
    pub empty_opens : (P : Bytes) (n : ℕ) (r : Bool) → length C ≡ t → t ≡ n → P ≡ prf_from E Δ n → r ≡ same C P → r ≡ opens (decrypt_under E Δ t C)
    empty_opens P n r e g p q =
        q
        ∙ ap (same C) (p ∙ ap (prf_from E Δ) (sym g))
        ∙ sym (opens_checked (same C (prf_from E Δ t)) [])
        ∙ ap opens (sym (opened_empty e))

    -- as many zeros are left, whether it opens or not
    empty_leaves : length C ≡ t → replicate (length C) 0 ≡ leaves (decrypt_under E Δ t C) t (length C)
    empty_leaves e = go (same C (prf_from E Δ t)) ∙ ap (λ (o : Option Bytes). leaves o t (length C)) (sym (opened_empty e))
      where
        go : (b : Bool) → replicate (length C) 0 ≡ leaves (checked b []) t (length C)
        go true = ap (λ (k : ℕ). replicate k 0) e
        go false = refl

    -- the call for such a string, with the string's own length as the stretch, is the one for t
    pub empty_answer : (r : Bool) (n : ℕ) (last : Bytes) → length C ≡ t → length C ≡ n → r ≡ opens (decrypt_under E Δ (length C) C) → last ≡ replicate n 0
        → (r ≡ opens (decrypt_under E Δ t C)) × (last ≡ leaves (decrypt_under E Δ t C) t (length C))
    empty_answer r n last e g o z =
        (o ∙ ap (λ (k : ℕ). opens (decrypt_under E Δ k C)) e, z ∙ ap (λ (k : ℕ). replicate k 0) (sym g) ∙ empty_leaves e)

    -- a longer one: mid, the buffer that it fills, deciphers to X
    module _ (mid X : Bytes) (put : mid ≡ C) (is : X ≡ decipher E Δ mid) (kept : length X ≡ length mid) (more : t < length C) where
      long : length X ≡ length C
      long = kept ∙ ap length put

      -- its last bytes, which are to be zeros, and those before
      abbrev end : Bytes
      end = drop (length C - t) X

      abbrev front : Bytes
      front = take (length C - t) X

      opened_X : decrypt_under E Δ t C ≡ checked (same end (replicate t 0)) front
      opened_X =
          let from : decipher E Δ C ≡ X = sym (is ∙ ap (decipher E Δ) put) in
          opened_other (λ e. omega (arith, e))
          ∙ (λ i. checked (same (drop (length (from i) - t) (from i)) (replicate t 0)) (take (length (from i) - t) (from i)))
          ∙ ap (λ (k : ℕ). checked (same (drop (k - t) X) (replicate t 0)) (take (k - t) X)) long

      right : same end (replicate t 0) ≡ true → X ≡ front ++ replicate t 0
      right e = sym (take-append-drop (length C - t) X) ∙ ap (λ (l : Bytes). front ++ l) (same_equal end (replicate t 0) e)

      -- what is left, by what the check of the last bytes found
      left : (b : Bool) → same end (replicate t 0) ≡ b → (if b then X else replicate (length X) 0) ≡ leaves (checked b front) t (length C)
      left true e = right e
      left false e = ap (λ (k : ℕ). replicate k 0) long

      -- the comparison of the last bytes with as many zeros of 64 found b
      pub answer : (r b : Bool) → r ≡ b → t ≤ 64 → r ≡ same (take (length X - (length C - t)) end) (take t (replicate 64 0))
          → (b ≡ opens (decrypt_under E Δ t C)) × ((if b then X else replicate (length X) 0) ≡ leaves (decrypt_under E Δ t C) t (length C))
      answer r b is_b short q =
          let whole : take (length X - (length C - t)) end ≡ end = take_all (length X - (length C - t)) end (omega (arith, length-drop (length C - t) X, long)) in
          let zeros : take {A = ℕ} t (replicate 64 0) ≡ replicate t 0 = take_zeros t 64 short in
          let found : same end (replicate t 0) ≡ b = sym (q ∙ ap₂ same whole zeros) ∙ is_b in
          let o : checked b front ≡ decrypt_under E Δ t C = sym (opened_X ∙ ap (λ (b : Bool). checked b front) found) in
          (sym (opens_checked b front) ∙ ap opens o, left b found ∙ ap (λ (o : Option Bytes). leaves o t (length C)) o)
