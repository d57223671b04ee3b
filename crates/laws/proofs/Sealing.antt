-- Encrypting and decrypting (lines 100 to 115) over any block function: what is encrypted decrypts, and what decrypts was encrypted.
use mathlib.Core.Bool.{Bool, true, false, ◌&&◌}
use mathlib.Core.List.{List, [], ◌∷◌, ◌++◌}
use mathlib.Core.Option.{Option, none, some}
use mathlib.Core.Path.{◌≡◌, refl, ap, ap₂, sym, subst, ◌∙◌}
use Prim.Native.Nat.{ℕ, ◌+◌, ◌-◌, ◌≤◌, ◌<◌}
use native.Mathlib.Omega.{arith}
use borrow.Author.Tests.{le-ltb, eq-eqb, ne_eqb, ltb-false, eqb-true, eqb-false}
use lib.Arith.{lt_of_le-ne}
use lib.Dec.{eqb, ltb}
use lib.ListN.{length, take, drop, replicate, length-append, length-replicate, length-drop, take-append-drop}
use lib.Seq.{take-append_seam, drop-append_seam}
use Rattle.std.specs.Prelude.{if◌then◌else◌}
use Rattle.paper.specs.Strings.{Bytes, Below, Digits, Block, same}
use Rattle.paper.specs.Figure6.{BlockFunction, AEZ_prf}
use Rattle.paper.specs.Figure5.{tweak, delta, encipher, decipher, encrypt, unpadded, decrypt}
use Rattle.laws.proofs.BlockFunction.{GivesBlocks}
use Rattle.laws.proofs.Tables.{no_entries}
use Rattle.laws.proofs.Digits.{append_digits, take_digits, zero_digits, as_digits}
use Rattle.laws.proofs.Ciphers.{Some, encipher_bytes, decipher_bytes, decipher_encipher, encipher_decipher}

-- ---- the test of equal strings

pub same_itself : (X : List ℕ) → same X X ≡ true
unfolding same
same_itself [] = refl
same_itself (x ∷ X) = ap₂ ◌&&◌ (eq-eqb x x refl) (same_itself X)

pub and_true : (a b : Bool) → (a && b) ≡ true → (a ≡ true) × (b ≡ true)
and_true true true e = (refl, refl)
and_true true false e = (refl, e)
and_true false b e = (e, absurd (differ e))
  where
    differ : false ≡ true → ⊥
    differ e = let z : ◌≡◌ {A = ℕ} 0 1 = cc in omega arith

pub same_equal : (X Y : List ℕ) → same X Y ≡ true → X ≡ Y
unfolding same
same_equal [] [] e = refl
same_equal [] (y ∷ Y) e = cc
same_equal (x ∷ X) [] e = cc
same_equal (x ∷ X) (y ∷ Y) e =
    let both = and_true (eqb x y) (same X Y) e in
    ap₂ (λ (a : ℕ) (l : List ℕ). a ∷ l) (eqb-true x y both.0) (same_equal X Y both.1)

-- ---- sealing and opening

module _
    (E : BlockFunction) (E_block : GivesBlocks E)
    (NA : List Bytes) (t : ℕ) (Δ-block : Block (delta E NA t)) (prf-long : Digits 8 t (AEZ_prf E (tweak t NA) t)) where
  abbrev Δ : Bytes
  Δ = delta E NA t

  abbrev prf : Bytes
  prf = AEZ_prf E (tweak t NA) t

  -- the empty text, and any other
  pub encrypt_none : (M : Bytes) → length M ≡ 0 → encrypt E NA t M ≡ prf
  unfolding encrypt
  encrypt_none M e = ap (λ (b : Bool). if b then prf else encipher E Δ (M ++ replicate t 0)) (eq-eqb (length M) 0 e)

  pub encrypt_some : (M : Bytes) → 1 ≤ length M → encrypt E NA t M ≡ encipher E Δ (M ++ replicate t 0)
  unfolding encrypt
  encrypt_some M h = ap (λ (b : Bool). if b then prf else encipher E Δ (M ++ replicate t 0)) (ne_eqb (length M) 0 (λ e. omega arith))

  -- a string of the stretch's length, and a longer one
  abbrev opened : Bool → Bool → Bytes → Option Bytes
  opened a b C = if a then none else if b then (if same C prf then some [] else none) else unpadded E NA t (decipher E Δ C)

  decrypt_at : (C : Bytes) → decrypt E NA t C ≡ opened (ltb (length C) t) (eqb (length C) t) C
  unfolding decrypt
  decrypt_at C = refl

  decrypt_none : (C : Bytes) → length C ≡ t → decrypt E NA t C ≡ (if same C prf then some [] else none)
  decrypt_none C e = decrypt_at C ∙ ap₂ (λ (a b : Bool). opened a b C) (le-ltb (length C) t (omega arith)) (eq-eqb (length C) t e)

  decrypt_some : (C : Bytes) → t < length C → decrypt E NA t C ≡ unpadded E NA t (decipher E Δ C)
  decrypt_some C h = decrypt_at C ∙ ap₂ (λ (a b : Bool). opened a b C) (le-ltb (length C) t (omega arith)) (ne_eqb (length C) t (λ e. omega arith))

  -- a text with the stretch's zeros, and back
  padded : (M : Bytes) → 1 ≤ length M → Below 256 M → Some (M ++ replicate t 0)
  padded M h p =
      let long : length (M ++ replicate t 0) ≡ length M + t = length-append M (replicate t 0) ∙ ap (λ (n : ℕ). length M + n) (length-replicate t 0) in
      record {
        least = omega (arith, long);
        bytes = as_digits (sym long) (append_digits {X = M} (record { len = refl; low = p }) (zero_digits 8 t));
      }

  unpadded_padded : (M : Bytes) → unpadded E NA t (M ++ replicate t 0) ≡ some M
  unfolding unpadded
  unpadded_padded M =
      let X : Bytes = M ++ replicate t 0 in
      let n : length X - t ≡ length M = omega (arith, length-append M (replicate t 0), length-replicate {A = ℕ} t 0) in
      ap (λ (k : ℕ). if same (drop k X) (replicate t 0) then some (take k X) else none) n
      ∙ ap₂ (λ (z u : Bytes). if same z (replicate t 0) then some u else none) (drop-append_seam M (replicate t 0)) (take-append_seam M (replicate t 0))
      ∙ ap (λ (b : Bool). if b then some M else none) (same_itself (replicate t 0))

  -- a text's sealed string is as much longer as the stretch
  pub encrypt_bytes : (M : Bytes) → Below 256 M → Digits 8 (length M + t) (encrypt E NA t M)
  encrypt_bytes [] p = rw (encrypt_none [] refl) (as_digits (omega arith) prf-long)
  encrypt_bytes (x ∷ M) p =
      let X : Bytes = x ∷ M ++ replicate t 0 in
      let long : length X ≡ length (x ∷ M) + t = length-append (x ∷ M) (replicate t 0) ∙ ap (λ (n : ℕ). length (x ∷ M) + n) (length-replicate t 0) in
      rw (encrypt_some (x ∷ M) (omega arith)) (as_digits long (encipher_bytes E E_block Δ Δ-block X (padded (x ∷ M) (omega arith) p)))

  -- what is encrypted decrypts
  pub decrypt_encrypt : (M : Bytes) → Below 256 M → decrypt E NA t (encrypt E NA t M) ≡ some M
  decrypt_encrypt [] p =
      ap (decrypt E NA t) (encrypt_none [] refl)
      ∙ decrypt_none prf prf-long.len
      ∙ ap (λ (b : Bool). if b then some [] else none) (same_itself prf)
  decrypt_encrypt (x ∷ M) p =
      let X : Bytes = x ∷ M ++ replicate t 0 in
      decrypt_some (encrypt E NA t (x ∷ M)) (omega (arith, (encrypt_bytes (x ∷ M) p).len))
      ∙ ap (λ (c : Bytes). unpadded E NA t (decipher E Δ c)) (encrypt_some (x ∷ M) (omega arith))
      ∙ ap (unpadded E NA t) (decipher_encipher E E_block Δ Δ-block X (padded (x ∷ M) (omega arith) p))
      ∙ unpadded_padded (x ∷ M)

  -- what decrypts is a text, and encrypts to the string
  abbrev Was : Bytes → Bytes → Type 0
  Was C M = Below 256 M × (encrypt E NA t M ≡ C)

  unpadded_was : (C M : Bytes) → t < length C → Below 256 C → unpadded E NA t (decipher E Δ C) ≡ some M → Was C M
  unfolding unpadded
  unpadded_was C M h p e = go (same (drop n X) (replicate t 0)) refl e
    where
      X : Bytes
      X = decipher E Δ C

      n : ℕ
      n = length X - t

      some_bytes : Some C
      some_bytes = record { least = omega arith; bytes = record { len = refl; low = p } }

      long : Digits 8 (length C) X
      long = decipher_bytes E E_block Δ Δ-block C some_bytes

      go : (b : Bool) → same (drop n X) (replicate t 0) ≡ b → (if b then some (take n X) else none) ≡ some M → Was C M
      go true z q =
          let text : take n X ≡ M = cc in
          let count : length M ≡ n = ap length (sym text) ∙ (take_digits n (omega (arith, long.len)) long).len in
          let whole : M ++ replicate t 0 ≡ X = ap₂ ◌++◌ (sym text) (sym (same_equal (drop n X) (replicate t 0) z)) ∙ take-append-drop n X in (
            subst (Below 256) text (take_digits n (omega (arith, long.len)) long).low,
            encrypt_some M (omega (arith, count, long.len)) ∙ ap (encipher E Δ) whole ∙ encipher_decipher E E_block Δ Δ-block C some_bytes,
          )
      go false z q = let x : ◌≡◌ {A = ℕ} 0 1 = cc in absurd (omega arith)

  pub encrypt_decrypt : (C M : Bytes) → Below 256 C → decrypt E NA t C ≡ some M → Was C M
  encrypt_decrypt C M p e = go (ltb (length C) t) refl (eqb (length C) t) refl (sym (decrypt_at C) ∙ e)
    where
      prf_case : length C ≡ t → (b : Bool) → same C prf ≡ b → (if b then some [] else none) ≡ some M → Was C M
      prf_case l true z q =
          let none_left : [] ≡ M = cc in
          (subst (Below 256) none_left tt, ap (encrypt E NA t) (sym none_left) ∙ encrypt_none [] refl ∙ sym (same_equal C prf z))
      prf_case l false z q = let x : ◌≡◌ {A = ℕ} 0 1 = cc in absurd (omega arith)

      go : (a : Bool) → ltb (length C) t ≡ a → (b : Bool) → eqb (length C) t ≡ b → opened a b C ≡ some M → Was C M
      go true f b g q = let x : ◌≡◌ {A = ℕ} 0 1 = cc in absurd (omega arith)
      go false f true g q = prf_case (eqb-true (length C) t g) (same C prf) refl q
      go false f false g q =
          let ne : length C ≡ t → ⊥ = eqb-false (length C) t g in
          let le : t ≤ length C = ltb-false (length C) t f in
          unpadded_was C M (lt_of_le-ne le (λ e. ne (sym e))) p q

  -- at stretch 0 every string decrypts
  pub opens_at_0 : t ≡ 0 → (C : Bytes) → Below 256 C → (M : Bytes) × (decrypt E NA t C ≡ some M)
  unfolding unpadded
  opens_at_0 z [] p =
      let long : length prf ≡ 0 = prf-long.len ∙ z in
      ([], decrypt_none [] (sym z) ∙ ap (λ (l : Bytes). if same [] l then some [] else none) (no_entries prf long) ∙ ap (λ (b : Bool). if b then some [] else none) (same_itself []))
  opens_at_0 z (c ∷ C) p =
      let X : Bytes = decipher E Δ (c ∷ C) in
      let nothing : length (drop (length X - t) X) ≡ 0 = length-drop (length X - t) X ∙ omega arith in (
        take (length X - t) X,
        decrypt_some (c ∷ C) (omega arith)
            ∙ (λ i. if same (no_entries (drop (length X - t) X) nothing i) (replicate (z i) 0) then some (take (length X - t) X) else none)
            ∙ ap (λ (b : Bool). if b then some (take (length X - t) X) else none) (same_itself []),
      )
