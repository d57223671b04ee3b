-- The two doors after their tests: what stands first in the output, with its number and its length, is what document 01 says of the call.
use mathlib.Core.Bool.{Bool, true, false}
use mathlib.Core.List.{List, ◌++◌}
use mathlib.Core.Option.{Option, none, some}
use mathlib.Core.Path.{◌≡◌, refl, ap, sym, ◌∙◌}
use Prim.Native.Nat.{ℕ, ◌+◌, ◌-◌, ◌*◌, ◌≤◌}
use native.Mathlib.Omega.{arith}
use borrow.Author.Tests.{le-ltb}
use lib.ListN.{length, take, drop, replicate, length-append, length-replicate}
use lib.Seq.{length-take-le}
use Rattle.std.specs.Prelude.{if◌then◌else◌, Ok}
use Rattle.paper.specs.Strings.{Bytes}
use Rattle.paper.specs.Figure6 as figure6
use Rattle.paper.specs.Figure6.{BlockFunction, key_of, E, AEZ_prf}
use Rattle.paper.specs.Figure5.{delta, encrypt, decrypt, unpadded}
use Rattle.paper.specs.Document01.{OutcomeAt, beside, read_header, sealing, opened, opening}
use Rattle.answer.specs.Outcomes.{outcome_at}
use Rattle.hash.specs.Delta.{delta_of}
use Rattle.settle.specs.Settled.{Settled, settled_sealing, settled_opening}
use Rattle.cipher.specs.Under.{encrypt_under, decrypt_under, opens, leaves}
use Rattle.settle.proofs.Settles.{sealing_fits, sealing_done, opening_fits, opening_opened}

-- ---- Lines 100 to 115 with their own Δ are those with Δ handed on

encrypt_under_lem : (f : BlockFunction) (NA : List Bytes) (t : ℕ) (M : Bytes) → encrypt f NA t M ≡ encrypt_under f (delta f NA t) t M
unfolding encrypt encrypt_under AEZ_prf
encrypt_under_lem f NA t M = refl

decrypt_under_lem : (f : BlockFunction) (NA : List Bytes) (t : ℕ) (C : Bytes) → t ≤ length C → decrypt f NA t C ≡ decrypt_under f (delta f NA t) t C
unfolding decrypt decrypt_under AEZ_prf unpadded
decrypt_under_lem f NA t C h = ap (λ (b : Bool). if b then none else decrypt_under f (delta f NA t) t C) (le-ltb (length C) t h)

-- ---- The output, of which the first bytes are lent

abbrev lent : Bytes → ℕ → Bytes
lent out size = take size out

pub lent_long : (out : Bytes) (size : ℕ) → size ≤ length out → length (lent out size) ≡ size
lent_long out size h = length-take-le size out h

-- they came back as w, which is C
back : (out w C : Bytes) (size : ℕ) → size ≤ length out → length w ≡ length (lent out size) → w ≡ C → w ++ drop size out ≡ C ++ drop (length C) out
back out w C size h kept is =
    let all : size ≡ length C = sym (lent_long out size h) ∙ sym kept ∙ ap length is in
    λ i. is i ++ drop (all i) out

-- what opening returns and leaves, by whether the check held
abbrev pub left : (out w : Bytes) (t : ℕ) (sealed : Bytes) → Bool → OutcomeAt
left out w t sealed b = record { number = if b then 0 else 7; place = 0; size = if b then length sealed - t else 0; output = w ++ drop (length sealed) out }

-- ---- The doors: w is what the cipher left in the bytes that it was lent

module _ (key header out w : Bytes) (t : ℕ) (K : figure6.Key) (key-is : K ≡ key_of key) (bits : ℕ) (bits_are : bits ≡ 8 * t)
    (Δ : Bytes) (hashed : Δ ≡ delta_of (E K) bits (read_header header)) where
  -- Δ of the header's strings
  delta_is : (strings : List Bytes) → read_header header ≡ some strings → Δ ≡ delta (E (key_of key)) strings t
  delta_is strings r = hashed ∙ (λ i. delta_of (E (key-is i)) (bits_are i) (r i))

  pub seals : (text : Bytes) (r : Settled) → r ≡ settled_sealing key header t (length text) (length out) → r.number ≡ 0
      → w ≡ encrypt_under (E K) Δ (length (lent out (length text + t)) - length text) text → length w ≡ length (lent out (length text + t))
      → outcome_at (Ok (length text + t)) (w ++ drop (length text + t) out) ≡ sealing key header t text out
  seals text r e z q kept =
      let fits = sealing_fits key header t (length text) (length out) r e z in
      let strings = fits.common.strings in
      let C : Bytes = encrypt (E (key_of key)) strings t text in
      let stretch : length (lent out (length text + t)) - length text ≡ t = omega (arith, lent_long out (length text + t) fits.has_room) in
      let is : w ≡ C =
      q ∙ (λ i. encrypt_under (E (key-is i)) (delta_is strings fits.common.reads i) (stretch i) text) ∙ sym (encrypt_under_lem (E (key_of key)) strings t text) in
      let whole : w ++ drop (length text + t) out ≡ C ++ drop (length C) out = back out w C (length text + t) fits.has_room kept is in
      (λ i. record { number = 0; place = 0; size = length text + t; output = whole i })
      ∙ sym (sealing_done key header t text out r strings e z fits.common.reads)

  module _ (sealed : Bytes) (s : Settled) (e : s ≡ settled_opening key header t (length sealed) (length out)) (z : s.number ≡ 0) (r : Bool)
      (told : r ≡ opens (decrypt_under (E K) Δ t sealed)) (q : w ≡ leaves (decrypt_under (E K) Δ t sealed) t (length sealed))
      (kept : length w ≡ length (lent out (length sealed))) where
    room : length sealed ≤ length out
    room = (opening_fits key header t (length sealed) (length out) s e z).has_room

    by_definition : opening key header t sealed out ≡ beside 0 (opened (decrypt_under (E K) Δ t sealed) t (length sealed) out)
    by_definition =
        let fits = opening_fits key header t (length sealed) (length out) s e z in
        let strings = fits.common.strings in
        opening_opened key header t sealed out s strings e z fits.common.reads
        ∙ ap (λ (o : Option Bytes). beside 0 (opened o t (length sealed) out))
        (decrypt_under_lem (E (key_of key)) strings t sealed fits.least
        ∙ sym (λ i. decrypt_under (E (key-is i)) (delta_is strings fits.common.reads i) t sealed))

    pub opens_by : (b : Bool) → r ≡ b → left out w t sealed b ≡ opening key header t sealed out
    unfolding opened
    opens_by b found = go b (decrypt_under (E K) Δ t sealed) (sym told ∙ found) q ∙ sym by_definition
      where
        go : (b : Bool) (o : Option Bytes) → opens o ≡ b → w ≡ leaves o t (length sealed)
            → left out w t sealed b ≡ beside 0 (opened o t (length sealed) out)
        go true none p h = cc
        go false (some M) p h = cc
        go false none p h = λ i. record { number = 7; place = 0; size = 0; output = h i ++ drop (length sealed) out }
        go true (some M) p h =
            let long : length w ≡ length sealed = kept ∙ lent_long out (length sealed) room in
            let size : length sealed - t ≡ length M = omega (arith, long, ap length h, length-append M (replicate t 0), length-replicate {A = ℕ} t 0) in
            let whole : w ++ drop (length sealed) out ≡ M ++ replicate t 0 ++ drop (length (M ++ replicate t 0)) out = back out w (M ++ replicate t 0) (length sealed) room kept h in
            λ i. record { number = 0; place = 0; size = size i; output = whole i }
