-- WHICH HEADER STRING IS BAD (request E5), for the calls. Beside answer 3 sealing and opening hand on the number of the header's bad entry,
-- and 0 beside every other answer. What the number says of the header's bytes is in `laws/proofs/BadEntries.antt`: j from 1 to 16 is told
-- exactly where the strings before the j-th read and the j-th does not.
use mathlib.Core.Option.{Option, none, some}
use mathlib.Core.Path.{◌≡◌, refl, ap, sym, ◌∙◌}
use Prim.Native.Nat.{ℕ, ◌≤◌}
use native.Mathlib.Omega.{arith}
use borrow.Author.Tests.{eq-eqb, le-ltb}
use lib.ListN.{length}
use Rattle.paper.specs.Strings.{Bytes}
use Rattle.paper.specs.Figure6.{key_of, E}
use Rattle.paper.specs.Figure5.{decrypt}
use Rattle.paper.specs.Document01.{beside, refused, Read, as_strings, bad_entry, reading, told, seal_under, sealing, opened, open_under, opening}
use Rattle.laws.proofs.BadEntries.{number_most}
use Rattle.settle.proofs.Settles.{sealing_in, opening_in}
use Rattle.aez.proofs.aez_seal_at.Reads as aez-seal-at
use Rattle.aez.proofs.aez_open_at.Reads as aez-open-at
use Rattle.aez.proofs.aez_header_read.Reads as aez-header-read

-- a number and a place that a call with this header may return: beside 3 the place is the header's bad entry, at most 17, and beside every
-- other number it is 0
pub record Tells (header : Bytes) (number place : ℕ) : Type 0 where
  pub beside_3 : number ≡ 3 → (reading header ≡ bad_entry place) × (place ≤ 17)
  pub beside_others : (number ≡ 3 → ⊥) → place ≡ 0

-- each number but 3, with 0
others : (header : Bytes) (n : ℕ) → (n ≡ 3 → ⊥) → Tells header n 0
others header n f = record { beside_3 = λ e. absurd (f e); beside_others = λ g. refl }

with_3 : (header : Bytes) (k : ℕ) → reading header ≡ bad_entry k → Tells header 3 k
with_3 header k e = record { beside_3 = λ three. (e, number_most header k e); beside_others = λ g. absurd (g refl) }

-- ---- What each call returns

module _ (key header : Bytes) (t : ℕ) where
  sealing_tells : (text out : Bytes) → Tells header (sealing key header t text out).number (sealing key header t text out).place
  sealing_tells text out =
      sealing_in key header t text out (λ o. Tells header o.number o.place) (others header 1 (λ e. omega (arith, e))) (others header 2 (λ e. omega (arith, e)))
      (with_3 header) (others header 4 (λ e. omega (arith, e))) (others header 6 (λ e. omega (arith, e))) (λ ss. others header 0 (λ e. omega (arith, e)))

  opened_tells : (o : Option Bytes) (n : ℕ) (out : Bytes) → Tells header (opened o t n out).number 0
  unfolding opened
  opened_tells none n out = others header 7 (λ e. omega (arith, e))
  opened_tells (some M) n out = others header 0 (λ e. omega (arith, e))

  opening_tells : (sealed out : Bytes) → Tells header (opening key header t sealed out).number (opening key header t sealed out).place
  opening_tells sealed out =
      opening_in key header t sealed out (λ o. Tells header o.number o.place) (others header 1 (λ e. omega (arith, e))) (others header 2 (λ e. omega (arith, e)))
      (with_3 header) (others header 4 (λ e. omega (arith, e))) (others header 5 (λ e. omega (arith, e))) (others header 6 (λ e. omega (arith, e)))
      (λ ss. opened_tells (decrypt (E (key_of key)) ss t sealed) (length sealed) out)

  -- with a key of 48 bytes and a stretch of at most 64, a header whose k-th entry is bad is refused with 3 and k, whatever else is lent
  module _ (key_long : length key ≡ 48) (short : t ≤ 64) (k : ℕ) (bad : reading header ≡ bad_entry k) where
    pub sealing_hands_on : (text out : Bytes) → sealing key header t text out ≡ beside k (refused 3 out)
    unfolding sealing seal_under
    sealing_hands_on text out = simp (eq-eqb _ _ key_long, le-ltb _ _ short, bad)

    pub opening_hands_on : (sealed out : Bytes) → opening key header t sealed out ≡ beside k (refused 3 out)
    unfolding opening open_under
    opening_hands_on sealed out = simp (eq-eqb _ _ key_long, le-ltb _ _ short, bad)

-- ---- The exported functions, by their contracts

-- what has that of two equals
as_told : {header : Bytes} {m n j k : ℕ} → n ≡ m → k ≡ j → Tells header m j → Tells header n k
as_told {header = header} {m = m} {j = j} p q t =
    record {
      beside_3 = λ e. let s = t.beside_3 (sym p ∙ e) in (s.0 ∙ ap bad_entry (sym q), omega (arith, s.1, q));
      beside_others = λ f. q ∙ t.beside_others (λ e. f (p ∙ e));
    }

pub seal_at_place : (κs : _) (a : _) (n : _) (e : _) → aez-seal-at.Learnt κs a n e → Tells a.1.0.now n e.1.1.1.1.1.0.now
seal_at_place κs a n e p = as_told p.0 p.2 (sealing_tells a.0.now a.1.0.now a.1.1.0 a.1.1.1.0.now a.1.1.1.1.0.now)

pub open_at_place : (κs : _) (a : _) (n : _) (e : _) → aez-open-at.Learnt κs a n e → Tells a.1.0.now n e.1.1.1.1.1.0.now
open_at_place κs a n e p = as_told p.0 p.2 (opening_tells a.0.now a.1.0.now a.1.1.0 a.1.1.1.0.now a.1.1.1.1.0.now)

-- reading a header by itself
reading_tells : (header : Bytes) (r : Read) → reading header ≡ r → Tells header (told r).number (told r).place
reading_tells header (bad_entry k) e = with_3 header k e
reading_tells header (as_strings ss) e = others header 0 (λ z. omega (arith, z))

pub header_read_place : (κs : _) (a : _) (n : _) (e : _) → aez-header-read.Learnt κs a n e → Tells a.0.now n e.1.1.0.now
header_read_place κs a n e p = as_told p.0 p.2 (reading_tells a.0.now (reading a.0.now) refl)
