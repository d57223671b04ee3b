-- Feistel rounds over any round function F, on strings of two halves, each of n digits of b bits: the rounds in the other order undo them,
-- and rounds on digits of t bits are rounds on their bits.
use mathlib.Core.List.{List, reverse}
use mathlib.Core.Path.{◌≡◌, ap, ap₂, sym, ◌∙◌}
use Prim.Native.Nat.{ℕ, ◌+◌, ◌*◌, ◌≤◌}
use native.Mathlib.Omega.{arith}
use lib.ListN.{length, take-append-drop}
use lib.Seq.{take_at, drop_at}
use Rattle.paper.specs.Strings.{Digits, ◌⊕◌}
use Rattle.paper.specs.Figure5.{Halves, halves, joined}
use Rattle.laws.proofs.Counts.{through, keep, undo, commute}
use Rattle.laws.proofs.Strings.{⊕_cancel}
use Rattle.laws.proofs.Digits.{⊕_digits, append_digits, take_digits, drop_digits, as_digits}
use Rattle.laws.proofs.BitStrings.{in_bits, in_bits_append, in_bits_take, in_bits_drop}
use Rattle.laws.proofs.Bitwise.{in_bits_⊕}

-- what a round adds to the left half: of its number and the right half
abbrev pub RoundFunction : Type 0
RoundFunction = ℕ → List ℕ → List ℕ

-- a round
abbrev pub feistel : RoundFunction → ℕ → Halves → Halves
feistel F i s = record { L = s.R; R = s.L ⊕ F i s.R }

-- a string through the rounds of a list
abbrev pub pass : RoundFunction → ℕ → List ℕ → List ℕ → List ℕ
pass F n l X = joined (through (feistel F) l (halves n X))

abbrev exchanged : Halves → Halves
exchanged s = record { L = s.R; R = s.L }

-- both halves have n digits
record Good (b n : ℕ) (s : Halves) : Type 0 where
  L : Digits b n s.L
  R : Digits b n s.R

good_halves : {b : ℕ} (n : ℕ) {X : List ℕ} → Digits b (n + n) X → Good b n (halves n X)
good_halves n p = record { L = take_digits n (omega arith) p; R = as_digits (omega arith) (drop_digits n p) }

halves_joined : {b : ℕ} (n : ℕ) {s : Halves} → Good b n s → halves n (joined s) ≡ exchanged s
halves_joined n {s} g =
    ap₂ (λ (X Y : List ℕ). record { L = X; R = Y }) (take_at s.R s.L n g.R.len) (drop_at s.R s.L n g.R.len)

module _ (b n : ℕ) (F : RoundFunction) (F-digits : (i : ℕ) (X : List ℕ) → Digits b n X → Digits b n (F i X)) where
  good_feistel : (i : ℕ) (s : Halves) → Good b n s → Good b n (feistel F i s)
  good_feistel i s g = record { L = g.R; R = ⊕_digits g.L (F-digits i s.R g.R) (omega arith) }

  -- a round, the halves exchanged, is undone by the same round
  feistel_feistel : (i : ℕ) (s : Halves) → Good b n s → feistel F i (exchanged (feistel F i s)) ≡ exchanged s
  feistel_feistel i s g =
      let a : Digits b n (F i s.R) = F-digits i s.R g.R in
      ap (λ (X : List ℕ). record { L = s.R; R = X }) (⊕_cancel s.L (F i s.R) (omega (arith, a.len, g.L.len)))

  module _ (l : List ℕ) {X : List ℕ} (p : Digits b (n + n) X) where
    good : Good b n (through (feistel F) l (halves n X))
    good = keep (feistel F) (Good b n) good_feistel l (halves n X) (good_halves n p)

    pub pass_digits : Digits b (n + n) (pass F n l X)
    pass_digits = append_digits good.R good.L

    pub pass_pass : pass F n (reverse l) (pass F n l X) ≡ X
    pass_pass =
        ap (λ (s : Halves). joined (through (feistel F) (reverse l) s)) (halves_joined n good)
        ∙ ap joined (undo (feistel F) (Good b n) good_feistel exchanged feistel_feistel l (halves n X) (good_halves n p))
        ∙ take-append-drop n X

  -- F' is F on bits
  module _ (t : ℕ) (F' : RoundFunction) (same : (i : ℕ) (X : List ℕ) → Digits b n X → F' i (in_bits t X) ≡ in_bits t (F i X)) where
    abbrev both : Halves → Halves
    both s = record { L = in_bits t s.L; R = in_bits t s.R }

    feistel_both : (i : ℕ) (s : Halves) → Good b n s → feistel F' i (both s) ≡ both (feistel F i s)
    feistel_both i s g =
        ap (λ (X : List ℕ). record { L = in_bits t s.R; R = X })
        (ap (λ (X : List ℕ). in_bits t s.L ⊕ X) (same i s.R g.R) ∙ sym (in_bits_⊕ t s.L (F i s.R)))

    pub pass_in_bits : (l : List ℕ) {X : List ℕ} → Digits b (n + n) X → pass F' (t * n) l (in_bits t X) ≡ in_bits t (pass F n l X)
    pass_in_bits l {X} p =
        let long : n ≤ length X = omega (arith, p.len) in
        let s : Halves = through (feistel F) l (halves n X) in
        ap (λ (h : Halves). joined (through (feistel F') l h))
        (ap₂ (λ (Y Z : List ℕ). record { L = Y; R = Z }) (in_bits_take t n X long) (in_bits_drop t n X long))
        ∙ ap joined (commute (feistel F) (Good b n) good_feistel (feistel F') both feistel_both l (halves n X) (good_halves n p))
        ∙ sym (in_bits_append t s.R s.L)
