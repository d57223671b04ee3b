-- Blocks put one after the other into a buffer until it is full.
use mathlib.Core.List.{◌++◌, append-nil}
use mathlib.Core.Path.{◌≡◌, refl, ap, ap₂, sym, subst, ◌∙◌}
use Prim.Native.Nat.{ℕ, ◌+◌, ◌-◌, ◌*◌, ◌/◌, ◌≤◌, ◌<◌, min}
use native.Mathlib.Decide.{dec_le}
use native.Mathlib.Omega.{arith}
use lib.ListN.{length, take, drop, length-append, length-drop, drop_of_length-le}
use lib.Seq.{length-take-le, take_all, take-nil, take_at, take-append-add}
use Rattle.paper.specs.Strings.{Bytes, ◌⊕◌, number, join}
use Rattle.paper.specs.Figure6.{minus1, E}
use Rattle.laws.proofs.Fronts.{lent_end}
use Rattle.laws.proofs.Joins.{join_more}
use Rattle.tbc.specs.declared.Base.{Base}
use Rattle.tbc.specs.Meaning.{base}
use Rattle.hash.specs.Fitted.{fitted}

-- what was put at the front, cut to 16 bytes, is what fits
fitted_front : (D y : Bytes) → length y ≡ 16 → take 16 (fitted D y) ≡ take (length D) y
unfolding fitted
fitted_front D y e = go (dec_le 16 (length D))
  where
    go : Dec (16 ≤ length D) → take 16 (take (min (length D) 16) y ++ drop (min (length D) 16) D) ≡ take (length D) y
    go (yes h) =
        let n : min (length D) 16 ≡ 16 = omega arith in
        ap (λ (k : ℕ). take 16 (take k y ++ drop k D)) n
        ∙ take_at (take 16 y) (drop 16 D) 16 (length-take-le 16 y (omega arith))
        ∙ take_all 16 y (omega arith)
        ∙ sym (take_all (length D) y (omega arith))
    go (no h) =
        let n : min (length D) 16 ≡ length D = omega (arith, h) in
        ap (λ (k : ℕ). take 16 (take k y ++ drop k D)) n
        ∙ ap (λ (l : Bytes). take 16 (take (length D) y ++ l)) (drop_of_length-le D {i = length D} (omega arith))
        ∙ ap (take 16) (append-nil (take (length D) y))
        ∙ take_all 16 (take (length D) y) (omega (arith, length-take-le (length D) y (omega (arith, h)), h))

-- one block more: out holds the first blocks J, and then y as far as it fits
block_more : (out J y : Bytes) (at : ℕ) → length J ≡ at → length y ≡ 16 → at < length out → take at out ≡ take (length out) J
    → take (at + 16) (take at out ++ fitted (drop at out) y) ≡ take (length out) (J ++ y)
block_more out J y at l e h f =
    let front : take at out ≡ J = f ∙ take_all (length out) J (omega arith) in
    let rest : length (drop at out) ≡ length out - at = length-drop at out in
    let n : length J + (length out - at) ≡ length out = omega arith in
    ap₂ (λ (u : Bytes) (k : ℕ). take (k + 16) (u ++ fitted (drop at out) y)) front (sym l)
    ∙ take-append-add J (fitted (drop at out) y) 16
    ∙ ap (λ (u : Bytes). J ++ u) (fitted_front (drop at out) y e ∙ ap (λ (k : ℕ). take k y) rest)
    ∙ sym (take-append-add J y (length out - at))
    ∙ ap (λ (k : ℕ). take k (J ++ y)) n

-- the length stays
fitted_length : (D y : Bytes) → length y ≡ 16 → length (fitted D y) ≡ length D
unfolding fitted
fitted_length D y e =
    length-append (take (min (length D) 16) y) (drop (min (length D) 16) D)
    ∙ omega (arith, length-take-le (min (length D) 16) y (omega arith), length-drop (min (length D) 16) D)

-- a buffer whose end was lent and came back with y at its front
lent : (out y : Bytes) (at : ℕ) (ys : Bytes) → at ≤ length out → ys ≡ fitted (take (length out - at) (drop at out)) y
    → take at out ++ (ys ++ drop (length out - at) (drop at out)) ≡ take at out ++ fitted (drop at out) y
lent out y at ys h e =
    let all : take (length out - at) (drop at out) ≡ drop at out = take_all (length out - at) (drop at out) (omega (arith, length-drop at out)) in
    lent_end out ys at h ∙ ap (λ (u : Bytes). take at out ++ u) (e ∙ ap (λ (u : Bytes). fitted u y) all)

lent_length : (out y : Bytes) (at : ℕ) → length y ≡ 16 → at ≤ length out → length (take at out ++ fitted (drop at out) y) ≡ length out
lent_length out y at e h =
    length-append (take at out) (fitted (drop at out) y)
    ∙ omega (arith, length-take-le at out h, fitted_length (drop at out) y e, length-drop at out)

-- ---- A buffer of t bytes that is filled with F 1, F 2, .. from the front

-- i blocks, which are at bytes, stand in it as far as they fit
pub record Filled (F : ℕ → Bytes) (t : ℕ) (out : Bytes) (at i : ℕ) : Type 0 where
  pub place : at ≡ 16 * i
  pub near : at ≤ t + 15
  pub long : length out ≡ t
  pub whole : length (join i F) ≡ at
  pub front : take at out ≡ take (length out) (join i F)

pub filled_none : (F : ℕ → Bytes) (out : Bytes) → Filled F (length out) out 0 0
unfolding join
filled_none F out = record { place = omega arith; near = omega arith; long = refl; whole = refl; front = sym (take-nil (length out)) }

-- one block more, put at the front of the end, which was lent
pub filled_more : {F : ℕ → Bytes} {t : ℕ} {out : Bytes} {at i : ℕ} → Filled F t out at i → (y ys : Bytes) → at < length out → length y ≡ 16 → y ≡ F (i + 1)
    → ys ≡ fitted (take (length out - at) (drop at out)) y → Filled F t (take at out ++ (ys ++ drop (length out - at) (drop at out))) (at + 16) (i + 1)
filled_more {F} {t} {out} {at} {i} f y ys h e is p =
    let put = lent out y at ys (omega arith) p in
    let same : length (take at out ++ (ys ++ drop (length out - at) (drop at out))) ≡ length out = ap length put ∙ lent_length out y at e (omega arith) in
    let more : join (i + 1) F ≡ join i F ++ y = join_more i F ∙ ap (λ (u : Bytes). join i F ++ u) (sym is) in
    record {
      place = omega (arith, f.place);
      near = omega (arith, f.long);
      long = same ∙ f.long;
      whole = ap length more ∙ length-append (join i F) y ∙ omega (arith, f.whole);
      front = ap (take (at + 16)) put ∙ block_more out (join i F) y at f.whole e h f.front ∙ ap₂ take (sym same) (sym more);
    }

-- the same, where the place behind the block has another name
pub filled_next : {F : ℕ → Bytes} {t : ℕ} {out : Bytes} {at i : ℕ} → Filled F t out at i → (y ys : Bytes) (next : ℕ) → at + 16 ≡ next → at < length out → length y ≡ 16 → y ≡ F (i + 1)
    → ys ≡ fitted (take (length out - at) (drop at out)) y → Filled F t (take at out ++ (ys ++ drop (length out - at) (drop at out))) next (i + 1)
filled_next {F} {t} {out} {at} {i} f y ys next n h e is p =
    subst (λ (k : ℕ). Filled F t (take at out ++ (ys ++ drop (length out - at) (drop at out))) k (i + 1)) n (filled_more f y ys h e is p)

-- a full buffer
pub filled_all : {F : ℕ → Bytes} {t : ℕ} {out : Bytes} {at i : ℕ} → Filled F t out at i → t ≤ at → out ≡ take t (join ((t + 15) / 16) F)
filled_all {F} {t} {out} {at} {i} f h =
    let count : i ≡ (t + 15) / 16 = omega (arith, f.place, f.near) in
    sym (take_all at out (omega (arith, f.long))) ∙ f.front ∙ (λ k. take (f.long k) (join (count k) F))

-- line 312: block i, counted from 1
abbrev pub block_of_line : Base → Bytes → ℕ → Bytes
block_of_line b delta i = E (base b) minus1 3 (delta ⊕ number (i - 1))
