-- Strings put into an output at a place, one after the other.
use mathlib.Core.List.{[], ◌∷◌, ◌++◌, append_assoc}
use mathlib.Core.Path.{◌≡◌, ap, sym, ◌∙◌}
use Prim.Native.Nat.{ℕ, ◌+◌, ◌≤◌}
use native.Mathlib.Numerals.{add-one}
use native.Mathlib.Omega.{arith}
use lib.ListN.{length, take, drop, set, length-append}
use lib.Seq.{length-take-le, take_at, drop_at, drop-drop, sets-eq}
use Rattle.paper.specs.Strings.{Bytes}
use Rattle.laws.specs.Placing.{placed}

-- w right after v is v ++ w
pub placed_then : (at : ℕ) (v w out : Bytes) → at + length v + length w ≤ length out → placed (at + length v) w (placed at v out) ≡ placed at (v ++ w) out
placed_then at v w out p =
    let front : Bytes = take at out ++ v in
    let rest : Bytes = drop (at + length v) out in
    let long : length front ≡ at + length v = omega (arith, length-append (take at out) v, length-take-le at out (omega arith)) in
    let past = sym (drop-drop (length w) (at + length v) (front ++ rest)) ∙ ap (drop (length w)) (drop_at front rest (at + length v) long) ∙ drop-drop (length w) (at + length v) out in
    let both : at + length v + length w ≡ at + length (v ++ w) = omega (arith, length-append v w) in
    (λ i. take_at front rest (at + length v) long i ++ w ++ past i)
    ∙ (λ i. append_assoc (take at out) v w i ++ drop (both i) out)

-- a byte, and two bytes, that are stored
stored_first : (x : ℕ) (out : Bytes) → 1 ≤ length out → set out 0 x ≡ placed 0 (x ∷ []) out
stored_first x out p = sets-eq (x ∷ []) out 0 (omega arith)

pub stored_two : (at x y : ℕ) (out : Bytes) → at + 2 ≤ length out → set (set out at x) (at + 1) y ≡ placed at (x ∷ y ∷ []) out
stored_two at x y out p = ap (λ (k : ℕ). set (set out at x) k y) (add-one at) ∙ sets-eq (x ∷ y ∷ []) out at (omega arith)

-- ---- One string after the other from the first place on

-- mid is out with v first, and next the place after v
pub record Begun (v out mid : Bytes) (next : ℕ) : Type 0 where
  pub there : mid ≡ placed 0 v out
  pub past : next ≡ length v

-- a first byte
pub begun : (x : ℕ) (out : Bytes) → 1 ≤ length out → Begun (x ∷ []) out (set out 0 x) 1
begun x out p = record { there = stored_first x out p; past = omega arith }

-- and what is put after what there is
pub begun_more : {v out mid : Bytes} {next : ℕ} (w last : Bytes) (after : ℕ) → Begun v out mid next → last ≡ placed next w mid → after ≡ next + length w → after ≤ length out → Begun (v ++ w) out last after
begun_more {v = v} {out = out} w last after b p q r =
    let here : length v ≡ 0 + length v = omega arith in
    record {
      there =
          p
          ∙ (λ i. placed (b.past i) w (b.there i))
          ∙ ap (λ (k : ℕ). placed k w (placed 0 v out)) here
          ∙ placed_then 0 v w out (omega (arith, b.past));
      past = omega (arith, b.past, length-append v w);
    }
