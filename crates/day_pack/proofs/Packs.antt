-- A buffer that is written anew from its front, while from a place on it is as it was.
use mathlib.Core.List.{◌++◌}
use mathlib.Core.Path.{◌≡◌, refl, ap, sym, subst, ◌∙◌}
use Prim.Native.Nat.{ℕ, ◌+◌, ◌-◌, ◌≤◌}
use native.Mathlib.Omega.{arith}
use lib.ListN.{length, get_or, take, drop, length-append}
use lib.Seq.{length-take-le, take_at, take-take, take-add, drop_at, drop-drop, get_or-drop}
use Rattle.paper.specs.Strings.{Bytes}
use Rattle.paper.specs.DayFile.{value}
use Rattle.laws.specs.Placing.{placed}
use Rattle.day_steps.specs.Walks.{entry_at}
use Rattle.day_place.proofs.Moved.{placed_long, placed_past}
use Rattle.day_pack.specs.Kept.{Packed}

-- ---- One part more

-- what is put ends a longer front
front_put : (at : ℕ) (w out : Bytes) (n : ℕ) → at + length w ≡ n → n ≤ length out → take n (placed at w out) ≡ take at out ++ w
front_put at w out n e p =
    take_at (take at out ++ w) (drop (at + length w) out) n (omega (arith, length-append (take at out) w, length-take-le at out (omega arith)))

pub packed_start : (out : Bytes) (at from : ℕ) → at ≤ from → from ≤ length out → Packed out (take at out) from out
packed_start out at from p q =
    let long : length (take at out) ≡ at = length-take-le at out (omega arith) in
    record { front = ap (λ (n : ℕ). take n out) long; rest = refl; long = refl; behind = omega (arith, long); inside = q }

pub packed_more : {out₀ w out : Bytes} {from : ℕ} → Packed out₀ w from out → (to : ℕ) → to ≡ length w → (part : Bytes) (next : ℕ) → from ≤ next → to + length part ≤ next
    → next ≤ length out₀ → (last : Bytes) → last ≡ placed to part out → Packed out₀ (w ++ part) next last
packed_more {out₀} {w} {out} {from} p to e part next q r s last f =
    let long : length last ≡ length out = ap length f ∙ placed_long to part out (omega (arith, p.long)) in
    let gap : from + (next - from) ≡ next = omega arith in
    record {
      front =
          ap (take (length (w ++ part))) f
          ∙ front_put to part out (length (w ++ part)) (omega (arith, e, length-append w part)) (omega (arith, length-append w part, p.long, e))
          ∙ ap (λ (X : Bytes). X ++ part) (ap (λ (n : ℕ). take n out) e ∙ p.front);
      rest =
          ap (drop next) f
          ∙ placed_past to part out next r (omega (arith, p.long))
          ∙ ap (λ (n : ℕ). drop n out) (sym gap)
          ∙ sym (drop-drop (next - from) from out)
          ∙ ap (drop (next - from)) p.rest
          ∙ drop-drop (next - from) from out₀
          ∙ ap (λ (n : ℕ). drop n out₀) gap;
      long = long ∙ p.long;
      behind = omega (arith, length-append w part, e);
      inside = s;
    }

-- the same front, as another list
pub packed_as : {out₀ w v out : Bytes} {from to : ℕ} → w ≡ v → from ≡ to → Packed out₀ w from out → Packed out₀ v to out
packed_as {out₀} {out = out} e f p = subst (λ (x : Bytes × ℕ). Packed out₀ x.0 x.1 out) (λ i. (e i, f i)) p

-- one after the other
pub packed_then : {out₀ w out₁ out₂ : Bytes} {from : ℕ} → Packed out₀ w from out₁ → (v : Bytes) (next : ℕ) → from ≤ next → Packed out₁ (take (length w) out₁ ++ v) next out₂ → Packed out₀ (w ++ v) next out₂
packed_then {out₀} {w} {out₁} {out₂} {from} p v next q s =
    let same : take (length w) out₁ ++ v ≡ w ++ v = ap (λ (X : Bytes). X ++ v) p.front in
    let gap : from + (next - from) ≡ next = omega arith in
    record {
      front = (λ i. take (length (sym same i)) out₂) ∙ s.front ∙ same;
      rest =
          s.rest
          ∙ ap (λ (n : ℕ). drop n out₁) (sym gap)
          ∙ sym (drop-drop (next - from) from out₁)
          ∙ ap (drop (next - from)) p.rest
          ∙ drop-drop (next - from) from out₀
          ∙ ap (λ (n : ℕ). drop n out₀) gap;
      long = s.long ∙ p.long;
      behind = omega (arith, ap length same, s.behind);
      inside = omega (arith, s.inside, p.long);
    }

-- ---- What is read of the part that is as it was

same_part : (f g : Bytes) (at n m : ℕ) → drop at f ≡ drop at g → take m (drop (at + n) f) ≡ take m (drop (at + n) g)
same_part f g at n m e = ap (take m) (sym (drop-drop n at f) ∙ ap (drop n) e ∙ drop-drop n at g)

pub same_entry : (f g : Bytes) (at : ℕ) → drop at f ≡ drop at g → entry_at f at ≡ entry_at g at
same_entry f g at e =
    let size : value (take 4 (drop (at + 3) f)) ≡ value (take 4 (drop (at + 3) g)) = ap value (same_part f g at 3 4 e) in
    let byte : get_or f (at + 2) 0 ≡ get_or g (at + 2) 0 = sym (get_or-drop at f 2 0) ∙ ap (λ (X : Bytes). get_or X 2 0) e ∙ get_or-drop at g 2 0 in
    λ i. record { header = value (take 2 (e i)); stretch = byte i; start = at + 7; end = at + 7 + size i }

-- a front of it
drop_take : (at last : ℕ) (X : Bytes) → at ≤ last → last ≤ length X → drop at (take last X) ≡ take (last - at) (drop at X)
drop_take at last X p q =
    let split : last ≡ at + (last - at) = omega arith in
    ap (λ (n : ℕ). drop at (take n X)) split
    ∙ ap (drop at) (take-add at (last - at) X)
    ∙ drop_at (take at X) (take (last - at) (drop at X)) at (length-take-le at X (omega arith))

pub same_front : (f g : Bytes) (at last : ℕ) → at ≤ last → last ≤ length f → length f ≡ length g → drop at f ≡ drop at g → drop at (take last f) ≡ drop at (take last g)
same_front f g at last p q r e = drop_take at last f p q ∙ ap (take (last - at)) e ∙ sym (drop_take at last g p (omega (arith, r)))

pub part_front : (f : Bytes) (at m last : ℕ) → at + m ≤ last → last ≤ length f → take m (drop at (take last f)) ≡ take m (drop at f)
part_front f at m last p q = ap (take m) (drop_take at last f (omega arith) q) ∙ take-take m (last - at) (drop at f) (omega arith)
