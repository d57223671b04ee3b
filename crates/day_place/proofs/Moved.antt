-- Bytes put at a place of a buffer, by the parts that it is made of.
use mathlib.Core.List.{[], ◌++◌, append_assoc, append-nil}
use mathlib.Core.Path.{◌≡◌, ap, sym, ◌∙◌}
use Prim.Native.Nat.{ℕ, ◌+◌, ◌-◌, ◌≤◌}
use native.Mathlib.Omega.{arith}
use lib.ListN.{length, take, drop, length-append, length-drop, take-append-drop}
use lib.Seq.{length-take-le, take-take, take_at, take-append-le, take-add, drop_at, drop-drop}
use Rattle.paper.specs.Strings.{Bytes}
use Rattle.laws.specs.Placing.{placed}

-- what stands between two parts is replaced
pub put_between : (P Q S w : Bytes) (at : ℕ) → length P ≡ at → length Q ≡ length w → placed at w (P ++ (Q ++ S)) ≡ P ++ (w ++ S)
put_between P Q S w at p q =
    let past : drop (at + length w) (P ++ (Q ++ S)) ≡ S =
    sym (drop-drop (length w) at (P ++ (Q ++ S))) ∙ ap (drop (length w)) (drop_at P (Q ++ S) at p) ∙ drop_at Q S (length w) q in
    (λ i. take_at P (Q ++ S) at p i ++ w ++ past i) ∙ append_assoc P w S

pub placed_long : (at : ℕ) (w out : Bytes) → at + length w ≤ length out → length (placed at w out) ≡ length out
placed_long at w out p =
    omega
    (arith, length-append (take at out ++ w) (drop (at + length w) out), length-append (take at out) w, length-take-le at out (omega arith), length-drop (at + length w) out)

pub placed_before : (at : ℕ) (w out : Bytes) (n : ℕ) → n ≤ at → at ≤ length out → take n (placed at w out) ≡ take n out
placed_before at w out n p q =
    ap (take n) (append_assoc (take at out) w (drop (at + length w) out))
    ∙ take-append-le n (take at out) (w ++ drop (at + length w) out) (omega (arith, length-take-le at out q))
    ∙ take-take n at out p

pub placed_past : (at : ℕ) (w out : Bytes) (n : ℕ) → at + length w ≤ n → at + length w ≤ length out → drop n (placed at w out) ≡ drop n out
placed_past at w out n p q =
    let k = at + length w in
    let long : length (take at out ++ w) ≡ k = omega (arith, length-append (take at out) w, length-take-le at out (omega arith)) in
    let split : n ≡ k + (n - k) = omega arith in
    ap (λ (m : ℕ). drop m (placed at w out)) split
    ∙ sym (drop-drop (n - k) k (placed at w out))
    ∙ ap (drop (n - k)) (drop_at (take at out ++ w) (drop k out) k long)
    ∙ drop-drop (n - k) k out
    ∙ ap (λ (m : ℕ). drop m out) (sym split)

-- nothing put
pub placed_none : (at : ℕ) (w out : Bytes) → w ≡ [] → out ≡ placed at w out
placed_none at w out e =
    let here : at + 0 ≡ at = omega arith in
    sym (ap (λ (v : Bytes). placed at v out) e ∙ (λ i. append-nil (take at out) i ++ drop (here i) out) ∙ take-append-drop at out)

-- ---- Parts put one in front of the other

-- v right before w is v ++ w
pub placed_front : (at : ℕ) (v w out : Bytes) → at + length v + length w ≤ length out → placed at v (placed (at + length v) w out) ≡ placed at (v ++ w) out
placed_front at v w out p =
    let mid = take (length v) (drop at out) in
    let rest = drop (at + length v + length w) out in
    let both : at + length v + length w ≡ at + length (v ++ w) = omega (arith, length-append v w) in
    let parts : placed (at + length v) w out ≡ take at out ++ (mid ++ (w ++ rest)) =
    append_assoc (take (at + length v) out) w rest
    ∙ ap (λ (X : Bytes). X ++ (w ++ rest)) (take-add at (length v) out)
    ∙ append_assoc (take at out) mid (w ++ rest) in
    ap (placed at v) parts
    ∙ put_between (take at out) mid (w ++ rest) v at (length-take-le at out (omega arith)) (length-take-le (length v) (drop at out) (omega (arith, length-drop at out)))
    ∙ ap (λ (X : Bytes). take at out ++ X) (sym (append_assoc v w rest))
    ∙ sym (append_assoc (take at out) (v ++ w) rest)
    ∙ ap (λ (n : ℕ). take at out ++ (v ++ w) ++ drop n out) both
