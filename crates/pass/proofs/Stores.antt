-- Two blocks stored into a part of 32 bytes, one after the other.
use mathlib.Core.List.{[], ◌++◌, append-nil}
use mathlib.Core.Path.{◌≡◌, ap, ap₂, ◌∙◌}
use native.Mathlib.Omega.{arith}
use lib.ListN.{length, take, drop, length-append, length-drop, drop_of_length-le}
use lib.Seq.{take_at}
use Rattle.paper.specs.Strings.{Bytes}

pub stored : (P w x p q : Bytes) → length P ≡ 32 → length w ≡ 16 → p ≡ take 0 P ++ w ++ drop 16 P → q ≡ take 16 p ++ x ++ drop 32 p → q ≡ w ++ x
stored P w x p q lP lw e f =
    let front : take 16 p ≡ w = ap (take 16) e ∙ take_at w (drop 16 P) 16 lw in
    let long : length p ≡ 32 = ap length e ∙ length-append w (drop 16 P) ∙ omega (arith, length-drop 16 P) in
    let none : drop 32 p ≡ [] = drop_of_length-le p {i = 32} (omega arith) in
    f ∙ ap₂ (λ (u v : Bytes). u ++ x ++ v) front none ∙ append-nil (w ++ x)
