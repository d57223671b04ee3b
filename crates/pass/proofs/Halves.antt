-- The two blocks of a pair of a string.
use mathlib.Core.Path.{◌≡◌, ap, ◌∙◌}
use Prim.Native.Nat.{ℕ, ◌-◌, ◌*◌, ◌≤◌}
use native.Mathlib.Omega.{arith}
use lib.ListN.{length, take, drop, length-drop}
use lib.Seq.{length-take-le, take-take, drop_at, drop-drop, take-add}
use Rattle.paper.specs.Strings.{Bytes}
use Rattle.paper.specs.Figure5.{Mᵢ, M'ᵢ}
use Rattle.pass.specs.Pairs.{pair_at}

pub left_is : (N : Bytes) (i : ℕ) → take 16 (pair_at N i) ≡ Mᵢ N i
left_is N i = take-take 16 32 (drop (32 * (i - 1)) N) (omega arith)

pub right_is : (N : Bytes) (i : ℕ) → 1 ≤ i → 32 * i ≤ length N → take 16 (drop 16 (pair_at N i)) ≡ M'ᵢ N i
right_is N i a h =
    let l : Bytes = drop (32 * (i - 1)) N in
    ap (λ (k : Bytes). take 16 (drop 16 k)) (take-add 16 16 l)
    ∙ ap (take 16) (drop_at (take 16 l) (take 16 (drop 16 l)) 16 (length-take-le 16 l (simp length-drop (omega arith))))
    ∙ take-take 16 16 (drop 16 l) (omega arith)
    ∙ ap (take 16) (drop-drop 16 (32 * (i - 1)) N)
