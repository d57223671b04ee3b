-- The second index of the rounds is one that Figure 6 defines in row 0.
use mathlib.Core.Bool.{Bool, true, false}
use Prim.Native.Nat.{ℕ, ◌≤◌}
use native.Mathlib.Omega.{arith}
use lib.Dec.{leb}
use Rattle.std.specs.Prelude.{if◌then◌else◌}
use Rattle.paper.specs.Figure5.{tiny_index}

pub index_le : (m : ℕ) → tiny_index m ≤ 7
index_le m = go (leb 128 m)
  where
    go : (b : Bool) → (if b then 6 else 7) ≤ 7
    go true = omega arith
    go false = omega arith
