-- `next_power` carries the power of L along: from that of b to that of b + 1.
use mathlib.Core.Bool.{Bool, true, false}
use mathlib.Core.List.{List}
use mathlib.Core.Path.{◌≡◌, refl, ap, sym, ◌∙◌}
use Prim.Native.Nat.{ℕ, suc, ◌+◌, ◌-◌, ◌/◌, ◌%◌, ◌≤◌}
use native.Mathlib.Omega.{arith}
use borrow.Author.Tests.{eqb-true, eqb-false}
use lib.Dec.{eqb}
use Rattle.std.specs.Prelude.{if◌then◌else◌}
use Rattle.paper.specs.Strings.{Bytes, Block}
use Rattle.paper.specs.Section7.{double, two_to}
use Rattle.laws.proofs.KeyBlocks.{two_to_block}
use Rattle.laws.proofs.Multiples.{two_to_suc}
use Rattle.columns.specs.Columns.{columns_of, block_of}
use Rattle.columns.proofs.Conversions.{double_of}
use Rattle.masks.specs.Powers.{next_power}

pub next : (b : ℕ) {L : Bytes} (power : List ℕ) → Block L → 1 ≤ b → power ≡ columns_of (two_to ((b - 1) / 8) L) → next_power b power ≡ columns_of (two_to ((b + 1 - 1) / 8) L)
next b {L} power p h e = go (eqb (b % 8) 0) refl
  where
    go : (t : Bool) → eqb (b % 8) 0 ≡ t → (if t then columns_of (double (block_of power)) else power) ≡ columns_of (two_to ((b + 1 - 1) / 8) L)
    go true f =
        let n : suc ((b - 1) / 8) ≡ (b + 1 - 1) / 8 = omega (arith, eqb-true (b % 8) 0 f) in
        double_of (two_to_block ((b - 1) / 8) p) e refl ∙ ap columns_of (sym (two_to_suc ((b - 1) / 8) L) ∙ ap (λ (k : ℕ). two_to k L) n)
    go false f =
        let n : (b - 1) / 8 ≡ (b + 1 - 1) / 8 = omega (arith, eqb-false (b % 8) 0 f) in
        e ∙ ap (λ (k : ℕ). columns_of (two_to k L)) n
