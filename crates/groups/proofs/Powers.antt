-- The power of L from number to number, counted from that of b.
use mathlib.Core.Bool.{Bool, true, false}
use mathlib.Core.List.{List}
use mathlib.Core.Path.{◌≡◌, refl, ap, sym, ◌∙◌}
use Prim.Native.Nat.{ℕ, zero, suc, ◌+◌, ◌-◌, ◌/◌, ◌%◌, ◌≤◌}
use native.Mathlib.Nat.{zero-add}
use native.Mathlib.Omega.{arith}
use borrow.Author.Tests.{eqb-true, eqb-false}
use lib.Dec.{eqb}
use Rattle.std.specs.Prelude.{if◌then◌else◌}
use Rattle.paper.specs.Strings.{Bytes, Block}
use Rattle.paper.specs.Section7.{double, two_to}
use Rattle.laws.proofs.Multiples.{two_to_zero, two_to_suc}
use Rattle.laws.proofs.KeyBlocks.{two_to_block}
use Rattle.columns.specs.Columns.{columns_of, block_of}
use Rattle.columns.proofs.Conversions.{columns_block}
use Rattle.masks.specs.Powers.{next_power}

pub two_to_more : (d e : ℕ) (X : Bytes) → two_to d (two_to e X) ≡ two_to (d + e) X
two_to_more zero e X = two_to_zero (two_to e X) ∙ ap (λ (n : ℕ). two_to n X) (sym (zero-add e))
two_to_more (suc d) e X =
    let next : suc (d + e) ≡ suc d + e = omega arith in
    two_to_suc d (two_to e X) ∙ ap double (two_to_more d e X) ∙ sym (two_to_suc (d + e) X) ∙ ap (λ (n : ℕ). two_to n X) next

-- how often the power doubles from b to n
abbrev pub steps : ℕ → ℕ → ℕ
steps b n = (n - 1) / 8 - (b - 1) / 8

pub next_from : (b n : ℕ) (P : Bytes) (p : List ℕ) → Block P → 1 ≤ b → b ≤ n → block_of p ≡ two_to (steps b n) P
    → block_of (next_power n p) ≡ two_to (steps b (n + 1)) P
next_from b n P p bytes h le e = go (eqb (n % 8) 0) refl
  where
    go : (t : Bool) → eqb (n % 8) 0 ≡ t → block_of (if t then columns_of (double (block_of p)) else p) ≡ two_to (steps b (n + 1)) P
    go true f =
        let more : suc (steps b n) ≡ steps b (n + 1) = omega (arith, eqb-true (n % 8) 0 f) in
        ap (λ (X : Bytes). block_of (columns_of (double X))) e
        ∙ ap (λ (X : Bytes). block_of (columns_of X)) (sym (two_to_suc (steps b n) P))
        ∙ columns_block (two_to_block (suc (steps b n)) bytes)
        ∙ ap (λ (k : ℕ). two_to k P) more
    go false f =
        let same : steps b n ≡ steps b (n + 1) = omega (arith, eqb-false (n % 8) 0 f) in
        e ∙ ap (λ (k : ℕ). two_to k P) same
