-- How many pairs a turn takes: at least one, sixteen at most, and no more than are left.
use mathlib.Core.Bool.{Bool, true, false}
use mathlib.Core.Path.{◌≡◌, refl, ap, ◌∙◌}
use Prim.Native.Nat.{ℕ, ◌+◌, ◌-◌, ◌*◌, ◌/◌, ◌≤◌}
use native.Mathlib.Omega.{arith}
use borrow.Author.Tests.{ltb-false}
use lib.Dec.{ltb}
use lib.ListN.{length, take, drop, length-take, length-drop}
use Rattle.std.specs.Prelude.{min, if◌then◌else◌}
use Rattle.paper.specs.Strings.{Bytes}
use Rattle.pass.specs.Pairs.{fewest, taken}

-- a turn that takes n pairs of a string of `long` bytes, of which the first `at` are done: the string's last pair stays, and where it takes more
-- than one, the string has enough for a group
pub record Turn (long at n : ℕ) : Type 0 where
  pub from1 : 1 ≤ n
  pub few : n ≤ 16
  pub room : at + 32 * n + 32 ≤ long
  pub group : 2 ≤ n → 32 * (fewest + 1) ≤ long

pub turn : (long at n : ℕ) → 64 ≤ long - at → n ≡ taken ((long - at) / 32 - 1) → Turn long at n
turn long at n h e = go (ltb ((long - at) / 32 - 1) fewest) refl
  where
    go : (t : Bool) → ltb ((long - at) / 32 - 1) fewest ≡ t → Turn long at n
    go true f =
        let one : n ≡ 1 = e ∙ ap (λ (t : Bool). if t then 1 else min ((long - at) / 32 - 1) 16) f in
        record { from1 = omega arith; few = omega arith; room = omega arith; group = λ two. omega arith }
    go false f =
        let is : n ≡ min ((long - at) / 32 - 1) 16 = e ∙ ap (λ (t : Bool). if t then 1 else min ((long - at) / 32 - 1) 16) f in
        let enough : 4 ≤ (long - at) / 32 - 1 = ltb-false ((long - at) / 32 - 1) fewest f in
        record { from1 = omega arith; few = omega arith; room = omega arith; group = λ two. omega arith }

-- the part that a turn takes
pub part_long : (at n : ℕ) (s : Bytes) → at + 32 * n ≤ length s → length (take (at + 32 * n - at) (drop at s)) ≡ 32 * n
part_long at n s h = simp (length-take, length-drop) (omega arith)

pub several : (n : ℕ) → 1 ≤ n → (n ≡ 1 → ⊥) → 2 ≤ n
several n h ne = omega arith
