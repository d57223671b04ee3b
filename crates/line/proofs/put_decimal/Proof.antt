-- `line::put_decimal` meets its contract. The invariant: the digits of n are those of the number that is left, and those put after the place.
use mathlib.Core.Path.{◌≡◌}
use Prim.Native.Nat.{ℕ, ◌+◌, ◌-◌, ◌≤◌, ◌<◌}
use native.Mathlib.Omega.{arith}
use borrow.Author.Rules.{rules}
use lib.ListN.{length, length-set}
use Rattle.paper.specs.Strings.{Bytes}
use Rattle.paper.specs.Ledger.{decimal}
use Rattle.laws.proofs.Decimals.{decimal_some}
use Rattle.line.proofs.Putting.{Putting, begun, in_out, same_room, not_first, one_more, first_digit}
use Rattle.line.proofs.put_decimal.Statement.{statement}
use Rattle.line.proofs.put_decimal.Tie as tie

abbrev invariant-loop-left : tie.invariant-loop-left
invariant-loop-left out₀ at n place₀ left₀ out place left = Putting n left at place out₀ out

abbrev decreases-loop-left : tie.decreases-loop-left
decreases-loop-left out₀ at n place₀ left₀ out place left = left

module _ (l : tie.At-loop-left invariant-loop-left decreases-loop-left) where
  abbrev s : tie.Start invariant-loop-left decreases-loop-left
  s = l.before.before.before

  abbrev n : ℕ
  n = s.args.n

  abbrev at : ℕ
  at = s.args.at

  abbrev out : Bytes
  out = s.args.out.now

  fits : at + length (decimal n) ≤ length out
  fits = s.requires

  long : length l.loop-left.out ≡ length out
  long = same_room n l.loop-left.left at l.loop-left.place out l.loop-left.out fits l.loop-left.invariant

  inside : l.loop-left.place < length l.loop-left.out
  inside = omega (arith, long, in_out n l.loop-left.left at l.loop-left.place out l.loop-left.out fits l.loop-left.invariant)

overflow_sub-place : tie.Need-overflow_sub-place invariant-loop-left decreases-loop-left
overflow_sub-place c = omega (arith, decimal_some c.args.n)

loop-left-init : tie.Need-loop-left-init invariant-loop-left decreases-loop-left
loop-left-init c =
    let a = c.args in
    begun a.n a.at (a.at + c.decimal_length.result - 1) a.out.now (omega (arith, c.decimal_length.ensures.0, decimal_some a.n))

bounds-out-place : tie.Need-bounds-out-place invariant-loop-left decreases-loop-left
bounds-out-place c = let l = c.before in omega (arith, inside l)

overflow_sub-place-in-loop-left : tie.Need-overflow_sub-place-in-loop-left invariant-loop-left decreases-loop-left
overflow_sub-place-in-loop-left c = let l = c.before in omega (arith, not_first (n l) l.loop-left.left (at l) l.loop-left.place (out l) l.loop-left.out (fits l) l.loop-left.invariant c.loop-left-test.true)

loop-left-preserved : tie.Need-loop-left-preserved invariant-loop-left decreases-loop-left
loop-left-preserved c = let l = c.before in one_more (n l) l.loop-left.left (at l) l.loop-left.place (out l) l.loop-left.out (fits l) l.loop-left.invariant c.loop-left-test.true

bounds-out-place-2 : tie.Need-bounds-out-place-2 invariant-loop-left decreases-loop-left
bounds-out-place-2 c = omega (arith, inside c.before)

shape_of-out : tie.Need-shape_of-out invariant-loop-left decreases-loop-left
shape_of-out c = simp length-set (long c.before)

returns : tie.Need-returns invariant-loop-left decreases-loop-left
returns c = let l = c.before in first_digit (n l) l.loop-left.left (at l) l.loop-left.place (out l) l.loop-left.out (fits l) l.loop-left.invariant c.loop-left-test.false

pub put_decimal_spec : {M : Type 1} → statement M
put_decimal_spec =
    tie.close
    (tie.spec
    invariant-loop-left
    decreases-loop-left
    (λ c κs. search rules)
    (λ c. search rules)
    overflow_sub-place
    loop-left-init
    (λ c. search rules)
    (λ c. search rules)
    bounds-out-place
    overflow_sub-place-in-loop-left
    (λ c. search rules)
    loop-left-preserved
    (λ c. search rules)
    (λ c. search rules)
    bounds-out-place-2
    shape_of-out
    returns)
