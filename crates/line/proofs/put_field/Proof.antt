-- `line::put_field` meets its contract.
use mathlib.Core.List.{[], ◌∷◌}
use mathlib.Core.Path.{◌≡◌, ◌∙◌}
use Prim.Native.Nat.{◌+◌, ◌≤◌}
use native.Mathlib.Omega.{arith}
use borrow.Author.Rules.{rules}
use lib.ListN.{length, set, length-append, length-set}
use Rattle.paper.specs.Ledger.{decimal}
use Rattle.line.proofs.Putting.{then_byte}
use Rattle.line.proofs.put_field.Statement.{statement}
use Rattle.line.proofs.put_field.Tie as tie

abbrev start : tie.After-decimal_length → tie.Start
start c = c.before.before

abbrev counted : tie.After-put_decimal → tie.After-decimal_length
counted c = c.before.before

-- the digits and the byte fit
fits : (s : tie.Start) → s.args.at + length (decimal s.args.n) + 1 ≤ length s.args.out.now
fits s = omega (arith, s.requires, length-append (decimal s.args.n) (s.args.after ∷ []))

long : (c : tie.After-put_decimal) → length c.put_decimal.new.out ≡ length (start (counted c)).args.out.now
long c = c.put_decimal.auto.out

overflow_add-end : tie.Need-overflow_add-end
overflow_add-end c = omega (arith, fits (start c))

put_decimal-requires : tie.Need-put_decimal-requires
put_decimal-requires c κs = omega (arith, fits (start c.before))

bounds-out-end : tie.Need-bounds-out-end
bounds-out-end c = let p = c.before.before in omega (arith, fits (start (counted p)), long p, (counted p).decimal_length.ensures.0)

overflow_add-result : tie.Need-overflow_add-result
overflow_add-result c = let p = c.before.before in omega (arith, fits (start (counted p)), (counted p).decimal_length.ensures.0)

shape_of-out : tie.Need-shape_of-out
shape_of-out c = simp length-set (long c.before.before)

returns : tie.Need-returns
returns c =
    let p = c.before.before in
    let d = counted p in
    let a = (start d).args in
    let end : a.at + d.decimal_length.result ≡ a.at + length (decimal a.n) = omega (arith, d.decimal_length.ensures.0) in (
      omega (arith, d.decimal_length.ensures.0, length-append (decimal a.n) (a.after ∷ [])),
      (λ i. set (p.put_decimal.ensures i) (end i) a.after) ∙ then_byte a.n a.after a.at a.out.now (start d).requires,
    )

pub put_field_spec : {M : Type 1} → statement M
put_field_spec =
    tie.close
    (tie.spec
    (λ c κs. search rules)
    overflow_add-end
    put_decimal-requires
    bounds-out-end
    overflow_add-result
    shape_of-out
    returns)
