-- `line::put_line` meets its contract: six fields, one after the other.
use mathlib.Core.Path.{◌≡◌, ◌∙◌}
use Prim.Native.Nat.{◌+◌}
use native.Mathlib.Omega.{arith}
use lib.ListN.{length, length-append}
use Rattle.paper.specs.Ledger as paper
use Rattle.paper.specs.Ledger.{decimal}
use Rattle.mean.specs.Reports.{meaning}
use Rattle.line.proofs.Putting.{field_end, line_long, together}
use Rattle.line.proofs.put_line.Statement.{statement}
use Rattle.line.proofs.put_line.Tie as tie

-- ---- The places: each call, from the one after it

abbrev start : tie.After-put_field-second → tie.Start
start c = c.before.before.before

abbrev first : tie.After-put_field-third → tie.After-put_field-second
first c = c.before.before.before.before

abbrev second : tie.After-put_field-fourth → tie.After-put_field-third
second c = c.before.before.before.before

abbrev third : tie.After-put_field-fifth → tie.After-put_field-fourth
third c = c.before.before.before.before

abbrev fourth : tie.After-put_field-sixth → tie.After-put_field-fifth
fourth c = c.before.before.before.before

abbrev fifth : tie.After-put_field → tie.After-put_field-sixth
fifth c = c.before.before.before.before

abbrev report : tie.Start → paper.Report
report s = meaning s.args.r

-- no call changes the output's length
long1 : (c : tie.After-put_field-second) → length c.put_field-second.new.out ≡ length (start c).args.out.now
long1 c = c.put_field-second.auto.out

long2 : (c : tie.After-put_field-third) → length c.put_field-third.new.out ≡ length (start (first c)).args.out.now
long2 c = c.put_field-third.auto.out ∙ long1 (first c)

long3 : (c : tie.After-put_field-fourth) → length c.put_field-fourth.new.out ≡ length (start (first (second c))).args.out.now
long3 c = c.put_field-fourth.auto.out ∙ long2 (second c)

long4 : (c : tie.After-put_field-fifth) → length c.put_field-fifth.new.out ≡ length (start (first (second (third c)))).args.out.now
long4 c = c.put_field-fifth.auto.out ∙ long3 (third c)

long5 : (c : tie.After-put_field-sixth) → length c.put_field-sixth.new.out ≡ length (start (first (second (third (fourth c))))).args.out.now
long5 c = c.put_field-sixth.auto.out ∙ long4 (fourth c)

-- where each field ends, whatever byte stands after its number
end1 : (c : tie.After-put_field-second) → let r = report (start c) in c.put_field-second.result ≡ length (decimal r.read) + 1
end1 c = omega (arith, field_end _ _ _ c.put_field-second.ensures.0)

end2 : (c : tie.After-put_field-third) → let r = report (start (first c)) in c.put_field-third.result ≡ length (decimal r.read) + length (decimal r.refused) + 2
end2 c = omega (arith, end1 (first c), field_end _ _ _ c.put_field-third.ensures.0)

end3 : (c : tie.After-put_field-fourth) → let r = report (start (first (second c))) in c.put_field-fourth.result ≡ length (decimal r.read) + length (decimal r.refused) + length (decimal r.sum) + 3
end3 c = omega (arith, end2 (second c), field_end _ _ _ c.put_field-fourth.ensures.0)

end4 : (c : tie.After-put_field-fifth) → let r = report (start (first (second (third c)))) in c.put_field-fifth.result ≡ length (decimal r.read) + length (decimal r.refused) + length (decimal r.sum) + length (decimal r.longest) + 4
end4 c = omega (arith, end3 (third c), field_end _ _ _ c.put_field-fifth.ensures.0)

end5 : (c : tie.After-put_field-sixth) → let r = report (start (first (second (third (fourth c))))) in c.put_field-sixth.result ≡ length (decimal r.read) + length (decimal r.refused) + length (decimal r.sum) + length (decimal r.longest) + length (decimal r.over) + 5
end5 c = omega (arith, end4 (fourth c), field_end _ _ _ c.put_field-sixth.ensures.0)

put_field-second-requires : tie.Need-put_field-second-requires
put_field-second-requires c κs = let s = c.before.before in simp length-append (omega (arith, s.requires, line_long (report s)))

put_field-third-requires : tie.Need-put_field-third-requires
put_field-third-requires c κs =
    let one = c.before.before.before in
    let s = start one in
    simp length-append (omega (arith, s.requires, line_long (report s), long1 one, end1 one))

put_field-fourth-requires : tie.Need-put_field-fourth-requires
put_field-fourth-requires c κs =
    let two = c.before.before.before in
    let s = start (first two) in
    simp length-append (omega (arith, s.requires, line_long (report s), long2 two, end2 two))

put_field-fifth-requires : tie.Need-put_field-fifth-requires
put_field-fifth-requires c κs =
    let three = c.before.before.before in
    let s = start (first (second three)) in
    simp length-append (omega (arith, s.requires, line_long (report s), long3 three, end3 three))

put_field-sixth-requires : tie.Need-put_field-sixth-requires
put_field-sixth-requires c κs =
    let four = c.before.before.before in
    let s = start (first (second (third four))) in
    simp length-append (omega (arith, s.requires, line_long (report s), long4 four, end4 four))

put_field-requires : tie.Need-put_field-requires
put_field-requires c κs =
    let five = c.before.before.before in
    let s = start (first (second (third (fourth five)))) in
    simp length-append (omega (arith, s.requires, line_long (report s), long5 five, end5 five))

shape_of-out : tie.Need-shape_of-out
shape_of-out c = let six = c.before.before in six.put_field.auto.out ∙ long5 (fifth six)

returns : tie.Need-returns
returns c =
    let six = c.before.before in
    let five = fifth six in
    let four = fourth five in
    let three = third four in
    let two = second three in
    let one = first two in
    let s = start one in
    together (report s) s.args.out.now
    one.put_field-second.new.out two.put_field-third.new.out three.put_field-fourth.new.out four.put_field-fifth.new.out five.put_field-sixth.new.out six.put_field.new.out
    one.put_field-second.result two.put_field-third.result three.put_field-fourth.result four.put_field-fifth.result five.put_field-sixth.result s.requires
    one.put_field-second.ensures.1 one.put_field-second.ensures.0 two.put_field-third.ensures.1 two.put_field-third.ensures.0
    three.put_field-fourth.ensures.1 three.put_field-fourth.ensures.0 four.put_field-fifth.ensures.1 four.put_field-fifth.ensures.0
    five.put_field-sixth.ensures.1 five.put_field-sixth.ensures.0 six.put_field.ensures.1

pub put_line_spec : {M : Type 1} → statement M
put_line_spec =
    tie.close
    (tie.spec
    put_field-second-requires
    put_field-third-requires
    put_field-fourth-requires
    put_field-fifth-requires
    put_field-sixth-requires
    put_field-requires
    shape_of-out
    returns)
