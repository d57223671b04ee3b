use Rattle.std.proofs.Common.{List, ℕ, ◌++◌, ◌≡◌, ◌+◌, ◌-◌, ◌*◌, ◌/◌, ◌≤◌, length, ap, ap₂, ◌∙◌, arith}
use lib.ListN.{length-take, length-drop}
use Rattle.paper.specs.Strings.{Bytes, join}
use Rattle.columns.specs.Columns.{block_of}
use Rattle.groups.specs.Groups.{entry}
use Rattle.pass.proofs.Replaced.{replaced_none, replaced_one, replaced_all}
use Rattle.pass.proofs.put_pairs.Goals as goal

abbrev two : List (List ℕ) → List (List ℕ) → ℕ → Bytes
two a b i = block_of (entry a (i - 1)) ++ block_of (entry b (i - 1))

pub loop-i-init : goal.loop-i-init
loop-i-init c = replaced_none (two c.args.a.now c.args.b.now) c.args.part.now

pub loop-i-preserved : goal.loop-i-preserved
loop-i-preserved c =
    let l = c.loop-i in
    let a = c.args.a.now in
    let b = c.args.b.now in
    let size : ℕ = 32 * l.i + 32 - 32 * l.i in
    let is : size ≡ 32 = omega arith in
    let within : 32 * l.i + size ≤ length l.part = omega (arith, c.requires.0, l.auto.part, c.loop-i-test.true) in
    let this : l.i ≡ l.i + 1 - 1 = omega arith in
    let made =
    c.put_two.ensures ∙ ap₂ ◌++◌ c.to_block-left.ensures c.to_block-right.ensures
    ∙ ap (λ (k : ℕ). block_of (entry a k) ++ block_of (entry b k)) this in
    let long : length c.put_two.new.part ≡ size = c.put_two.auto.part ∙ simp (length-take, length-drop) (omega (arith, within)) in
    replaced_one (two a b) c.args.part.now l.part l.i size c.put_two.new.part l.invariant is within made long

pub returns : goal.returns
returns c =
    let l = c.loop-i in
    let f = two c.args.a.now c.args.b.now in
    let all : l.i ≡ length c.args.part.now / 32 = omega (arith, l.auto.i-end, c.loop-i-test.false) in
    replaced_all f c.args.part.now l.part (32 * l.i) l.i l.invariant (omega (arith, all, c.requires.0))
    ∙ ap (λ (n : ℕ). join n f) all
