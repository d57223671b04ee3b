-- The first bit of a short string, and nothing of a longer one.
use Rattle.std.proofs.Common.{ℕ, List, ◌++◌, ap, arith, drop, length, rules, ◌∙◌}
use native.Mathlib.Nat.{zero-add}
use lib.ListN.{replicate}
use Rattle.paper.specs.Figure6.{row, E}
use Rattle.laws.proofs.Padding.{fill_over}
use Rattle.tbc.specs.Meaning.{base}
use Rattle.tiny.proofs.FirstByte.{last_long, last_short}
use Rattle.tiny.proofs.last_step.Goals as goal

pub returns-then-short : goal.returns-then-short
returns-then-short c =
    let a = c.args in
    let C : List ℕ = a.s.now in
    let zeros : List ℕ = replicate 16 0 in
    let filled = c.copy.ensures ∙ ap (λ (k : ℕ). C ++ drop k zeros) (zero-add (length C)) ∙ fill_over 16 C (omega arith) (omega arith) in
    last_short (E (base a.k)) a.delta C c.copy.new.s c.e-e.result (omega arith) c.if-short.true filled
    (c.e-e.ensures ∙ ap (E (base a.k) (row 0) 3) c.xor.ensures) (search rules)

pub returns-else-short : goal.returns-else-short
returns-else-short c = let a = c.args in last_long (E (base a.k)) a.delta a.s.now c.if-short.false
