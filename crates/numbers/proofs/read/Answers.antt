-- `numbers::read` meets its contract.
use Rattle.std.proofs.Common.{◌∙◌, ◌^◌, ◌<◌, ℕ, sym, subst, arith}
use Rattle.laws.proofs.Digits.{below_of}
use Rattle.numbers.proofs.Bytes.{read_last, read_small}
use Rattle.numbers.proofs.read.Goals as goal

pub returns-clause-value : goal.returns-clause-value
returns-clause-value g c =
    c.from_be_bytes.ensures ∙ read_last g.row.N c.args.at c.requires.short c.args.s.now c.copy_from_slice.new.self c.requires.inside c.copy_from_slice.ensures.after

pub returns-clause-small : goal.returns-clause-small
returns-clause-small g c =
    let P : ℕ → Type 0 = λ n. n < 256 ^ g.row.N in
    subst P (sym (returns-clause-value g c)) (read_small g.row.N c.args.at c.requires.short c.args.s.now c.requires.inside (below_of 256 c.args.s.now (λ i p. omega (arith, c.type_inv.s i))))
