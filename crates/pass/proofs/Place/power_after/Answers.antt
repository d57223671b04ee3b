use Rattle.std.proofs.Common.{ℕ, ◌≡◌, ◌+◌, ◌-◌, ◌/◌, ap, ◌∙◌, arith}
use Rattle.paper.specs.Section7.{two_to}
use Rattle.columns.specs.Columns.{columns_of}
use Rattle.masks.proofs.Powers.{next}
use Rattle.tbc.specs.Meaning.{base}
use Rattle.tbc.proofs.Keys.{base_bytes}
use Rattle.pass.proofs.Place.power_after.Goals as goal

pub loop-at-preserved : goal.loop-at-preserved
loop-at-preserved c =
    let l = c.loop-at in
    c.next_power-next.ensures
    ∙ next l.at l.power (base_bytes c.args.self.now.k).L (omega (arith, l.auto.at, c.args.self.now.from1)) l.invariant

pub returns : goal.returns
returns c =
    let l = c.loop-at in
    let all : l.at ≡ c.args.self.now.b + c.args.n = omega (arith, l.auto.at-end, c.loop-at-test.false) in
    l.invariant ∙ ap (λ (j : ℕ). columns_of (two_to ((j - 1) / 8) (base c.args.self.now.k).L)) all
