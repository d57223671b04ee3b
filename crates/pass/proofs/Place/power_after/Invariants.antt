-- The power is that for the number at.
use Rattle.std.proofs.Common.{◌≡◌, ◌-◌, ◌/◌}
use Rattle.paper.specs.Section7.{two_to}
use Rattle.columns.specs.Columns.{columns_of}
use Rattle.tbc.specs.Meaning.{base}
use Rattle.pass.proofs.Place.power_after.Given as goal

abbrev pub invariant-loop-at : goal.invariant-loop-at
invariant-loop-at l = l.power ≡ columns_of (two_to ((l.at - 1) / 8) (base l.self.k).L)
