-- L is crossed back.
use Rattle.std.proofs.Common.{rules}
use Rattle.tbc.proofs.Keys.{uncrossed_columns}
use Rattle.tbc.proofs.Base.power.Goals as goal

pub returns : goal.returns
returns c = uncrossed_columns c.args.self.l c.crossed.result (search rules) (λ j. search rules) c.crossed.ensures
