-- `levels::turn`: the five levels turn the words over.
use Rattle.std.proofs.Common.{ap, ◌∙◌}
use Rattle.levels.specs.Levels.{far}
use Rattle.levels.proofs.Levels.{five_levels}
use Rattle.levels.proofs.turn.Goals as goal

pub returns : goal.returns
returns c = c.far.ensures ∙ ap (far 32 4) c.near.ensures ∙ five_levels c.args.w.now
