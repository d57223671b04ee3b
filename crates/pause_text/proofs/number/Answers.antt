-- Before the first digit the number is n.
use Rattle.std.proofs.Common.{sym}
use Rattle.laws.proofs.PauseSteps.{decimal_none}
use Rattle.pause_text.proofs.number.Goals as goal

pub loop-b-init : goal.loop-b-init
loop-b-init c = sym (decimal_none c.args.n)
