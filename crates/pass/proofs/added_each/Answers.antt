-- What `groups` says of each call, one put into the other.
use Rattle.std.proofs.Common.{ap, ◌∙◌}
use Rattle.pass.specs.Pairs.{xors}
use Rattle.pass.proofs.added_each.Goals as goal

pub returns : goal.returns
returns c = c.xor.ensures ∙ ap (xors c.args.a.now) c.under0.ensures
