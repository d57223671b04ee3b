-- `groups::under2`: its keys in their order.
use Rattle.groups.specs.Groups.{key_for}
use Rattle.groups.proofs.under2.Goals as goal

pub returns : goal.returns
unfolding key_for
returns c = c.aes4.ensures
