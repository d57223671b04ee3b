-- What `groups` says of each call, one put into the other.
use Rattle.std.proofs.Common.{List, ℕ, ap, ◌∙◌}
use Rattle.paper.specs.Figure6.{k1}
use Rattle.groups.specs.Groups.{AES4s, key_for}
use Rattle.pass.specs.Pairs.{xors}
use Rattle.pass.proofs.added_at_each.Goals as goal

pub returns : goal.returns
returns c =
    c.xor-2.ensures
    ∙ ap (xors c.args.a.now) (c.under1.ensures ∙ ap (λ (g : List (List ℕ)). AES4s (λ i. k1 (key_for c.args.keys.now i)) g) c.xor.ensures)
