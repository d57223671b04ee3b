-- What `groups` says of each call, one put into the other.
use Rattle.std.proofs.Common.{List, ℕ, ap, ◌∙◌}
use Rattle.paper.specs.Figure6.{k2}
use Rattle.groups.specs.Groups.{each, AES4s, key_for}
use Rattle.pass.specs.Pairs.{xors}
use Rattle.pass.proofs.sum_at_each.Goals as goal

pub returns : goal.returns
returns c =
    c.under2.ensures
    ∙ ap (λ (g : List (List ℕ)). AES4s (λ i. k2 (key_for c.args.keys.now i)) g)
    (c.xor.ensures ∙ ap (λ (x : List ℕ). xors (each (λ i. x)) c.args.masks.now) c.of_block-sums.ensures)
