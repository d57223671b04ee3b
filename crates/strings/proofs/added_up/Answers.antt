-- A group that went through AES4 as one.
use Rattle.std.proofs.Common.{◌∙◌}
use Rattle.paper.specs.Figure6.{k0}
use Rattle.tbc.specs.Meaning.{base}
use Rattle.tbc.proofs.Keys.{base_bytes}
use Rattle.groups.proofs.Held.{held}
use Rattle.strings.proofs.Waits.{added_group}
use Rattle.strings.proofs.added_up.Goals as goal

pub returns-else-n-lt-AS_ONE : goal.returns-else-n-lt-AS_ONE
returns-else-n-lt-AS_ONE c =
    let a = c.args in
    let K = base a.k in
    c.sum.ensures
    ∙ added_group K (base_bytes a.k) c.under0-e.result a.g.now a.n c.requires (c.under0-e.ensures ∙ held k0 K c.keys.result c.keys.ensures.0 a.g.now)
