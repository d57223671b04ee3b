-- The record that is found is the definition's.
use Rattle.std.proofs.Common.{◌∙◌, ap}
use Rattle.day_find.proofs.Finding.{stands}
use Rattle.ledger.specs.Pauses.{taken_as}
use Rattle.ledger.proofs.Bytes.{below_256}
use Rattle.ledger.proofs.Taken.{found_pause}
use Rattle.ledger.proofs.pause_at.Goals as goal

pub returns : goal.returns
returns c =
    let a = c.args in
    let low = below_256 a.file.now c.type_inv.file in
    c.pause_of.ensures
    ∙ ap taken_as (found_pause a.key.now a.file.now low a.records a.k (stands a.file.now low a.records a.k c.requires.1 c.requires.2) c.find-f.result c.find-f.ensures.value)
