-- The masks are added to each other first.
use Rattle.std.proofs.Common.{◌*◌, ◌%◌, ap, ◌∙◌}
use Rattle.paper.specs.Strings.{Bytes, ◌⊕◌}
use Rattle.laws.proofs.Digits.{⊕_block}
use Rattle.columns.specs.Columns.{block_of}
use Rattle.columns.proofs.Conversions.{block_of_block, made}
use Rattle.multiples.specs.Eight.{four_at}
use Rattle.strings.proofs.masked.Goals as goal

pub returns : goal.returns
returns c =
    let a = c.args in
    let running = made (⊕_block (block_of_block (four_at a.m.now (4 * (a.j % 8)))) (block_of_block a.power)) c.running_mask.ensures in
    c.with_mask.ensures
    ∙ ap (λ (X : Bytes). a.x ⊕ X)
    (made (⊕_block (block_of_block c.running_mask.result) (block_of_block a.mask)) c.xor.ensures
    ∙ ap (λ (X : Bytes). X ⊕ block_of a.mask) running)
