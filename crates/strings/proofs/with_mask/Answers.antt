-- The sum of two blocks is made of columns and is a block again.
use Rattle.std.proofs.Common.{ap, ◌∙◌}
use Rattle.paper.specs.Strings.{Bytes, ◌⊕◌}
use Rattle.laws.proofs.Digits.{⊕_block}
use Rattle.block.proofs.Arrays.{array_bytes}
use Rattle.columns.specs.Columns.{block_of}
use Rattle.columns.proofs.Conversions.{block_of_block, made}
use Rattle.strings.proofs.with_mask.Goals as goal

pub returns : goal.returns
returns c =
    let M = block_of c.args.mask in
    made (⊕_block (block_of_block c.of_block.result) (block_of_block c.args.mask)) c.xor.ensures
    ∙ ap (λ (X : Bytes). X ⊕ M) (made (array_bytes 16 _ _ c.well_formed.0) c.of_block.ensures)
