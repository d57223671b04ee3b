-- The same on the columns of the block.
use Rattle.std.proofs.Common.{ap, ◌∙◌}
use Rattle.paper.specs.Section7.{AES}
use Rattle.block.proofs.Arrays.{array_bytes}
use Rattle.columns.proofs.Conversions.{made, block_of_block}
use Rattle.aes.specs.Steps.{keys_of}
use Rattle.aes.proofs.Blocks.{AES_keys}
use Rattle.aes.proofs.aes.Goals as goal

pub returns : goal.returns
returns c =
    let k = c.args.k.now in
    c.to_block.ensures
    ∙ made (AES_keys k (block_of_block c.of_block.result)) c.aes_columns.ensures
    ∙ ap (AES (keys_of k)) (made (array_bytes 16 _ _ c.well_formed.1.0) c.of_block.ensures)
