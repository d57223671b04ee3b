-- The number's multiple of J that is read is added to the block.
use Rattle.std.proofs.Common.{ap, ◌∙◌}
use Rattle.paper.specs.Strings.{Bytes, ◌⊕◌}
use Rattle.laws.proofs.KeyBlocks.{times_block}
use Rattle.columns.specs.Columns.{columns_of, block_of}
use Rattle.columns.proofs.Conversions.{made}
use Rattle.tbc.specs.Meaning.{masked0}
use Rattle.tbc.proofs.Keys.{base_bytes}
use Rattle.tbc.proofs.Masks.{read}
use Rattle.tbc.proofs.keys_adding.Goals as goal

pub returns : goal.returns
returns c =
    let a = c.args in
    let of_j = made (times_block a.p.number (base_bytes a.k).J) (c.multiple-multiple_of_j.ensures ∙ read a.k a.m.now c.requires.1 a.p.number c.requires.0) in
    c.keys0.ensures ∙ ap (masked0 a.k) (c.xor.ensures ∙ ap (λ (M : Bytes). columns_of (block_of a.added ⊕ M)) of_j)
