-- The steps of the turn, from the last to the first.
use Rattle.std.proofs.Common.{[], ◌∷◌, ap, ◌∙◌}
use Rattle.paper.specs.Strings.{Bytes, ◌⊕◌, ◌and◌}
use Rattle.paper.specs.Section7.{AES4}
use Rattle.laws.proofs.Digits.{⊕_block}
use Rattle.columns.specs.Columns.{block_of}
use Rattle.columns.proofs.Conversions.{made, block_of_block}
use Rattle.aes.proofs.Blocks.{AES_keys}
use Rattle.aes.specs.Steps.{keys_of}
use Rattle.turns.specs.Turns.{block_turn}
use Rattle.halves.proofs.ColumnBits.{and_block}
use Rattle.turns.proofs.Loops.{number_column}
use Rattle.turns.proofs.turn.Goals as goal

pub returns : goal.returns
unfolding block_turn
returns c =
    let a = c.args in
    let keys = a.keys.now in
    let number_block = block_of_block (0 ∷ 0 ∷ 0 ∷ a.i ∷ []) in
    let x =
    made (⊕_block (block_of_block a.s.r) number_block) c.xor.ensures
    ∙ ap (λ (N : Bytes). block_of a.s.r ⊕ N) (number_column a.i c.ranges.i.fits)
    in
    let y = made (AES_keys keys (block_of_block c.xor.result)) c.aes_columns-y.ensures ∙ ap (AES4 (keys_of keys)) x in
    let kept =
    made (and_block (block_of_block c.aes_columns-y.result) (block_of_block a.bits)) c.and.ensures
    ∙ ap (λ (Y : Bytes). Y and block_of a.bits) y
    in
    ap (λ (R : Bytes). record { L = block_of a.s.r; R = R })
    (made (⊕_block (block_of_block a.s.l) (block_of_block c.and.result)) c.xor-sum.ensures ∙ ap (λ (K : Bytes). block_of a.s.l ⊕ K) kept)
