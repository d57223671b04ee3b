-- `planes::joined`: the word by its bits.
use Rattle.std.proofs.Common.{◌*◌, ◌%◌, ◌^◌, bit_xor, ◌∙◌}
use Rattle.planes.proofs.Moves.{joined_word}
use Rattle.planes.proofs.joined.Goals as goal

pub returns : goal.returns
returns c =
    (λ i. bit_xor (c.from.ensures i) (c.from-2.ensures i * 2 ^ 32 % 2 ^ 64)) ∙ joined_word c.args.x c.args.y c.ranges.x.fits c.ranges.y.fits
