use Rattle.sub_bytes.proofs.Moves.{joined_word}
use Rattle.sub_bytes.proofs.joined.Goals as goal

pub returns : goal.returns
returns c = joined_word c.args.a c.args.b c.ranges.a.fits
