use Rattle.aes.proofs.Shifts.{picked_word}
use Rattle.aes.proofs.picked.Goals as goal

pub returns : goal.returns
returns c = picked_word c.args.a c.args.b c.args.m c.ranges.a.fits c.ranges.m.fits
