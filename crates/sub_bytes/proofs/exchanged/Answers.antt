use Rattle.laws.proofs.Exchange.{lower_word, upper_word}
use Rattle.sub_bytes.proofs.exchanged.Goals as goal

pub returns : goal.returns
returns c =
    let x = c.args in
    let f = c.ranges in
    (lower_word 32 x.a x.b x.n x.m f.a.fits f.b.fits f.m.fits, upper_word 32 x.a x.b x.n x.m f.a.fits f.b.fits f.m.fits)
