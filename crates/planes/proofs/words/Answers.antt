-- `planes::words`: a turn puts the four words of two blocks in place.
use Rattle.std.proofs.Common.{refl, sym, ◌∙◌, arith}
use Rattle.laws.proofs.Fronts.{front_all}
use Rattle.planes.proofs.Fills.{length_words, four_words}
use Rattle.planes.proofs.words.Goals as goal

pub loop-i-init : goal.loop-i-init
loop-i-init c = record { long = sym (length_words c.args.g.now); same = refl }

pub loop-i-preserved : goal.loop-i-preserved
loop-i-preserved c =
    four_words c.args.g.now c.loop-i.r c.loop-i.i c.joined.result c.joined-in-loop-i.result c.joined-in-loop-i-2.result c.joined-in-loop-i-3.result (omega arith)
    c.loop-i.invariant c.joined.ensures c.joined-in-loop-i.ensures c.joined-in-loop-i-2.ensures c.joined-in-loop-i-3.ensures

pub returns : goal.returns
returns c = front_all c.loop-i.invariant (length_words c.args.g.now ∙ omega arith)
