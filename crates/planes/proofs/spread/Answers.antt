-- `planes::spread`: four bits, each sixteen times.
use Rattle.std.proofs.Common.{arith}
use Rattle.planes.proofs.Sixteenfold.{four_fits, spread_word}
use Rattle.planes.proofs.spread.Goals as goal

pub overflow_mul-result : goal.overflow_mul-result
overflow_mul-result c = omega (arith, four_fits c.args.x c.args.y c.args.n)

pub returns : goal.returns
returns c = spread_word c.args.x c.args.y c.args.n
