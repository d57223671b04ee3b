use mir.Syntax.{w32}
use Rattle.block.proofs.Arrays.{array_digits}
use Rattle.columns.proofs.Doubles.{doubled}
use Rattle.columns.proofs.double.Goals as goal

pub returns : goal.returns
returns c = doubled c.args.x (array_digits w32 4 _ _ c.well_formed.0)
