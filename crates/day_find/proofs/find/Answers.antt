-- `day_find::find` meets its contract: the walk starts at the first header.
use Rattle.std.proofs.Common.{arith}
use Rattle.paper.specs.DayFile.{read_day}
use Rattle.day_find.proofs.Finding.{first_header}
use Rattle.day_find.proofs.find.Goals as goal

pub find_from-requires : goal.find_from-requires
find_from-requires c = (c.requires.0, c.requires.1, first_header (read_day c.args.file.now), omega arith)
