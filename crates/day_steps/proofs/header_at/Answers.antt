-- `day_steps::header_at` meets its contract: each return is one case of the definition.
use Rattle.std.proofs.Common.{sym, arith}
use Rattle.day_steps.proofs.Steps.{header_few, header_long, header_bad, header_good}
use Rattle.day_steps.proofs.header_at.Goals as goal

pub returns-then-file-at-lt2 : goal.returns-then-file-at-lt2
returns-then-file-at-lt2 c = header_few c.args.file.now c.args.at c.requires (omega arith)

pub returns-then-file-start : goal.returns-then-file-start
returns-then-file-start c = header_long c.args.file.now c.args.at c.requires c.read-size.result c.read-size.ensures.value (omega arith) (omega arith)

pub returns-then-is_ok : goal.returns-then-is_ok
returns-then-is_ok c = (
  omega arith,
  omega arith,
  header_good c.args.file.now c.args.at c.requires c.read-size.result c.read-size.ensures.value (omega arith) (omega arith) c.read.result c.read.ensures (sym c.if-is_ok.ensures.value),
)

pub returns-else-is_ok : goal.returns-else-is_ok
returns-else-is_ok c =
    header_bad c.args.file.now c.args.at c.requires c.read-size.result c.read-size.ensures.value (omega arith) (omega arith) c.read.result c.read.ensures (sym c.if-is_ok.ensures.value)
