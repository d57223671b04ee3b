-- Each return is one case of the definition.
use Rattle.paper.specs.DayFile.{read_day}
use Rattle.day_open.proofs.Opens.{checked_records}
use Rattle.ledger.proofs.Settled.{checked_headers, unread, no_key, is_report}
use Rattle.ledger.proofs.reported.Goals as goal

pub returns-in_default : goal.returns-in_default
returns-in_default c = unread c.args.key.now (read_day c.args.file.now) c.in_default.ensures

pub returns-then-key-ne48 : goal.returns-then-key-ne48
returns-then-key-ne48 c =
    let day = c.in-Some.day in
    no_key c.args.key.now (read_day c.args.file.now) day.headers day.records day.first c.in-Some.ensures c.if-key-ne48.true

pub report_of-requires : goal.report_of-requires
report_of-requires c =
    let o = read_day c.args.file.now in
    let day = c.in-Some.day in
    (checked_headers o day.headers day.records day.first c.in-Some.ensures, checked_records o day.headers day.records day.first c.in-Some.ensures)

pub returns : goal.returns
returns c =
    let day = c.in-Some.day in
    is_report c.args.key.now (read_day c.args.file.now) day.headers day.records day.first c.in-Some.ensures c.if-key-ne48.false c.report_of.result c.report_of.ensures
