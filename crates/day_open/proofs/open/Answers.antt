-- `day_open::open` meets its contract.
use Rattle.std.proofs.Common.{arith}
use Rattle.paper.specs.Strings.{Below}
use Rattle.paper.specs.DayFile.{read_day}
use Rattle.laws.proofs.Digits.{below_of}
use Rattle.day_find.proofs.Finding.{stands}
use Rattle.day_open.proofs.Opens.{opens_unread, checked_records, opens_absent, opens_found}
use Rattle.day_open.proofs.«open».Goals as goal

pub returns-in_default : goal.returns-in_default
returns-in_default c = opens_unread c.args.key.now c.args.file.now c.args.k c.args.out.now c.in_default.ensures

pub returns-then-day-k : goal.returns-then-day-k
returns-then-day-k c =
    let day = c.in-Some.day in
    opens_absent c.args.key.now c.args.file.now c.args.k c.args.out.now day.headers day.records day.first c.in-Some.ensures (omega arith)

pub returns : goal.returns
returns c =
    let f = c.args.file.now in
    let low : Below 256 f = below_of 256 f (λ i p. omega (arith, c.type_inv.file i)) in
    let day = c.in-Some.day in
    let there = stands f low day.records c.args.k (checked_records (read_day f) day.headers day.records day.first c.in-Some.ensures) (omega arith) in
    opens_found c.args.key.now f low day.records c.args.k there c.find-f.result c.find-f.ensures.value c.open.result c.open.new.out c.args.out.now c.open.ensures
