-- `day_list::list` meets its contract.
use Rattle.std.proofs.Common.{◌≡◌, ◌+◌, ◌*◌, ◌≤◌, ℕ, get_or, Fits, w8, arith}
use Rattle.std.specs.Prelude.{Some}
use Rattle.paper.specs.Strings.{Bytes}
use Rattle.paper.specs.DayFile.{read_day}
use Rattle.laws.proofs.Digits.{below_of}
use Rattle.day.specs.declared.Day.{Day as Counts}
use Rattle.day.specs.Checks.{checked_as}
use Rattle.day_list.proofs.Listing.{lists_unread, counted, counts_small, lists_short, lists_all}
use Rattle.day_list.proofs.list.Goals as goal

pub returns-in_default : goal.returns-in_default
returns-in_default c = lists_unread c.args.file.now c.args.places.now c.in_default.ensures

-- the counts are small
small : (f : Bytes) → ((i : ℕ) → Fits w8 (get_or f i 0)) → (day : Counts) → Some day ≡ checked_as (read_day f) → 2 * day.headers + 4 * day.records ≤ 65536
small f low day e = counts_small f (below_of 256 f (λ i p. omega (arith, low i))) day.headers day.records day.first e

pub overflow_mul-day : goal.overflow_mul-day
overflow_mul-day c = omega (arith, small c.args.file.now c.type_inv.file c.in-Some.day c.in-Some.ensures)

pub overflow_mul-day-2 : goal.overflow_mul-day-2
overflow_mul-day-2 c = omega (arith, small c.args.file.now c.type_inv.file c.in-Some.day c.in-Some.ensures)

pub overflow_add-day : goal.overflow_add-day
overflow_add-day c = omega (arith, small c.args.file.now c.type_inv.file c.in-Some.day c.in-Some.ensures)

pub returns-then-places-day : goal.returns-then-places-day
returns-then-places-day c =
    let day = c.in-Some.day in
    lists_short c.args.file.now c.args.places.now day.headers day.records day.first c.in-Some.ensures (omega arith)

pub list_records-requires : goal.list_records-requires
list_records-requires c =
    let day = c.in-Some.day in
    let k = counted (read_day c.args.file.now) day.headers day.records day.first c.in-Some.ensures in
    (k.records_are, k.first_is, omega (arith, c.list_headers.auto.places))

pub returns : goal.returns
returns c =
    let day = c.in-Some.day in
    lists_all c.args.file.now c.args.places.now day.headers day.records day.first c.in-Some.ensures (omega arith) c.list_headers.new.places c.list_records.new.places c.list_headers.ensures c.list_records.ensures
