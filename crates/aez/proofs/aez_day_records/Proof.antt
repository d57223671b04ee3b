-- `aez::aez_day_records` meets its contract: the number and the count by what the check found.
use mathlib.Core.Option.{Option, none, some}
use mathlib.Core.Path.{◌≡◌, refl, sym, ◌∙◌}
use Prim.Native.Nat.{ℕ}
use Rattle.paper.specs.Strings.{Bytes}
use Rattle.paper.specs.DayFile.{Day, read_day, counted, counting}
use Rattle.std.specs.Prelude.{None, Some}
use Rattle.day.specs.Checks.{checked_as, checked_day}
use Rattle.day.proofs.Found.{counts_are}
use borrow.Author.Rules.{rules}
use Rattle.aez.proofs.aez_day_records.Statement.{statement}
use Rattle.aez.proofs.aez_day_records.Tie as tie

unread : (f : Bytes) → None ≡ checked_as (read_day f) → (9 ≡ (counting f).number) × (0 ≡ (counting f).records)
unfolding counting
unread f e = go (read_day f) e
  where
    go : (o : Option Day) → None ≡ checked_as o → (9 ≡ (counted o).number) × (0 ≡ (counted o).records)
    go none e = (refl, refl)
    go (some day) e = ((cc), (cc))

read : (f : Bytes) (headers records first : ℕ) → Some (checked_day headers records first) ≡ checked_as (read_day f) → (0 ≡ (counting f).number) × (records ≡ (counting f).records)
unfolding counting
read f headers records first e = go (read_day f) e
  where
    go : (o : Option Day) → Some (checked_day headers records first) ≡ checked_as o → (0 ≡ (counted o).number) × (records ≡ (counted o).records)
    go none e = ((cc), (cc))
    go (some day) e = (refl, (counts_are day headers records first e).1)

returns-in_default : tie.Need-returns-in_default
returns-in_default c =
    let k = c.before in
    unread k.args.file.now (sym c.in_default.is ∙ k.check.ensures)

returns : tie.Need-returns
returns c =
    let n = c.in-Some in
    let k = c.before in
    read k.args.file.now n.day.headers n.day.records n.day.first (sym n.is ∙ k.check.ensures)

pub aez_day_records_spec : {M : Type 1} → statement M
aez_day_records_spec = tie.close (tie.spec
    (λ c κs. search rules)
    (λ c. search rules)
    (λ c. search rules)
    returns-in_default
    returns)
