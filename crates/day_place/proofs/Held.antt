-- A file that reads, and what the check counted in it.
use mathlib.Core.Option.{Option, none, some}
use mathlib.Core.Path.{◌≡◌, refl}
use Prim.Native.Nat.{ℕ}
use native.Mathlib.Omega.{arith}
use lib.ListN.{length}
use Rattle.paper.specs.Strings.{Bytes}
use Rattle.paper.specs.DayFile.{Day, first_place, read_day}
use Rattle.std.specs.Prelude.{Some}
use Rattle.day.specs.Checks.{checked_as, checked_day}
use Rattle.day.proofs.Found.{counts_are}

pub record Counted (file : Bytes) (headers records first : ℕ) : Type 0 where
  pub day : Day
  pub reads : read_day file ≡ some day
  pub headers_are : headers ≡ length day.headers
  pub records_are : records ≡ length day.records
  pub first_is : first ≡ first_place day.headers

pub counted : (file : Bytes) (headers records first : ℕ) → Some (checked_day headers records first) ≡ checked_as (read_day file) → Counted file headers records first
counted file headers records first e = go (read_day file) refl e
  where
    go : (o : Option Day) → read_day file ≡ o → Some (checked_day headers records first) ≡ checked_as o → Counted file headers records first
    go none p e = absurd (let z : ◌≡◌ {A = ℕ} 0 1 = cc in omega arith)
    go (some day) p e = let c = counts_are day headers records first e in record { day = day; reads = p; headers_are = c.0; records_are = c.1; first_is = c.2 }
