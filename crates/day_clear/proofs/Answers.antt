-- The answers of clearing.
use mathlib.Core.Bool.{Bool, true, false}
use mathlib.Core.List.{List}
use mathlib.Core.Option.{Option, none, some}
use mathlib.Core.Path.{◌≡◌, refl, ap, sym, ◌∙◌}
use Prim.Native.Nat.{ℕ, ◌≤◌, ◌<◌}
use borrow.Author.Tests.{lt-ltb, le-ltb}
use lib.ListN.{length, take}
use Rattle.std.specs.Prelude.{if◌then◌else◌}
use Rattle.paper.specs.Strings.{Bytes}
use Rattle.paper.specs.Document01.{Outcome, refused}
use Rattle.paper.specs.DayFile.{Day, write_day, read_day}
use Rattle.paper.specs.DayEdits.{cleared, rising_from, shrunk, clear_in, clearing}
use Rattle.std.specs.Prelude.{None}
use Rattle.day.specs.Checks.{checked_as}
use Rattle.day_place.proofs.Held.{Counted}
use Rattle.day_pack.specs.Cleared.{Clearable, cleared_file, cleared_buffer}

module _ (B : Bytes) (size : ℕ) (dropped : List ℕ) where
  abbrev called : Outcome
  called = clearing B size dropped

  inside : size ≤ length B → clear_in (read_day (take size B)) size dropped B ≡ called
  unfolding clearing
  inside p = ap (λ (b : Bool). if b then refused 9 B else clear_in (read_day (take size B)) size dropped B) (sym (le-ltb (length B) size p))

  pub past_buffer : length B < size → refused 9 B ≡ called
  unfolding clearing
  past_buffer p = ap (λ (b : Bool). if b then refused 9 B else clear_in (read_day (take size B)) size dropped B) (sym (lt-ltb (length B) size p))

  pub unread : size ≤ length B → None ≡ checked_as (read_day (take size B)) → refused 9 B ≡ called
  unfolding clear_in
  unread p e = go (read_day (take size B)) e ∙ inside p
    where
      go : (o : Option Day) → None ≡ checked_as o → refused 9 B ≡ clear_in o size dropped B
      go none e = refl
      go (some day) e = cc

  module _ (within : size ≤ length B) (headers records first : ℕ) (k : Counted (take size B) headers records first) where
    abbrev by : Bool → Outcome
    by b = if b then shrunk (write_day (cleared dropped k.day)) size B else refused 17 B

    by_list : {b : Bool} → b ≡ rising_from 0 records dropped → by b ≡ called
    unfolding clear_in
    by_list e =
        ap by (e ∙ ap (λ (n : ℕ). rising_from 0 n dropped) k.records_are)
        ∙ sym (ap (λ (o : Option Day). clear_in o size dropped B) k.reads)
        ∙ inside within

    pub unlisted : false ≡ rising_from 0 records dropped → refused 17 B ≡ called
    unlisted e = by_list e

    module _ (rises : true ≡ rising_from 0 records dropped) where
      pub clearable : Clearable B size headers records first dropped
      clearable = record {
        day = k.day;
        inside = within;
        reads = k.reads;
        headers_are = k.headers_are;
        records_are = k.records_are;
        first_is = k.first_is;
        rises = sym rises;
      }

      pub cleared_out : (n : ℕ) (exit : Bytes) → n ≡ length (cleared_file (read_day (take size B)) dropped) → exit ≡ cleared_buffer (cleared_file (read_day (take size B)) dropped) size B
          → record { number = 0; size = n; output = exit } ≡ called
      cleared_out n exit e f =
          let file : cleared_file (read_day (take size B)) dropped ≡ write_day (cleared dropped k.day) = ap (λ (o : Option Day). cleared_file o dropped) k.reads in
          (λ i. record { number = 0; size = (e ∙ ap length file) i; output = (f ∙ ap (λ (w : Bytes). cleared_buffer w size B) file) i }) ∙ by_list rises
