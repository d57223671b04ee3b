-- One header and one record of a day file: where each reads, the definition goes on with the rest, and where it does not, nothing reads.
use mathlib.Core.Bool.{Bool, true, false, ◌&&◌}
use mathlib.Core.List.{List}
use mathlib.Core.Option.{Option, none}
use mathlib.Core.Path.{◌≡◌, ap, ◌∙◌}
use Prim.Native.Nat.{ℕ, suc, ◌+◌, ◌≤◌, ◌<◌}
use borrow.Author.Tests.{le-leb, lt-leb}
use lib.Dec.{leb}
use lib.ListN.{length, get_or, take, drop}
use Rattle.std.specs.Prelude.{if◌then◌else◌}
use Rattle.paper.specs.Strings.{Bytes}
use Rattle.paper.specs.DayFile.{Record, value, header_fits, record_fits, before, read_headers, read_records}

-- ---- A header of so many bytes

module _ (n : ℕ) (X : Bytes) (size : ℕ) (sized : value (take 2 X) ≡ size) where
  abbrev header_by : ℕ → Option (List Bytes × Bytes)
  header_by k = if leb (2 + k) (length X) && header_fits (take k (drop 2 X)) then before (take k (drop 2 X)) (read_headers n (drop (2 + k) X)) else none

  header_sized : read_headers (suc n) X ≡ header_by size
  unfolding read_headers
  header_sized = ap header_by sized

  pub header_reads : (h rest : Bytes) → take size (drop 2 X) ≡ h → drop (2 + size) X ≡ rest → 2 + size ≤ length X → header_fits h ≡ true
      → read_headers (suc n) X ≡ before h (read_headers n rest)
  header_reads h rest e f p q =
      header_sized
      ∙ (λ i. if le-leb (2 + size) (length X) p i && header_fits (e i) then before (e i) (read_headers n (f i)) else none)
      ∙ ap (λ (b : Bool). if b then before h (read_headers n rest) else none) q

  pub header_past : length X < 2 + size → read_headers (suc n) X ≡ none
  header_past p =
      header_sized
      ∙ ap (λ (b : Bool). if b && header_fits (take size (drop 2 X)) then before (take size (drop 2 X)) (read_headers n (drop (2 + size) X)) else none)
      (lt-leb (2 + size) (length X) p)

  pub header_unread : 2 + size ≤ length X → header_fits (take size (drop 2 X)) ≡ false → read_headers (suc n) X ≡ none
  header_unread p q =
      header_sized
      ∙ (λ i. if le-leb (2 + size) (length X) p i && q i then before (take size (drop 2 X)) (read_headers n (drop (2 + size) X)) else none)

-- ---- A record of so many sealed bytes

module _ (headers n : ℕ) (X : Bytes) (size : ℕ) (sized : value (take 4 (drop 3 X)) ≡ size) where
  abbrev record_of_lem : ℕ → Record
  record_of_lem k = record { header = value (take 2 X); stretch = get_or X 2 0; sealed = take k (drop 7 X) }

  abbrev record_by : ℕ → Option (List Record × Bytes)
  record_by k = if leb (7 + k) (length X) && record_fits headers (record_of_lem k) then before (record_of_lem k) (read_records headers n (drop (7 + k) X)) else none

  record_sized : read_records headers (suc n) X ≡ record_by size
  unfolding read_records
  record_sized = ap record_by sized

  pub record_reads : (r : Record) (rest : Bytes) → value (take 2 X) ≡ r.header → get_or X 2 0 ≡ r.stretch → take size (drop 7 X) ≡ r.sealed
      → drop (7 + size) X ≡ rest → 7 + size ≤ length X → record_fits headers r ≡ true → read_records headers (suc n) X ≡ before r (read_records headers n rest)
  record_reads r rest a b c f p q =
      let is : record_of_lem size ≡ r = λ i. record { header = a i; stretch = b i; sealed = c i } in
      record_sized
      ∙ (λ i. if le-leb (7 + size) (length X) p i && record_fits headers (is i) then before (is i) (read_records headers n (f i)) else none)
      ∙ ap (λ (b : Bool). if b then before r (read_records headers n rest) else none) q

  pub record_past : length X < 7 + size → read_records headers (suc n) X ≡ none
  record_past p =
      record_sized
      ∙ ap (λ (b : Bool). if b && record_fits headers (record_of_lem size) then before (record_of_lem size) (read_records headers n (drop (7 + size) X)) else none)
      (lt-leb (7 + size) (length X) p)

  pub record_outside : 7 + size ≤ length X → record_fits headers (record_of_lem size) ≡ false → read_records headers (suc n) X ≡ none
  record_outside p q =
      record_sized
      ∙ (λ i. if le-leb (7 + size) (length X) p i && q i then before (record_of_lem size) (read_records headers n (drop (7 + size) X)) else none)
