-- The file by its sections: what the definition reads, by what the walks found.
use mathlib.Core.Bool.{Bool, true, false, ◌&&◌}
use mathlib.Core.List.{List}
use mathlib.Core.Option.{Option, none, some}
use mathlib.Core.Path.{◌≡◌, refl, ap, sym, subst, ◌∙◌}
use Prim.Native.Nat.{ℕ, ◌+◌, ◌-◌, ◌*◌, ◌≤◌, ◌<◌}
use native.Mathlib.Omega.{arith}
use borrow.Author.Tests.{le-leb, lt-leb}
use lib.Dec.{leb}
use lib.ListN.{length, take, drop, length-append, length-drop}
use lib.Seq.{drop-drop}
use Rattle.std.specs.Prelude.{if◌then◌else◌, Some, None}
use Rattle.paper.specs.Strings.{Bytes, Below, same, digits}
use Rattle.paper.specs.Document01.{write_strings}
use Rattle.paper.specs.DayFile.{Record, write_records, first_place, places_from, write_places, write_index, longest_file, value, read_headers, read_records, read_index, read_rest, read_day}
use Rattle.laws.proofs.Digits.{below_drop}
use Rattle.laws.proofs.Sealing.{same_equal}
use Rattle.laws.proofs.DayWritten.{first_place_lem, places_many, places_long}
use Rattle.laws.proofs.DayReading.{IfHeaders, HeadersWritten, headers_written_lem, IfRecords, RecordsWritten, records_written_lem}
use Rattle.day.specs.declared.Day.{Day as Counts}
use Rattle.day.specs.Checks.{index_from, right_index, checked_as}

pub file_few : (f : Bytes) → length f < 4 → None ≡ checked_as (read_day f)
unfolding read_day
file_few f p =
    ap checked_as
    (ap (λ (b : Bool). if b && leb (length f) longest_file then read_rest (read_headers (value (take 4 f)) (drop 4 f)) else none) (sym (lt-leb 4 (length f) p)))

pub file_long : (f : Bytes) → 65536 < length f → None ≡ checked_as (read_day f)
unfolding read_day
file_long f p =
    ap checked_as
    (λ i. if sym (le-leb 4 (length f) (omega arith)) i && sym (lt-leb (length f) longest_file p) i then read_rest (read_headers (value (take 4 f)) (drop 4 f)) else none)

module _ (f : Bytes) (low : Below 256 f) (four : 4 ≤ length f) (short : length f ≤ 65536) (n : ℕ) (count : n ≡ value (take 4 f)) where
  -- by the headers
  by_headers : read_day f ≡ read_rest (read_headers n (drop 4 f))
  unfolding read_day
  by_headers =
      (λ i. if le-leb 4 (length f) four i && le-leb (length f) longest_file short i then read_rest (read_headers (value (take 4 f)) (drop 4 f)) else none)
      ∙ ap (λ (k : ℕ). read_rest (read_headers k (drop 4 f))) (sym count)

  pub headers_bad : read_headers n (drop 4 f) ≡ none → None ≡ checked_as (read_day f)
  unfolding read_rest
  headers_bad e = ap checked_as (sym (by_headers ∙ ap read_rest e))

  module _ (end : ℕ) (inside : end ≤ length f) (hs : List Bytes) (reads : read_headers n (drop 4 f) ≡ some (hs, drop end f)) where
    walked : HeadersWritten n (drop 4 f) hs (drop end f)
    walked = subst (IfHeaders n (drop 4 f)) reads (headers_written_lem n (drop 4 f) (below_drop 256 4 f low))

    -- the first record stands after the headers and the records' count
    first_is : end + 4 ≡ first_place hs
    first_is =
        omega
        (arith, first_place_lem hs, ap length walked.bytes, length-append (write_strings hs) (drop end f), length-drop 4 f, length-drop end f)

    pub records_few : length f - end < 4 → None ≡ checked_as (read_day f)
    unfolding read_rest
    records_few p =
        ap checked_as
        (sym
        (by_headers
        ∙ ap read_rest reads
        ∙ ap (λ (b : Bool). if b then read_index hs (read_records (length hs) (value (take 4 (drop end f))) (drop 4 (drop end f))) else none)
        (lt-leb 4 (length (drop end f)) (omega (arith, length-drop end f)))))

    module _ (more : 4 ≤ length f - end) (m : ℕ) (many : m ≡ value (take 4 (drop end f))) where
      abbrev counts : Counts
      counts = record { headers = n; records = m; first = end + 4 }

      abbrev read : Option (List Record × Bytes)
      read = read_records n m (drop (end + 4) f)

      by_records : read_day f ≡ read_index hs read
      unfolding read_rest
      by_records =
          by_headers
          ∙ ap read_rest reads
          ∙ ap (λ (b : Bool). if b then read_index hs (read_records (length hs) (value (take 4 (drop end f))) (drop 4 (drop end f))) else none)
          (le-leb 4 (length (drop end f)) (omega (arith, length-drop end f)))
          ∙ (λ i. read_index hs (read_records (walked.count i) (sym many i) (drop-drop 4 end f i)))

      -- by the index
      by_index : (b : Bool) → right_index (end + 4) read ≡ b → checked_as (read_day f) ≡ (if b then Some counts else None)
      unfolding read_index write_index
      by_index b e =
          ap checked_as by_records
          ∙ go read (records_written_lem n m (drop (end + 4) f) (below_drop 256 (end + 4) f low)) b (sym (ap (λ (k : ℕ). right_index k read) first_is) ∙ e)
        where
          go : (o : Option (List Record × Bytes)) → IfRecords n m (drop (end + 4) f) o → (b : Bool) → right_index (first_place hs) o ≡ b
              → checked_as (read_index hs o) ≡ (if b then Some counts else None)
          go none w true e = cc
          go none w false e = refl
          go (some (rs, rest)) w true e =
              ap (λ (b : Bool). checked_as (if b then some (record { headers = hs; records = rs }) else none)) e
              ∙ (λ i. Some (record { headers = walked.count i; records = w.count i; first = sym first_is i }))
          go (some (rs, rest)) w false e = ap (λ (b : Bool). checked_as (if b then some (record { headers = hs; records = rs }) else none)) e

      pub file_reads : right_index (end + 4) read ≡ true → Some counts ≡ checked_as (read_day f)
      file_reads e = sym (by_index true e)

      pub file_bad : right_index (end + 4) read ≡ false → None ≡ checked_as (read_day f)
      file_bad e = sym (by_index false e)

      -- more records than the file has room for in its index
      pub too_many : length f < 4 * m → None ≡ checked_as (read_day f)
      too_many p = file_bad (go read (records_written_lem n m (drop (end + 4) f) (below_drop 256 (end + 4) f low)))
        where
          differs : (rs : List Record) (rest : Bytes) → RecordsWritten n m (drop (end + 4) f) rs rest → (b : Bool) → same rest (index_from (end + 4) rs) ≡ b → b ≡ false
          differs rs rest w true e =
              let entries = write_places (places_from (end + 4) rs) in
              absurd
              (omega
              (arith, ap length (same_equal rest (index_from (end + 4) rs) e), length-append (digits 256 4 (length rs)) entries, places_long (places_from (end + 4) rs), places_many (end + 4) rs, w.count, ap length w.bytes, length-append (write_records rs) rest, length-drop (end + 4) f))
          differs rs rest w false e = refl

          go : (o : Option (List Record × Bytes)) → IfRecords n m (drop (end + 4) f) o → right_index (end + 4) o ≡ false
          go none w = refl
          go (some (rs, rest)) w = differs rs rest w (same rest (index_from (end + 4) rs)) refl
