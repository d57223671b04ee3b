-- One header and one record at a place of a file: each way in which the code leaves them is one case of the definition.
use mathlib.Core.Bool.{Bool, true, false, ◌&&◌}
use mathlib.Core.Option.{none}
use Rattle.std.specs.Prelude.{Result, Ok, Err}
use Rattle.std.specs.Result.{is_ok}
use mathlib.Core.Path.{◌≡◌, refl, ap, sym, ◌∙◌}
use Prim.Native.Nat.{ℕ, suc, ◌+◌, ◌-◌, ◌≤◌, ◌<◌}
use native.Mathlib.Omega.{arith}
use borrow.Author.Tests.{le-leb, lt-leb, lt-ltb, le-ltb}
use lib.Dec.{leb, ltb}
use lib.ListN.{length, get_or, take, drop, length-drop}
use lib.Seq.{drop-drop, get_or-drop}
use Rattle.paper.specs.Strings.{Bytes}
use Rattle.paper.specs.Document01.{reading}
use Rattle.paper.specs.DayFile.{value, header_fits, before, read_headers, read_records}
use Rattle.laws.proofs.DaySteps.{header_reads, header_past, header_unread, record_reads, record_past, record_outside}
use Rattle.answer.specs.declared.BadEntry.{BadEntry}
use Rattle.header.specs.Places.{read_as}
use Rattle.header.proofs.Fits.{reads_fits, bad_fits}
use Rattle.day_steps.specs.Walks.{entry_at, record_of}

-- ---- A header

module _ (f : Bytes) (at : ℕ) (inside : at ≤ length f) where
  rest_long : length (drop at f) ≡ length f - at
  rest_long = length-drop at f

  pub header_few : length f - at < 2 → (n : ℕ) → read_headers (suc n) (drop at f) ≡ none
  header_few p n = header_past n (drop at f) (value (take 2 (drop at f))) refl (omega (arith, rest_long))

  module _ (size : ℕ) (sized : size ≡ value (take 2 (drop at f))) (two : at + 2 ≤ length f) where
    pub header_long : length f - (at + 2) < size → (n : ℕ) → read_headers (suc n) (drop at f) ≡ none
    header_long p n = header_past n (drop at f) size (sym sized) (omega (arith, rest_long))

    -- the part of the file that is lent to the header's reader
    abbrev header_part : Bytes
    header_part = take (at + 2 + size - (at + 2)) (drop (at + 2) f)

    part_is : take size (drop 2 (drop at f)) ≡ header_part
    part_is = let own : size ≡ at + 2 + size - (at + 2) = omega arith in λ i. take (own i) (drop-drop 2 at f i)

    module _ (fits : size ≤ length f - (at + 2)) where
      fits_as : (r : Result ℕ BadEntry) → r ≡ read_as (reading header_part) → header_fits header_part ≡ is_ok r
      fits_as (Ok k) p = reads_fits header_part k p
      fits_as (Err k) p = bad_fits header_part k p

      pub header_bad : (r : Result ℕ BadEntry) → r ≡ read_as (reading header_part) → is_ok r ≡ false → (n : ℕ) → read_headers (suc n) (drop at f) ≡ none
      header_bad r p q n =
          header_unread n (drop at f) size (sym sized) (omega (arith, rest_long)) (ap header_fits part_is ∙ fits_as r p ∙ q)

      pub header_good : (r : Result ℕ BadEntry) → r ≡ read_as (reading header_part) → is_ok r ≡ true → (n : ℕ)
          → read_headers (suc n) (drop at f) ≡ before header_part (read_headers n (drop (at + 2 + size) f))
      header_good r p q n =
          let past : drop (2 + size) (drop at f) ≡ drop (at + 2 + size) f =
          drop-drop (2 + size) at f ∙ (let sum : at + (2 + size) ≡ at + 2 + size = omega arith in ap (λ (m : ℕ). drop m f) sum) in
          header_reads n (drop at f) size (sym sized) header_part (drop (at + 2 + size) f) part_is past (omega (arith, rest_long))
          (fits_as r p ∙ q)

-- ---- A record

and_none : (a : Bool) → (a && false) ≡ false
and_none true = refl
and_none false = refl

module _ (f : Bytes) (headers at : ℕ) (inside : at ≤ length f) where
  left_long : length (drop at f) ≡ length f - at
  left_long = length-drop at f

  pub record_few : length f - at < 7 → (n : ℕ) → read_records headers (suc n) (drop at f) ≡ none
  record_few p n = record_past headers n (drop at f) (value (take 4 (drop 3 (drop at f)))) refl (omega (arith, left_long))

  module _ (seven : 7 ≤ length f - at) where
    abbrev size : ℕ
    size = value (take 4 (drop (at + 3) f))

    sized : value (take 4 (drop 3 (drop at f))) ≡ size
    sized = ap (λ (X : Bytes). value (take 4 X)) (drop-drop 3 at f)

    pub record_long : length f < at + 7 + size → (n : ℕ) → read_records headers (suc n) (drop at f) ≡ none
    record_long p n = record_past headers n (drop at f) size sized (omega (arith, left_long))

    module _ (fits : at + 7 + size ≤ length f) where
      abbrev number : ℕ
      number = value (take 2 (drop at f))

      pub record_unnamed : headers ≤ number → (n : ℕ) → read_records headers (suc n) (drop at f) ≡ none
      record_unnamed p n =
          record_outside headers n (drop at f) size sized (omega (arith, left_long))
          (ap (λ (b : Bool). leb number 65535 && b && leb (get_or (drop at f) 2 0) 64) (le-ltb number headers p)
          ∙ ap (λ (b : Bool). b && leb (get_or (drop at f) 2 0) 64) (and_none (leb number 65535)))

      stretch_is : get_or (drop at f) 2 0 ≡ get_or f (at + 2) 0
      stretch_is = get_or-drop at f 2 0

      pub record_stretched : 64 < get_or f (at + 2) 0 → (n : ℕ) → read_records headers (suc n) (drop at f) ≡ none
      record_stretched p n =
          record_outside headers n (drop at f) size sized (omega (arith, left_long))
          (ap (λ (b : Bool). leb number 65535 && ltb number headers && b) (lt-leb (get_or (drop at f) 2 0) 64 (omega (arith, stretch_is)))
          ∙ and_none (leb number 65535 && ltb number headers))

      pub record_good : number < 65536 → number < headers → get_or f (at + 2) 0 ≤ 64 → (n : ℕ)
          → read_records headers (suc n) (drop at f) ≡ before (record_of f (entry_at f at)) (read_records headers n (drop (at + 7 + size) f))
      record_good p q r n =
          let own : size ≡ at + 7 + size - (at + 7) = omega arith in
          let sum : at + (7 + size) ≡ at + 7 + size = omega arith in
          record_reads headers n (drop at f) size sized (record_of f (entry_at f at)) (drop (at + 7 + size) f) refl stretch_is
          (λ i. take (own i) (drop-drop 7 at f i))
          (drop-drop (7 + size) at f ∙ ap (λ (m : ℕ). drop m f) sum)
          (omega (arith, left_long))
          (λ i. le-leb number 65535 (omega arith) i && lt-ltb number headers q i && le-leb (get_or f (at + 2) 0) 64 r i)
