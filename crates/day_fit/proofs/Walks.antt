-- A walk over the lists that a writer is handed: from each entry on, what the definition makes of the bytes that are left.
use mathlib.Core.Bool.{Bool, true, false, ◌&&◌, not}
use mathlib.Core.List.{List, [], ◌∷◌}
use mathlib.Core.Option.{Option, none, some}
use mathlib.Core.Path.{◌≡◌, refl, ap, sym, ◌∙◌}
use Prim.Native.Nat.{ℕ, ◌+◌, ◌≤◌, ◌<◌}
use native.Mathlib.Numerals.{add-one}
use native.Mathlib.Omega.{arith}
use borrow.Author.Tests.{le-leb, lt-leb, ne_eqb}
use lib.Dec.{leb, eqb}
use lib.ListN.{length, get_or, take, drop, drop_of_length-le}
use lib.Seq.{drop-cons, drop-drop, get_or-drop}
use Rattle.std.specs.Prelude.{Result, Ok, Err, if◌then◌else◌}
use Rattle.std.specs.Result.{is_err}
use Rattle.answer.specs.declared.BadEntry.{BadEntry}
use Rattle.header.specs.Places.{read_as}
use Rattle.header.proofs.Fits.{reads_fits, bad_fits}
use Rattle.paper.specs.Document01.{reading}
use Rattle.paper.specs.Strings.{Bytes}
use Rattle.paper.specs.DayFile.{Record, present, header_fits, record_fits, headers_of, in_front_of, records_of}

and_none : (a : Bool) → (a && false) ≡ false
and_none true = refl
and_none false = refl

-- the entries from i on are entry i and those after it
pub from_entry : (l : List ℕ) (i : ℕ) → i < length l → drop i l ≡ get_or l i 0 ∷ drop (i + 1) l
from_entry l i p = drop-cons l i 0 p ∙ ap (λ (k : ℕ). get_or l i 0 ∷ drop k l) (sym (add-one i))

-- where no entry is left
pub none_left : (l : List ℕ) (i : ℕ) → length l ≤ i → drop i l ≡ []
none_left l i p = drop_of_length-le l {i = i} p

present_front : {A : Type 0} (x : A) (o : Option (List A)) → present (in_front_of x o) ≡ present o
present_front x none = refl
present_front x (some xs) = refl

-- ---- Headers

-- a header fits just where it reads
pub fits_as_read : (h : Bytes) (r : Result ℕ BadEntry) → r ≡ read_as (reading h) → (b : Bool) → is_err r ≡ b → header_fits h ≡ not b
fits_as_read h (Ok n) e b q = reads_fits h n e ∙ ap not q
fits_as_read h (Err k) e b q = bad_fits h k e ∙ ap not q

module _ (ns : List ℕ) (i : ℕ) (X : Bytes) where
  abbrev n : ℕ
  n = get_or ns i 0

  abbrev others : Option (List Bytes)
  others = headers_of (drop (i + 1) ns) (drop n X)

  pub headers_by : (a b : Bool) → i < length ns → leb n (length X) ≡ a → header_fits (take n X) ≡ b
      → headers_of (drop i ns) X ≡ (if a && b then in_front_of (take n X) others else none)
  unfolding headers_of
  headers_by a b inside p q = ap (λ (l : List ℕ). headers_of l X) (from_entry ns i inside) ∙ (λ j. if p j && q j then in_front_of (take n X) others else none)

  pub header_turn : i < length ns → n ≤ length X → header_fits (take n X) ≡ true → present (headers_of (drop i ns) X) ≡ present others
  header_turn inside p q = ap present (headers_by true true inside (le-leb n (length X) p) q) ∙ present_front (take n X) others

  pub header_past : i < length ns → length X < n → present (headers_of (drop i ns) X) ≡ false
  header_past inside p = ap present (headers_by false (header_fits (take n X)) inside (lt-leb n (length X) p) refl)

  pub header_unfit : i < length ns → header_fits (take n X) ≡ false → present (headers_of (drop i ns) X) ≡ false
  header_unfit inside q =
      ap present (headers_by (leb n (length X)) false inside refl q)
      ∙ ap (λ (b : Bool). present (if b then in_front_of (take n X) others else none)) (and_none (leb n (length X)))

  -- after the last length no byte is left
  pub headers_end : length ns ≤ i → present (headers_of (drop i ns) X) ≡ eqb (length X) 0
  unfolding headers_of
  headers_end p = ap (λ (l : List ℕ). present (headers_of l X)) (none_left ns i p) ∙ go X
    where
      go : (Y : Bytes) → present (headers_of [] Y) ≡ eqb (length Y) 0
      go [] = refl
      go (y ∷ Y) = sym (ne_eqb (length (y ∷ Y)) 0 (λ e. absurd (omega (arith, e))))

-- ---- Records

module _ (headers : ℕ) (hs ts ns : List ℕ) (i : ℕ) (X : Bytes) where
  abbrev size : ℕ
  size = get_or ns i 0

  abbrev pub record_at : Record
  record_at = record { header = get_or hs i 0; stretch = get_or ts i 0; sealed = take size X }

  abbrev these : Option (List Record)
  these = records_of headers (drop i hs) (drop i ts) (drop i ns) X

  abbrev rest : Option (List Record)
  rest = records_of headers (drop (i + 1) hs) (drop (i + 1) ts) (drop (i + 1) ns) (drop size X)

  abbrev first_record : Record
  first_record = record { header = get_or (drop i hs) 0 0; stretch = get_or (drop i ts) 0 0; sealed = take size X }

  first_is : first_record ≡ record_at
  first_is =
      let here : i + 0 ≡ i = omega arith in
      λ j. record {
        header = (get_or-drop i hs 0 0 ∙ ap (λ (k : ℕ). get_or hs k 0) here) j;
        stretch = (get_or-drop i ts 0 0 ∙ ap (λ (k : ℕ). get_or ts k 0) here) j;
        sealed = take size X;
      }

  pub records_by : (a b : Bool) → i < length ns → leb size (length X) ≡ a → record_fits headers record_at ≡ b
      → these ≡ (if a && b then in_front_of record_at rest else none)
  unfolding records_of
  records_by a b inside p q =
      ap (λ (l : List ℕ). records_of headers (drop i hs) (drop i ts) l X) (from_entry ns i inside)
      ∙ (λ j. if p j && record_fits headers (first_is j) then in_front_of (first_is j) (records_of headers (drop-drop 1 i hs j) (drop-drop 1 i ts j) (drop (i + 1) ns) (drop size X)) else none)
      ∙ ap (λ (c : Bool). if a && c then in_front_of record_at rest else none) q

  pub record_turn : i < length ns → size ≤ length X → record_fits headers record_at ≡ true → present these ≡ present rest
  record_turn inside p q = ap present (records_by true true inside (le-leb size (length X) p) q) ∙ present_front record_at rest

  pub record_past : i < length ns → length X < size → present these ≡ false
  record_past inside p = ap present (records_by false (record_fits headers record_at) inside (lt-leb size (length X) p) refl)

  pub record_unfit : i < length ns → record_fits headers record_at ≡ false → present these ≡ false
  record_unfit inside q =
      ap present (records_by (leb size (length X)) false inside refl q)
      ∙ ap (λ (b : Bool). present (if b then in_front_of record_at rest else none)) (and_none (leb size (length X)))

  pub records_end : length ns ≤ i → present these ≡ eqb (length X) 0
  unfolding records_of
  records_end p = ap (λ (l : List ℕ). present (records_of headers (drop i hs) (drop i ts) l X)) (none_left ns i p) ∙ go X
    where
      go : (Y : Bytes) → present (records_of headers (drop i hs) (drop i ts) [] Y) ≡ eqb (length Y) 0
      go [] = refl
      go (y ∷ Y) = sym (ne_eqb (length (y ∷ Y)) 0 (λ e. absurd (omega (arith, e))))
