-- THE DAY FILE. What is written of a day within the layout reads back the same, and what reads is exactly what is written of what it reads as:
-- so two files that read as the same day are equal.
use mathlib.Core.Bool.{Bool, true, false, ◌&&◌}
use mathlib.Core.List.{List, [], ◌∷◌, ◌++◌, append_assoc}
use mathlib.Core.Option.{Option, none, some}
use mathlib.Core.Path.{◌≡◌, refl, ap, ap₂, sym, subst, ◌∙◌}
use Prim.Native.Nat.{ℕ, zero, suc, ◌+◌, ◌≤◌, ◌<◌}
use native.Mathlib.Omega.{arith}
use borrow.Author.Tests.{leb-true, ltb-true, le-leb}
use lib.Dec.{leb, ltb}
use lib.ListN.{length, get_or, take, drop, length-append, length-drop, take-append-drop}
use lib.Seq.{length-take-le, take_at, drop_at, take-append_seam, drop-append_seam, drop-drop}
use Rattle.std.specs.Prelude.{if◌then◌else◌}
use Rattle.paper.specs.Strings.{Bytes, Below, same, digits}
use Rattle.paper.specs.Document01.{write_strings}
use Rattle.paper.specs.DayFile.{Record, Day, write_record, write_records, write_index, write_day, longest_file, value, header_fits, record_fits, before, read_headers, read_records, read_index, read_rest, read_day}
use Rattle.laws.proofs.BitStrings.{length_digits}
use Rattle.laws.proofs.Digits.{below_take, below_drop}
use Rattle.laws.proofs.Sealing.{same_itself, and_true, same_equal}
use Rattle.laws.proofs.DayNumbers.{value_two, value_four, digits_two, digits_four}
use Rattle.laws.proofs.DaySteps.{header_reads, record_reads}
use Rattle.laws.proofs.DayWritten.{HeadersFit, RecordsFit, Layout, strings_then, records_then, day_then, strings_long, records_long, headers_few, records_few, first_place_lem, day_long}

-- ---- What is written reads back

headers_read : (hs : List Bytes) (X : Bytes) → HeadersFit hs → length (write_strings hs) < 65536 → read_headers (length hs) (write_strings hs ++ X) ≡ some (hs, X)
unfolding read_headers write_strings
headers_read [] X p q = refl
headers_read (h ∷ hs) X p q =
    let d = digits 256 2 (length h) in
    let rest = write_strings hs ++ X in
    let two : length d ≡ 2 = length_digits 256 2 (length h) in
    let short : length h < 65536 = omega (arith, strings_long h hs) in
    let sized : value (take 2 (d ++ (h ++ rest))) ≡ length h = ap value (take_at d (h ++ rest) 2 two) ∙ value_two (length h) short in
    let past : drop (2 + length h) (d ++ (h ++ rest)) ≡ rest =
    sym (drop-drop (length h) 2 (d ++ (h ++ rest))) ∙ ap (drop (length h)) (drop_at d (h ++ rest) 2 two) ∙ drop-append_seam h rest in
    let own : take (length h) (drop 2 (d ++ (h ++ rest))) ≡ h = ap (take (length h)) (drop_at d (h ++ rest) 2 two) ∙ take-append_seam h rest in
    ap (read_headers (length (h ∷ hs))) (strings_then h hs X)
    ∙ header_reads (length hs) (d ++ (h ++ rest)) (length h) sized h rest own past (omega (arith, length-append d (h ++ rest), length-append h rest)) p.0
    ∙ ap (before h) (headers_read hs X p.1 (omega (arith, strings_long h hs)))

record_read : (headers n : ℕ) (r : Record) (X : Bytes) → record_fits headers r ≡ true → r.header < 65536 → length r.sealed < 65536
    → read_records headers (suc n) (write_record r ++ X) ≡ before r (read_records headers n X)
unfolding write_record digits
record_read headers n r X fits p q =
    let past : drop (7 + length r.sealed) (write_record r ++ X) ≡ X =
    sym (drop-drop (length r.sealed) 7 (write_record r ++ X)) ∙ drop-append_seam r.sealed X in
    record_reads headers n (write_record r ++ X) (length r.sealed) (value_four (length r.sealed) (omega arith)) r X
    (value_two r.header p) refl (take-append_seam r.sealed X) past (omega (arith, length-append r.sealed X)) fits

-- a record within the layout names a header by two bytes, one of the headers, and its stretch is at most 64
pub record_fits_lem : (headers : ℕ) (r : Record) → record_fits headers r ≡ true → (r.header < 65536) × (r.header < headers) × (r.stretch ≤ 64)
record_fits_lem headers r e =
    let number = leb r.header 65535 in
    let named = ltb r.header headers in
    let all = and_true (number && named) (leb r.stretch 64) e in
    let two = and_true number named all.0 in
    (omega (arith, leb-true r.header 65535 two.0), ltb-true r.header headers two.1, leb-true r.stretch 64 all.1)

records_read : (headers : ℕ) (rs : List Record) (X : Bytes) → RecordsFit headers rs → length (write_records rs) < 65536
    → read_records headers (length rs) (write_records rs ++ X) ≡ some (rs, X)
unfolding read_records write_records
records_read headers [] X p q = refl
records_read headers (r ∷ rs) X p q =
    ap (read_records headers (length (r ∷ rs))) (records_then r rs X)
    ∙ record_read headers (length rs) r (write_records rs ++ X) p.0 (record_fits_lem headers r p.0).0 (omega (arith, records_long r rs))
    ∙ ap (before r) (records_read headers rs X p.1 (omega (arith, records_long r rs)))

-- a choice by a test that holds
chosen : {A : Type 0} {b : Bool} (x y : A) → b ≡ true → (if b then x else y) ≡ x
chosen x y p = λ i. if p i then x else y

-- what is written of a day within the layout reads back as that day
pub write_read : (day : Day) → Layout day → read_day (write_day day) ≡ some day
unfolding read_day read_rest read_index
write_read day fits =
    let c = digits 256 4 (length day.headers) in
    let d = digits 256 4 (length day.records) in
    let x = write_index day in
    let third = write_records day.records ++ x in
    let second = write_strings day.headers ++ (d ++ third) in
    let four : length c ≡ 4 = length_digits 256 4 (length day.headers) in
    let four' : length d ≡ 4 = length_digits 256 4 (length day.records) in
    let long = day_long day in
    let heads : length (write_strings day.headers) < 65536 = omega (arith, long, fits.short, first_place_lem day.headers) in
    let recs : length (write_records day.records) < 65536 = omega (arith, long, fits.short, first_place_lem day.headers) in
    let count : value (take 4 (c ++ second)) ≡ length day.headers =
    ap value (take_at c second 4 four) ∙ value_four (length day.headers) (omega (arith, headers_few day.headers)) in
    let count' : value (take 4 (d ++ third)) ≡ length day.records =
    ap value (take_at d third 4 four') ∙ value_four (length day.records) (omega (arith, records_few day.records)) in
    chosen (read_rest (read_headers (value (take 4 (write_day day))) (drop 4 (write_day day)))) none
    (ap₂ ◌&&◌ (le-leb 4 (length (write_day day)) (omega (arith, long))) (le-leb (length (write_day day)) longest_file fits.short))
    ∙ ap (λ (f : Bytes). read_rest (read_headers (value (take 4 f)) (drop 4 f))) (day_then day)
    ∙ (λ i. read_rest (read_headers (count i) (drop_at c second 4 four i)))
    ∙ ap read_rest (headers_read day.headers (d ++ third) fits.headers_fit heads)
    ∙ chosen (read_index day.headers (read_records (length day.headers) (value (take 4 (d ++ third))) (drop 4 (d ++ third)))) none
    (le-leb 4 (length (d ++ third)) (omega (arith, length-append d third)))
    ∙ (λ i. read_index day.headers (read_records (length day.headers) (count' i) (drop_at d third 4 four' i)))
    ∙ ap (read_index day.headers) (records_read (length day.headers) day.records x fits.records_fit recs)
    ∙ chosen (some day) none (same_itself x)

-- ---- What reads was written

-- hs are n headers within the layout, and X is what is written of them, and then the rest
pub record HeadersWritten (n : ℕ) (X : Bytes) (hs : List Bytes) (rest : Bytes) : Type 0 where
  pub count : length hs ≡ n
  pub bytes : write_strings hs ++ rest ≡ X
  pub each : HeadersFit hs

abbrev pub IfHeaders : ℕ → Bytes → Option (List Bytes × Bytes) → Type 0
IfHeaders n X none = Unit {0}
IfHeaders n X (some (hs, rest)) = HeadersWritten n X hs rest

-- X is its first two bytes, so many more, and what follows them
cut_two : (X : Bytes) (size : ℕ) → take 2 X ++ (take size (drop 2 X) ++ drop (2 + size) X) ≡ X
cut_two X size =
    ap (λ (r : Bytes). take 2 X ++ (take size (drop 2 X) ++ r)) (sym (drop-drop size 2 X))
    ∙ ap (λ (r : Bytes). take 2 X ++ r) (take-append-drop size (drop 2 X))
    ∙ take-append-drop 2 X

pub headers_written_lem : (n : ℕ) (X : Bytes) → Below 256 X → IfHeaders n X (read_headers n X)
unfolding read_headers write_strings
headers_written_lem zero X p = record { count = refl; bytes = refl; each = tt }
headers_written_lem (suc n) X p =
    go (leb (2 + size) (length X)) refl (header_fits header) refl (read_headers n (drop (2 + size) X)) (headers_written_lem n (drop (2 + size) X) (below_drop 256 (2 + size) X p))
  where
    size : ℕ
    size = value (take 2 X)

    header : Bytes
    header = take size (drop 2 X)

    go : (a : Bool) → leb (2 + size) (length X) ≡ a → (b : Bool) → header_fits header ≡ b → (o : Option (List Bytes × Bytes)) → IfHeaders n (drop (2 + size) X) o
        → IfHeaders (suc n) X (if a && b then before header o else none)
    go true e true f none r = tt
    go true e true f (some (hs, rest)) r =
        let fits : 2 + size ≤ length X = leb-true (2 + size) (length X) e in
        let long : length header ≡ size = length-take-le size (drop 2 X) (omega (arith, length-drop 2 X)) in
        let two : digits 256 2 (length header) ≡ take 2 X =
        ap (digits 256 2) long ∙ digits_two (take 2 X) (length-take-le 2 X (omega arith)) (below_take 256 2 X p) in
        record {
          count = ap suc r.count;
          bytes = strings_then header hs rest ∙ ap₂ (λ (d t : Bytes). d ++ (header ++ t)) two r.bytes ∙ cut_two X size;
          each = (f, r.each);
        }
    go true e false f o r = tt
    go false e b f o r = tt

-- rs are n records within the layout, and X is what is written of them, and then the rest
pub record RecordsWritten (headers n : ℕ) (X : Bytes) (rs : List Record) (rest : Bytes) : Type 0 where
  pub count : length rs ≡ n
  pub bytes : write_records rs ++ rest ≡ X
  pub each : RecordsFit headers rs

abbrev pub IfRecords : ℕ → ℕ → Bytes → Option (List Record × Bytes) → Type 0
IfRecords headers n X none = Unit {0}
IfRecords headers n X (some (rs, rest)) = RecordsWritten headers n X rs rest

-- X is its first seven bytes, and what follows them
seven : (X : Bytes) → 7 ≤ length X → take 2 X ++ get_or X 2 0 ∷ take 4 (drop 3 X) ++ drop 7 X ≡ X
seven [] p = absurd (omega arith)
seven (a ∷ []) p = absurd (omega arith)
seven (a ∷ b ∷ []) p = absurd (omega arith)
seven (a ∷ b ∷ c ∷ []) p = absurd (omega arith)
seven (a ∷ b ∷ c ∷ d ∷ []) p = absurd (omega arith)
seven (a ∷ b ∷ c ∷ d ∷ e ∷ []) p = absurd (omega arith)
seven (a ∷ b ∷ c ∷ d ∷ e ∷ f ∷ []) p = absurd (omega arith)
seven (a ∷ b ∷ c ∷ d ∷ e ∷ f ∷ g ∷ X) p = refl

-- a record that reads, and what follows it
record_written : (X : Bytes) (size : ℕ) → value (take 4 (drop 3 X)) ≡ size → 7 + size ≤ length X → Below 256 X → (rest : Bytes) → rest ≡ drop (7 + size) X
    → write_record (record { header = value (take 2 X); stretch = get_or X 2 0; sealed = take size (drop 7 X) }) ++ rest ≡ X
unfolding write_record
record_written X size sized p low rest e =
    let sealed = take size (drop 7 X) in
    let long : length sealed ≡ size = length-take-le size (drop 7 X) (omega (arith, length-drop 7 X)) in
    let two : digits 256 2 (value (take 2 X)) ≡ take 2 X = digits_two (take 2 X) (length-take-le 2 X (omega arith)) (below_take 256 2 X low) in
    let four : digits 256 4 (length sealed) ≡ take 4 (drop 3 X) =
    ap (digits 256 4) (long ∙ sym sized) ∙ digits_four (take 4 (drop 3 X)) (length-take-le 4 (drop 3 X) (omega (arith, length-drop 3 X))) (below_take 256 4 (drop 3 X) (below_drop 256 3 X low)) in
    let front = take 2 X ++ get_or X 2 0 ∷ take 4 (drop 3 X) in
    (λ i. two i ++ get_or X 2 0 ∷ four i ++ sealed ++ e i)
    ∙ append_assoc front sealed (drop (7 + size) X)
    ∙ ap (λ (r : Bytes). front ++ (sealed ++ r)) (sym (drop-drop size 7 X))
    ∙ ap (λ (r : Bytes). front ++ r) (take-append-drop size (drop 7 X))
    ∙ seven X (omega arith)

pub records_written_lem : (headers n : ℕ) (X : Bytes) → Below 256 X → IfRecords headers n X (read_records headers n X)
unfolding read_records write_records
records_written_lem headers zero X p = record { count = refl; bytes = refl; each = tt }
records_written_lem headers (suc n) X p =
    go (leb (7 + size) (length X)) refl (record_fits headers r) refl (read_records headers n (drop (7 + size) X)) (records_written_lem headers n (drop (7 + size) X) (below_drop 256 (7 + size) X p))
  where
    size : ℕ
    size = value (take 4 (drop 3 X))

    r : Record
    r = record { header = value (take 2 X); stretch = get_or X 2 0; sealed = take size (drop 7 X) }

    go : (a : Bool) → leb (7 + size) (length X) ≡ a → (b : Bool) → record_fits headers r ≡ b → (o : Option (List Record × Bytes)) → IfRecords headers n (drop (7 + size) X) o
        → IfRecords headers (suc n) X (if a && b then before r o else none)
    go true e true f none w = tt
    go true e true f (some (rs, rest)) w =
        record {
          count = ap suc w.count;
          bytes = records_then r rs rest ∙ record_written X size refl (leb-true (7 + size) (length X) e) p (write_records rs ++ rest) w.bytes;
          each = (f, w.each);
        }
    go true e false f o w = tt
    go false e b f o w = tt

-- the file is what is written of the day, which is within the layout
pub record Written (file : Bytes) (day : Day) : Type 0 where
  pub bytes : write_day day ≡ file
  pub within : Layout day

abbrev IfDay : Bytes → Option Day → Type 0
IfDay file none = Unit {0}
IfDay file (some day) = Written file day

module _ (file : Bytes) (low : Below 256 file) (enough : 4 ≤ length file) (short : length file ≤ longest_file) (hs : List Bytes) (X : Bytes) (heads : HeadersWritten (value (take 4 file)) (drop 4 file) hs X) where
  low_rest : Below 256 X
  low_rest = subst (Below 256) (drop-append_seam (write_strings hs) X) (below_drop 256 (length (write_strings hs)) (write_strings hs ++ X) (subst (Below 256) (sym heads.bytes) (below_drop 256 4 file low)))

  whole : (rs : List Record) (rest : Bytes) → 4 ≤ length X → RecordsWritten (length hs) (value (take 4 X)) (drop 4 X) rs rest
      → rest ≡ write_index (record { headers = hs; records = rs }) → write_day (record { headers = hs; records = rs }) ≡ file
  whole rs rest more w e =
      let c : digits 256 4 (length hs) ≡ take 4 file =
      ap (digits 256 4) heads.count ∙ digits_four (take 4 file) (length-take-le 4 file enough) (below_take 256 4 file low) in
      let d : digits 256 4 (length rs) ≡ take 4 X =
      ap (digits 256 4) w.count ∙ digits_four (take 4 X) (length-take-le 4 X more) (below_take 256 4 X low_rest) in
      let third : write_records rs ++ write_index (record { headers = hs; records = rs }) ≡ drop 4 X = ap (λ (x : Bytes). write_records rs ++ x) (sym e) ∙ w.bytes in
      day_then (record { headers = hs; records = rs })
      ∙ (λ i. c i ++ (write_strings hs ++ (d i ++ third i)))
      ∙ ap (λ (x : Bytes). take 4 file ++ (write_strings hs ++ x)) (take-append-drop 4 X)
      ∙ ap (λ (x : Bytes). take 4 file ++ x) heads.bytes
      ∙ take-append-drop 4 file

  at_index : (rs : List Record) (rest : Bytes) → 4 ≤ length X → RecordsWritten (length hs) (value (take 4 X)) (drop 4 X) rs rest
      → (b : Bool) → same rest (write_index (record { headers = hs; records = rs })) ≡ b
      → IfDay file (if b then some (record { headers = hs; records = rs }) else none)
  at_index rs rest more w true e =
      let is = whole rs rest more w (same_equal rest _ e) in
      record { bytes = is; within = record { headers_fit = heads.each; records_fit = w.each; short = omega (arith, ap length is) } }
  at_index rs rest more w false e = tt

  at_records : 4 ≤ length X → (o : Option (List Record × Bytes)) → IfRecords (length hs) (value (take 4 X)) (drop 4 X) o → IfDay file (read_index hs o)
  unfolding read_index
  at_records more none w = tt
  at_records more (some (rs, rest)) w = at_index rs rest more w (same rest (write_index (record { headers = hs; records = rs }))) refl

  at_count : (b : Bool) → leb 4 (length X) ≡ b → IfDay file (if b then read_index hs (read_records (length hs) (value (take 4 X)) (drop 4 X)) else none)
  at_count true e = at_records (leb-true 4 (length X) e) (read_records (length hs) (value (take 4 X)) (drop 4 X)) (records_written_lem (length hs) (value (take 4 X)) (drop 4 X) (below_drop 256 4 X low_rest))
  at_count false e = tt

day_written : (file : Bytes) → Below 256 file → IfDay file (read_day file)
unfolding read_day read_rest
day_written file low = go (leb 4 (length file)) refl (leb (length file) longest_file) refl (read_headers n (drop 4 file)) (headers_written_lem n (drop 4 file) (below_drop 256 4 file low))
  where
    n : ℕ
    n = value (take 4 file)

    go : (a : Bool) → leb 4 (length file) ≡ a → (b : Bool) → leb (length file) longest_file ≡ b → (o : Option (List Bytes × Bytes)) → IfHeaders n (drop 4 file) o
        → IfDay file (if a && b then read_rest o else none)
    go true e true f none r = tt
    go true e true f (some (hs, X)) r = at_count file low (leb-true 4 (length file) e) (leb-true (length file) longest_file f) hs X r (leb 4 (length X)) refl
    go true e false f o r = tt
    go false e b f o r = tt

-- a file that reads is what is written of the day that it reads as, and that day is within the layout
pub read_write : (file : Bytes) (day : Day) → Below 256 file → read_day file ≡ some day → Written file day
read_write file day low e = subst (IfDay file) e (day_written file low)

-- two files that read as the same day are equal
pub same_file : (f g : Bytes) (day : Day) → Below 256 f → Below 256 g → read_day f ≡ some day → read_day g ≡ some day → f ≡ g
same_file f g day p q d e = sym (read_write f day p d).bytes ∙ (read_write g day q e).bytes
