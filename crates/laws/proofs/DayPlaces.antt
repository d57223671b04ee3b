-- THE PLACES OF A DAY FILE. Each index entry is the true place of its record: at that place in the file stand the record's own bytes. And
-- each header stands at its place.
use mathlib.Core.Bool.{true}
use mathlib.Core.List.{List, [], ◌∷◌, ◌++◌, append_assoc}
use mathlib.Core.Option.{some}
use mathlib.Core.Path.{◌≡◌, refl, ap, sym, ◌∙◌}
use Prim.Native.Nat.{ℕ, zero, suc, ◌+◌, ◌-◌, ◌*◌, ◌≤◌, ◌<◌}
use native.Mathlib.Omega.{arith}
use lib.ListN.{length, get_or, take, drop, get_elem?, length-append, length-drop, take-append-drop}
use lib.Seq.{take_at, drop_at, drop-cons, drop-drop, take-append_seam}
use Rattle.paper.specs.Strings.{Bytes, Below, digits}
use Rattle.paper.specs.Document01.{write_strings}
use Rattle.paper.specs.DayFile.{Record, Day, write_record, write_records, write_headers, first_place, places_from, place_of, header_place, write_places, write_index, write_day, value, record_fits, read_day}
use Rattle.laws.proofs.BitStrings.{length_digits}
use Rattle.laws.proofs.DayNumbers.{value_four}
use Rattle.laws.proofs.Headers.{write_append}
use Rattle.laws.proofs.DayWritten.{RecordsFit, records_append, day_then, record_long, places_many, places_long}
use Rattle.laws.proofs.DayReading.{read_write}

-- ---- An entry of a list

pub elem_drop : {A : Type 0} (l : List A) (k : ℕ) (x : A) → get_elem? l k ≡ some x → (k < length l) × (drop k l ≡ x ∷ drop (suc k) l)
elem_drop [] k x e = absurd (let z : ◌≡◌ {A = ℕ} 0 1 = cc in omega arith)
elem_drop (y ∷ l) zero x e = (omega arith, (cc))
elem_drop (y ∷ l) (suc k) x e = let r = elem_drop l k x e in (omega (arith, r.0), r.1)

-- what each record has, record k has
pub elem_fits : (headers : ℕ) (rs : List Record) (k : ℕ) (r : Record) → RecordsFit headers rs → get_elem? rs k ≡ some r → record_fits headers r ≡ true
elem_fits headers [] k r p e = absurd (let z : ◌≡◌ {A = ℕ} 0 1 = cc in omega arith)
elem_fits headers (s ∷ rs) zero r p e = let q : s ≡ r = cc in ap (record_fits headers) (sym q) ∙ p.0
elem_fits headers (s ∷ rs) (suc k) r p e = elem_fits headers rs k r p.1 e

-- ---- The records

-- record k stands after those before it
pub place_after : (at : ℕ) (rs : List Record) (k : ℕ) → k < length rs → get_or (places_from at rs) k 0 ≡ at + length (write_records (take k rs))
unfolding places_from write_records
place_after at [] k p = absurd (omega arith)
place_after at (r ∷ rs) zero p = omega arith
place_after at (r ∷ rs) (suc k) p =
    place_after (at + length (write_record r)) rs k (omega arith) ∙ omega (arith, length-append (write_record r) (write_records (take k rs)))

records_from : (rs : List Record) (k : ℕ) (r : Record) → get_elem? rs k ≡ some r → write_records rs ≡ write_records (take k rs) ++ (write_record r ++ write_records (drop (suc k) rs))
unfolding write_records
records_from rs k r e =
    ap write_records (sym (take-append-drop k rs))
    ∙ records_append (take k rs) (drop k rs)
    ∙ ap (λ (l : List Record). write_records (take k rs) ++ write_records l) (elem_drop rs k r e).1

-- what follows record k
abbrev after_record : Day → ℕ → Bytes
after_record day k = write_records (drop (suc k) day.records) ++ write_index day

pub record_there : (day : Day) (k : ℕ) (r : Record) → get_elem? day.records k ≡ some r → drop (place_of day k) (write_day day) ≡ write_record r ++ after_record day k
unfolding write_day first_place
record_there day k r e =
    let front = write_headers day.headers ++ digits 256 4 (length day.records) in
    let earlier = write_records (take k day.records) in
    let own = write_record r in
    let later = write_records (drop (suc k) day.records) in
    let x = write_index day in
    let four = length_digits 256 4 (length day.records) in
    let place = place_after (first_place day.headers) day.records k (elem_drop day.records k r e).0 in
    let long : length (front ++ earlier) ≡ place_of day k =
    omega (arith, length-append front earlier, length-append (write_headers day.headers) (digits 256 4 (length day.records)), four, place) in
    let parts : write_day day ≡ front ++ earlier ++ (own ++ (later ++ x)) =
    ap (λ (w : Bytes). front ++ w ++ x) (records_from day.records k r e)
    ∙ ap (λ (w : Bytes). w ++ x) (sym (append_assoc front earlier (own ++ later)))
    ∙ append_assoc (front ++ earlier) (own ++ later) x
    ∙ ap (λ (w : Bytes). front ++ earlier ++ w) (append_assoc own later x) in
    ap (drop (place_of day k)) parts ∙ drop_at (front ++ earlier) (own ++ (later ++ x)) (place_of day k) long

-- ---- The headers

strings_from : (hs : List Bytes) (n : ℕ) → n < length hs
    → write_strings hs ≡ write_strings (take n hs) ++ (digits 256 2 (length (get_or hs n [])) ++ (get_or hs n [] ++ write_strings (drop (suc n) hs)))
unfolding write_strings
strings_from hs n p =
    let h = get_or hs n [] in
    ap write_strings (sym (take-append-drop n hs))
    ∙ write_append (take n hs) (drop n hs)
    ∙ ap (λ (l : List Bytes). write_strings (take n hs) ++ write_strings l) (drop-cons hs n [] p)
    ∙ ap (λ (w : Bytes). write_strings (take n hs) ++ w) (append_assoc (digits 256 2 (length h)) h (write_strings (drop (suc n) hs)))

-- what follows header n
abbrev after_header : Day → ℕ → Bytes
after_header day n =
    write_strings (drop (suc n) day.headers) ++ (digits 256 4 (length day.records) ++ (write_records day.records ++ write_index day))

-- its length in two bytes, and itself
pub header_there : (day : Day) (n : ℕ) → n < length day.headers
    → drop (4 + length (write_strings (take n day.headers))) (write_day day)
    ≡ digits 256 2 (length (get_or day.headers n [])) ++ (get_or day.headers n [] ++ after_header day n)
header_there day n p =
    let c = digits 256 4 (length day.headers) in
    let earlier = write_strings (take n day.headers) in
    let h = get_or day.headers n [] in
    let d = digits 256 2 (length h) in
    let later = write_strings (drop (suc n) day.headers) in
    let rest = digits 256 4 (length day.records) ++ (write_records day.records ++ write_index day) in
    let parts : write_day day ≡ c ++ earlier ++ (d ++ (h ++ (later ++ rest))) =
    day_then day
    ∙ ap (λ (w : Bytes). c ++ (w ++ rest)) (strings_from day.headers n p)
    ∙ ap (λ (w : Bytes). c ++ w) (append_assoc earlier (d ++ (h ++ later)) rest)
    ∙ ap (λ (w : Bytes). c ++ (earlier ++ w)) (append_assoc d (h ++ later) rest)
    ∙ ap (λ (w : Bytes). c ++ (earlier ++ (d ++ w))) (append_assoc h later rest)
    ∙ sym (append_assoc c earlier (d ++ (h ++ (later ++ rest)))) in
    ap (drop (4 + length earlier)) parts
    ∙ drop_at (c ++ earlier) (d ++ (h ++ (later ++ rest))) (4 + length earlier) (omega (arith, length-append c earlier, length_digits 256 4 (length day.headers)))

-- ---- The index

entry_from : (places : List ℕ) (k : ℕ) → k < length places → drop (4 * k) (write_places places) ≡ digits 256 4 (get_or places k 0) ++ write_places (drop (suc k) places)
unfolding write_places
entry_from [] k p = absurd (omega arith)
entry_from (at ∷ places) zero p = refl
entry_from (at ∷ places) (suc k) p =
    let more : 4 * suc k ≡ 4 + 4 * k = omega arith in
    ap (λ (n : ℕ). drop n (digits 256 4 at ++ write_places places)) more
    ∙ sym (drop-drop (4 * k) 4 (digits 256 4 at ++ write_places places))
    ∙ ap (drop (4 * k)) (drop_at (digits 256 4 at) (write_places places) 4 (length_digits 256 4 at))
    ∙ entry_from places k (omega arith)

-- the entries of the index are the file's last bytes
pub entries_last : (day : Day)
    → drop (length (write_day day) - 4 * length day.records) (write_day day) ≡ write_places (places_from (first_place day.headers) day.records)
unfolding write_day write_index
entries_last day =
    let front = write_headers day.headers ++ digits 256 4 (length day.records) ++ write_records day.records in
    let c = digits 256 4 (length day.records) in
    let p = places_from (first_place day.headers) day.records in
    let parts : write_day day ≡ front ++ c ++ write_places p = sym (append_assoc front c (write_places p)) in
    let long : length (front ++ c) ≡ length (write_day day) - 4 * length day.records =
    omega (arith, ap length parts, length-append (front ++ c) (write_places p), places_long p, places_many (first_place day.headers) day.records) in
    ap (drop (length (write_day day) - 4 * length day.records)) parts ∙ drop_at (front ++ c) (write_places p) _ long

-- entry k is the place of record k
pub index_entry : (day : Day) (k : ℕ) → k < length day.records
    → take 4 (drop (length (write_day day) - 4 * length day.records + 4 * k) (write_day day)) ≡ digits 256 4 (place_of day k)
index_entry day k p =
    let places = places_from (first_place day.headers) day.records in
    ap (take 4)
    (sym (drop-drop (4 * k) (length (write_day day) - 4 * length day.records) (write_day day))
    ∙ ap (drop (4 * k)) (entries_last day)
    ∙ entry_from places k (omega (arith, places_many (first_place day.headers) day.records)))
    ∙ take_at (digits 256 4 (place_of day k)) (write_places (drop (suc k) places)) 4 (length_digits 256 4 (place_of day k))

-- ---- In a file that reads

module _ (file : Bytes) (day : Day) (low : Below 256 file) (reads : read_day file ≡ some day) where
  is : write_day day ≡ file
  is = (read_write file day low reads).bytes

  short : length (write_day day) ≤ 65536
  short = (read_write file day low reads).within.short

  module _ (k : ℕ) (r : Record) (e : get_elem? day.records k ≡ some r) where
    -- record k's own bytes stand at its place
    pub record_stands : take (length (write_record r)) (drop (place_of day k) file) ≡ write_record r
    record_stands =
        ap (λ (f : Bytes). take (length (write_record r)) (drop (place_of day k) f)) (sym is)
        ∙ ap (take (length (write_record r))) (record_there day k r e)
        ∙ take-append_seam (write_record r) (after_record day k)

    place_short : place_of day k + 7 + length r.sealed ≤ length (write_day day)
    place_short =
        omega (arith, ap length (record_there day k r e), length-drop (place_of day k) (write_day day), length-append (write_record r) (after_record day k), record_long r)

    -- entry k of the index, which the file ends with, is that place
    pub entry_true : value (take 4 (drop (length file - 4 * length day.records + 4 * k) file)) ≡ place_of day k
    entry_true =
        ap (λ (f : Bytes). value (take 4 (drop (length f - 4 * length day.records + 4 * k) f))) (sym is)
        ∙ ap value (index_entry day k (elem_drop day.records k r e).0)
        ∙ value_four (place_of day k) (omega (arith, place_short, short))

  -- header n stands at its place
  pub header_stands : (n : ℕ) → n < length day.headers → take (length (get_or day.headers n [])) (drop (header_place day.headers n) file) ≡ get_or day.headers n []
  unfolding header_place
  header_stands n p =
      let h = get_or day.headers n [] in
      let d = digits 256 2 (length h) in
      let before = 4 + length (write_strings (take n day.headers)) in
      ap (λ (f : Bytes). take (length h) (drop (before + 2) f)) (sym is)
      ∙ ap (take (length h)) (sym (drop-drop 2 before (write_day day)) ∙ ap (drop 2) (header_there day n p) ∙ drop_at d (h ++ after_header day n) 2 (length_digits 256 2 (length h)))
      ∙ take-append_seam h (after_header day n)
