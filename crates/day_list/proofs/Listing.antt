-- Listing a file that reads: a walk puts the places of one header, or of one record, after those before it.
use mathlib.Core.List.{List, [], ◌∷◌, ◌++◌, append_assoc, append-nil}
use mathlib.Core.Option.{Option, none, some}
use mathlib.Core.Path.{◌≡◌, refl, ap, ap₂, sym, ◌∙◌}
use Prim.Native.Nat.{ℕ, suc, ◌+◌, ◌-◌, ◌*◌, ◌≤◌, ◌<◌}
use native.Mathlib.Numerals.{add-one}
use native.Mathlib.Omega.{arith}
use borrow.Author.Tests.{lt-ltb, le-ltb}
use borrow.Rule.Slice.PartMut.{put_mid, Post-is}
use Rattle.std.proofs.Common.{Fits, w8}
use lib.ListN.{length, get_or, take, drop, length-append, take-append-drop}
use lib.Seq.{length-take-le, take-suc, take_all, drop-cons}
use Rattle.paper.specs.Strings.{Bytes, Below}
use Rattle.paper.specs.Document01.{write_strings}
use Rattle.paper.specs.DayFile.{Record, Day, write_records, first_place, place_of, header_places, record_places, day_places, Listing, listed, listing, read_day}
use Rattle.laws.proofs.Headers.{write_append}
use Rattle.laws.proofs.DayWritten.{strings_long, records_long, records_append, headers_few, records_few, first_place_lem, day_long}
use Rattle.laws.proofs.DayReading.{read_write}
use Rattle.laws.proofs.DayPlaces.{elem_drop, place_after}
use Rattle.laws.specs.Placing.{placed}
use Rattle.laws.proofs.Placed.{placed_then}
use Rattle.std.specs.Prelude.{None, Some}
use Rattle.day_steps.specs.declared.Entry.{Entry}
use Rattle.day_steps.specs.Walks.{entry_at}
use Rattle.day.specs.Checks.{checked_as, checked_day}
use Rattle.day.proofs.Found.{counts_are}
use Rattle.day_find.specs.Finds.{headers_in, records_in, length_place}
use Rattle.day_list.specs.Lists.{headers_listed, record_place, records_listed}
use Rattle.day_find.proofs.Finding.{Stands, there}

-- nothing put changes nothing
pub none_put : (base : ℕ) (out : List ℕ) → out ≡ placed base [] out
none_put base out =
    let here : base ≡ base + 0 = omega arith in
    sym (take-append-drop base out) ∙ (λ i. sym (append-nil (take base out)) i ++ drop (here i) out)

-- what is put right after what there is
pub then_put : (base n : ℕ) (v w out mid last : List ℕ) → mid ≡ placed base v out → length v ≡ n → last ≡ placed (base + n) w mid → base + n + length w ≤ length out
    → last ≡ placed base (v ++ w) out
then_put base n v w out mid last p e q room =
    q
    ∙ (λ i. placed (base + sym e i) w (p i))
    ∙ placed_then base v w out (omega (arith, e))

-- what is copied over a part stands in its place
pub put_placed : (at n : ℕ) (w out : List ℕ) → length w ≡ n → put_mid at (at + n - at) out w ≡ placed at w out
put_placed at n w out e =
    let past : at + n ≡ at + length w = omega (arith, e) in
    ap (λ (X : List ℕ). take at out ++ (w ++ X)) (Post-is at (at + n) out (omega arith))
    ∙ sym (append_assoc (take at out) w (drop (at + n) out))
    ∙ ap (λ (k : ℕ). take at out ++ w ++ drop k out) past

-- what is copied right after what there is
pub then_copied : (base n m : ℕ) (v w out mid part : List ℕ) → mid ≡ placed base v out → length v ≡ n → part ≡ w → length w ≡ m → base + n + m ≤ length out
    → put_mid (base + n) (base + n + m - (base + n)) mid part ≡ placed base (v ++ w) out
then_copied base n m v w out mid part p e is l room =
    then_put base n v w out mid (put_mid (base + n) (base + n + m - (base + n)) mid part) p e
    (ap (put_mid (base + n) (base + n + m - (base + n)) mid) is ∙ put_placed (base + n) m w mid l)
    (omega (arith, l))

-- ---- Headers

header_places_long : (at : ℕ) (hs : List Bytes) → length (header_places at hs) ≡ 2 * length hs
unfolding header_places
header_places_long at [] = refl
header_places_long at (h ∷ hs) = omega (arith, header_places_long (at + 2 + length h) hs)

header_places_more : (at : ℕ) (hs : List Bytes) (h : Bytes)
    → header_places at (hs ++ h ∷ []) ≡ header_places at hs ++ (at + length (write_strings hs) + 2) ∷ (at + length (write_strings hs) + 2 + length h) ∷ []
unfolding header_places write_strings
header_places_more at [] h = ap₂ (λ (a b : ℕ). a ∷ b ∷ []) (omega arith) (omega arith)
header_places_more at (k ∷ hs) h =
    let start : at + 2 + length k + length (write_strings hs) ≡ at + length (write_strings (k ∷ hs)) = omega (arith, strings_long k hs) in
    ap (λ (l : List ℕ). (at + 2) ∷ (at + 2 + length k) ∷ l)
    (header_places_more (at + 2 + length k) hs h
    ∙ ap (λ (n : ℕ). header_places (at + 2 + length k) hs ++ (n + 2) ∷ (n + 2 + length h) ∷ []) start)

pub headers_long : (o : Option Day) (n : ℕ) → n ≤ headers_in o → length (headers_listed o n) ≡ 2 * n
unfolding headers_listed
headers_long none n p = omega arith
headers_long (some day) n p = header_places_long 4 (take n day.headers) ∙ ap (λ (k : ℕ). 2 * k) (length-take-le n day.headers p)

-- a header more
pub headers_more : (o : Option Day) (n : ℕ) → n < headers_in o → headers_listed o (n + 1) ≡ headers_listed o n ++ (length_place o n + 2) ∷ length_place o (n + 1) ∷ []
unfolding headers_listed length_place write_strings
headers_more none n p = absurd (omega arith)
headers_more (some day) n p =
    let hs = take n day.headers in
    let h = get_or day.headers n [] in
    let more : take (n + 1) day.headers ≡ hs ++ h ∷ [] = ap (λ (k : ℕ). take k day.headers) (add-one n) ∙ take-suc day.headers n [] p in
    let end : 4 + length (write_strings hs) + 2 + length h ≡ 4 + length (write_strings (take (n + 1) day.headers)) =
    omega (arith, ap length (ap write_strings more ∙ write_append hs (h ∷ [])), length-append (write_strings hs) (write_strings (h ∷ [])), strings_long h []) in
    ap (header_places 4) more
    ∙ header_places_more 4 hs h
    ∙ ap (λ (e : ℕ). header_places 4 hs ++ (4 + length (write_strings hs) + 2) ∷ e ∷ []) end

pub headers_none : (o : Option Day) → headers_listed o 0 ≡ []
unfolding headers_listed header_places
headers_none none = refl
headers_none (some day) = refl

-- ---- Records

record_places_long : (at : ℕ) (rs : List Record) → length (record_places at rs) ≡ 4 * length rs
unfolding record_places
record_places_long at [] = refl
record_places_long at (r ∷ rs) = omega (arith, record_places_long (at + 7 + length r.sealed) rs)

abbrev one_record : ℕ → Record → List ℕ
one_record at r = r.header ∷ r.stretch ∷ (at + 7) ∷ (at + 7 + length r.sealed) ∷ []

record_places_more : (at : ℕ) (rs : List Record) (r : Record) → record_places at (rs ++ r ∷ []) ≡ record_places at rs ++ one_record (at + length (write_records rs)) r
unfolding record_places write_records
record_places_more at [] r = let here : at ≡ at + 0 = omega arith in ap (λ (n : ℕ). one_record n r) here
record_places_more at (q ∷ rs) r =
    let start : at + 7 + length q.sealed + length (write_records rs) ≡ at + length (write_records (q ∷ rs)) = omega (arith, records_long q rs) in
    ap (λ (l : List ℕ). q.header ∷ q.stretch ∷ (at + 7) ∷ (at + 7 + length q.sealed) ∷ l)
    (record_places_more (at + 7 + length q.sealed) rs r
    ∙ ap (λ (n : ℕ). record_places (at + 7 + length q.sealed) rs ++ one_record n r) start)

pub records_long_list : (o : Option Day) (n : ℕ) → n ≤ records_in o → length (records_listed o n) ≡ 4 * n
unfolding records_listed
records_long_list none n p = omega arith
records_long_list (some day) n p = record_places_long (first_place day.headers) (take n day.records) ∙ ap (λ (k : ℕ). 4 * k) (length-take-le n day.records p)

pub records_none : (o : Option Day) → records_listed o 0 ≡ []
unfolding records_listed record_places
records_none none = refl
records_none (some day) = refl

-- the record at the place that a walk came to: its fields are read there, they are what is listed, and the next place is its end
pub record Passed (f : Bytes) (i at : ℕ) : Type 0 where
  pub file_short : length f ≤ 65536
  pub room : at + 7 ≤ length f
  pub next : (entry_at f at).end ≡ record_place (read_day f) (i + 1)
  pub more : records_listed (read_day f) (i + 1)
      ≡ records_listed (read_day f) i ++ (entry_at f at).header ∷ (entry_at f at).stretch ∷ (entry_at f at).start ∷ (entry_at f at).end ∷ []

module _ (f : Bytes) (fits : (k : ℕ) → Fits w8 (get_or f k 0)) (records i at : ℕ) (many : records ≡ records_in (read_day f)) (inside : i < records) (here : at ≡ record_place (read_day f) i) where
  s : Stands f records i
  s = there f fits records i (many, inside)

  abbrev rs : List Record
  rs = s.day.records

  abbrev earlier : List Record
  earlier = take i rs

  at_is : at ≡ first_place s.day.headers + length (write_records earlier)
  unfolding record_place
  at_is = here ∙ ap (λ (o : Option Day). record_place o i) s.reads

  at_place : at ≡ place_of s.day i
  at_place = at_is ∙ sym (place_after (first_place s.day.headers) rs i (elem_drop rs i s.own s.elem).0)

  one_later : take (i + 1) rs ≡ earlier ++ s.own ∷ []
  one_later = ap (λ (k : ℕ). take k rs) (add-one i) ∙ take-suc rs i s.own (elem_drop rs i s.own s.elem).0 ∙ ap (λ (r : Record). earlier ++ r ∷ []) own_is
    where
      head : {A : Type 0} (a b : A) (l m : List A) → a ∷ l ≡ b ∷ m → a ≡ b
      head a b l m e = cc

      own_is : get_or rs i s.own ≡ s.own
      own_is =
          let d = elem_drop rs i s.own s.elem in
          head (get_or rs i s.own) s.own (drop (suc i) rs) (drop (suc i) rs) (sym (drop-cons rs i s.own d.0) ∙ d.1)

  fields : entry_at f at ≡ record { header = s.own.header; stretch = s.own.stretch; start = at + 7; end = at + 7 + length s.own.sealed }
  fields = ap (entry_at f) at_place ∙ s.fields ∙ (λ i. record { header = s.own.header; stretch = s.own.stretch; start = sym at_place i + 7; end = sym at_place i + 7 + length s.own.sealed })

  pub passes : Passed f i at
  unfolding record_place records_listed write_records
  passes =
      record {
        file_short = s.short;
        room = omega (arith, at_place, s.room);
        next =
            ap (λ (e : Entry). e.end) fields
            ∙ omega
            (arith, at_is, ap length (ap write_records one_later ∙ records_append earlier (s.own ∷ [])), length-append (write_records earlier) (write_records (s.own ∷ [])), records_long s.own [])
            ∙ sym (ap (λ (o : Option Day). record_place o (i + 1)) s.reads);
        more =
            ap (λ (o : Option Day). records_listed o (i + 1)) s.reads
            ∙ ap (record_places (first_place s.day.headers)) one_later
            ∙ record_places_more (first_place s.day.headers) earlier s.own
            ∙ ap (λ (n : ℕ). record_places (first_place s.day.headers) earlier ++ one_record n s.own) (sym at_is)
            ∙ ap (λ (e : Entry). record_places (first_place s.day.headers) earlier ++ e.header ∷ e.stretch ∷ e.start ∷ e.end ∷ []) (sym fields)
            ∙ ap (λ (o : Option Day). records_listed o i ++ (entry_at f at).header ∷ (entry_at f at).stretch ∷ (entry_at f at).start ∷ (entry_at f at).end ∷ []) (sym s.reads);
      }

-- ---- The call

abbrev refusal : ℕ → List ℕ → Listing
refusal n places = record { number = n; headers = 0; records = 0; places = places }

pub lists_unread : (f : Bytes) (places : List ℕ) → None ≡ checked_as (read_day f) → refusal 9 places ≡ listing f places
unfolding listing
lists_unread f places e = go (read_day f) e
  where
    go : (o : Option Day) → None ≡ checked_as o → refusal 9 places ≡ listed o places
    go none e = refl
    go (some day) e = cc

-- what the check found
pub record Counted (o : Option Day) (headers records first : ℕ) : Type 0 where
  pub headers_are : headers ≡ headers_in o
  pub records_are : records ≡ records_in o
  pub first_is : first ≡ record_place o 0

pub counted : (o : Option Day) (headers records first : ℕ) → Some (checked_day headers records first) ≡ checked_as o → Counted o headers records first
unfolding record_place write_records
counted none headers records first e = record { headers_are = (cc); records_are = (cc); first_is = (cc) }
counted (some day) headers records first e =
    let c = counts_are day headers records first e in
    record { headers_are = c.0; records_are = c.1; first_is = omega (arith, c.2) }

-- the counts are small
pub counts_small : (f : Bytes) → Below 256 f → (headers records first : ℕ) → Some (checked_day headers records first) ≡ checked_as (read_day f) → 2 * headers + 4 * records ≤ 65536
counts_small f low headers records first e = go (read_day f) refl (counted (read_day f) headers records first e) e
  where
    go : (o : Option Day) → read_day f ≡ o → Counted (read_day f) headers records first → Some (checked_day headers records first) ≡ checked_as o → 2 * headers + 4 * records ≤ 65536
    go none p c e = let z : ◌≡◌ {A = ℕ} 0 1 = cc in absurd (omega arith)
    go (some day) p c e =
        let h : headers ≡ length day.headers = c.headers_are ∙ ap headers_in p in
        let r : records ≡ length day.records = c.records_are ∙ ap records_in p in
        let w = read_write f day low p in
        omega (arith, h, r, w.within.short, day_long day, first_place_lem day.headers, headers_few day.headers, records_few day.records)

module _ (f : Bytes) (places : List ℕ) (headers records first : ℕ) (e : Some (checked_day headers records first) ≡ checked_as (read_day f)) where
  abbrev both : Option Day → List ℕ
  both o = headers_listed o headers ++ records_listed o records

  all_listed : (day : Day) → read_day f ≡ some day → both (read_day f) ≡ day_places day
  unfolding headers_listed records_listed day_places
  all_listed day p =
      let c = counted (read_day f) headers records first e in
      ap both p
      ∙ ap₂ (λ (hs : List Bytes) (rs : List Record). header_places 4 hs ++ record_places (first_place day.headers) rs)
      (take_all headers day.headers (omega (arith, c.headers_are, ap headers_in p)))
      (take_all records day.records (omega (arith, c.records_are, ap records_in p)))

  all_long : length (both (read_day f)) ≡ 2 * headers + 4 * records
  all_long =
      let c = counted (read_day f) headers records first e in
      length-append (headers_listed (read_day f) headers) (records_listed (read_day f) records)
      ∙ omega (arith, headers_long (read_day f) headers (omega (arith, c.headers_are)), records_long_list (read_day f) records (omega (arith, c.records_are)))

  with_day : {A : Type 0} → ((day : Day) → read_day f ≡ some day → A) → A
  with_day {A} k = go (read_day f) refl e
    where
      go : (o : Option Day) → read_day f ≡ o → Some (checked_day headers records first) ≡ checked_as o → A
      go none p e = let z : ◌≡◌ {A = ℕ} 0 1 = cc in absurd (omega arith)
      go (some day) p e = k day p

  pub lists_short : length places < 2 * headers + 4 * records → refusal 6 places ≡ listing f places
  unfolding listing
  lists_short p = with_day (λ day q.
      let long : length (day_places day) ≡ 2 * headers + 4 * records = ap length (sym (all_listed day q)) ∙ all_long in
      sym (ap (λ (o : Option Day). listed o places) q ∙ simp (lt-ltb (length places) (length (day_places day)) (omega (arith, long)))))

  pub lists_all : 2 * headers + 4 * records ≤ length places → (mid last : List ℕ) → mid ≡ placed 0 (headers_listed (read_day f) headers) places
      → last ≡ placed (2 * headers) (records_listed (read_day f) records) mid
      → record { number = 0; headers = headers; records = records; places = last } ≡ listing f places
  unfolding listing
  lists_all p mid last a b = with_day (λ day q.
      let c = counted (read_day f) headers records first e in
      let h : headers ≡ length day.headers = c.headers_are ∙ ap headers_in q in
      let r : records ≡ length day.records = c.records_are ∙ ap records_in q in
      let long : length (day_places day) ≡ 2 * headers + 4 * records = ap length (sym (all_listed day q)) ∙ all_long in
      let rest : 0 + 2 * headers ≡ 2 * headers = omega arith in
      let put : last ≡ placed 0 (both (read_day f)) places =
      then_put 0 (2 * headers) (headers_listed (read_day f) headers) (records_listed (read_day f) records) places mid last a
      (headers_long (read_day f) headers (omega (arith, c.headers_are)))
      (b ∙ ap (λ (n : ℕ). placed n (records_listed (read_day f) records) mid) (sym rest))
      (omega (arith, records_long_list (read_day f) records (omega (arith, c.records_are)))) in
      let from : 0 + length (day_places day) ≡ length (day_places day) = omega arith in
      let whole : last ≡ day_places day ++ drop (length (day_places day)) places =
      put ∙ ap (λ (w : List ℕ). placed 0 w places) (all_listed day q) ∙ ap (λ (n : ℕ). day_places day ++ drop n places) from in
      (λ i. record { number = 0; headers = h i; records = r i; places = whole i })
      ∙ sym (ap (λ (o : Option Day). listed o places) q ∙ simp (le-ltb (length places) (length (day_places day)) (omega (arith, long)))))
