-- Bytes put one part after the other: what is there, and what is still to be put.
use mathlib.Core.Bool.{Bool, true, false, ◌&&◌}
use mathlib.Core.List.{List, [], ◌∷◌, ◌++◌, append_assoc, append-nil}
use mathlib.Core.Option.{Option, none, some}
use mathlib.Core.Path.{◌≡◌, refl, ap, sym, ◌∙◌}
use Prim.Native.Nat.{ℕ, ◌+◌, ◌≤◌, ◌<◌}
use native.Mathlib.Omega.{arith}
use borrow.Author.Tests.{leb-true, eqb-true}
use lib.Dec.{leb, eqb}
use lib.ListN.{length, get_or, take, drop, set, length-append, length-set, take-append-drop}
use lib.Seq.{sets-eq}
use Rattle.paper.specs.Strings.{Bytes, digits}
use Rattle.paper.specs.Document01.{write_strings}
use Rattle.paper.specs.DayFile.{Record, write_record, write_records, write_places, present, header_fits, record_fits, headers_of, in_front_of, records_of}
use Rattle.laws.proofs.BitStrings.{length_digits}
use Rattle.laws.proofs.DayReading.{record_fits_lem}
use Rattle.laws.proofs.Sealing.{and_true}
use Rattle.laws.specs.Placing.{placed}
use Rattle.laws.proofs.Placed.{placed_then}
use Rattle.day_put.specs.Written.{record_with, headers_written, records_written, total, places_by}
use Rattle.day_fit.specs.Fits.{records_right}
use Rattle.day_fit.proofs.Walks.{headers_by, record_at, records_by, from_entry, none_left}

-- of the whole, what is done stands from start on in out, which was first, and the rest is to be put at a place
pub record Put (whole rest : Bytes) (start at : ℕ) (first out : Bytes) : Type 0 where
  pub done : Bytes
  pub there : out ≡ placed start done first
  pub past : at ≡ start + length done
  pub split : whole ≡ done ++ rest
  pub kept : length out ≡ length first

pub put_none : (whole : Bytes) (start : ℕ) (out : Bytes) → Put whole whole start start out out
put_none whole start out =
    let here : start ≡ start + 0 = omega arith in
    record {
      done = [];
      there = sym (take-append-drop start out) ∙ (λ i. sym (append-nil (take start out)) i ++ drop (here i) out);
      past = omega arith;
      split = refl;
      kept = refl;
    }

pub put_more : {whole rest : Bytes} {start at : ℕ} {first mid : Bytes} (w more last : Bytes) (next : ℕ) → Put whole rest start at first mid → rest ≡ w ++ more
    → last ≡ placed at w mid → next ≡ at + length w → next ≤ length first → length last ≡ length mid → Put whole more start next first last
put_more {whole} {rest} {start} {at} {first} {mid} w more last next p e q n room kept =
    record {
      done = p.done ++ w;
      there = q ∙ (λ i. placed (p.past i) w (p.there i)) ∙ placed_then start p.done w first (omega (arith, p.past));
      past = omega (arith, p.past, length-append p.done w);
      split = p.split ∙ ap (λ (X : Bytes). p.done ++ X) e ∙ sym (append_assoc p.done w more);
      kept = kept ∙ p.kept;
    }

pub put_all : {whole rest : Bytes} {start at : ℕ} {first out : Bytes} → Put whole rest start at first out → rest ≡ [] → (at ≡ start + length whole) × (out ≡ placed start whole first)
put_all {whole} {rest} {start} {at} {first} p e =
    let all : whole ≡ p.done = p.split ∙ ap (λ (X : Bytes). p.done ++ X) e ∙ append-nil p.done in
    (p.past ∙ ap (λ (X : Bytes). start + length X) (sym all), p.there ∙ ap (λ (X : Bytes). placed start X first) (sym all))

-- the four parts of a record
pub record_parts : (at number stretch : ℕ) (sealed out one three last : Bytes) → at + 7 + length sealed ≤ length out
    → one ≡ placed at (digits 256 2 number) out → length one ≡ length out
    → three ≡ placed (at + 3) (digits 256 4 (length sealed)) (set one (at + 2) stretch) → length three ≡ length (set one (at + 2) stretch)
    → last ≡ placed (at + 7) sealed three → length last ≡ length three
    → last ≡ placed at (write_record (record_with number stretch sealed)) out
unfolding write_record
record_parts at number stretch sealed out one three last room p a q b r c =
    let d = digits 256 2 number in
    let t = stretch ∷ [] in
    let n = digits 256 4 (length sealed) in
    let whole = d ++ (t ++ (n ++ (sealed ++ []))) in
    let two = length_digits 256 2 number in
    let four = length_digits 256 4 (length sealed) in
    let first = put_more d (t ++ (n ++ (sealed ++ []))) one (at + 2) (put_none whole at out) refl p (omega (arith, two)) (omega arith) a in
    let second = put_more t (n ++ (sealed ++ [])) (set one (at + 2) stretch) (at + 3) first refl (sets-eq t one (at + 2) (omega (arith, a))) (omega arith) (omega arith) (length-set one (at + 2) stretch) in
    let third = put_more n (sealed ++ []) three (at + 7) second refl q (omega (arith, four)) (omega arith) b in
    let fourth = put_more sealed [] last (at + 7 + length sealed) third refl r refl room c in
    (put_all fourth refl).1
    ∙ ap (λ (X : Bytes). placed at X out)
    (ap (λ (X : Bytes). d ++ (stretch ∷ (n ++ X))) (append-nil sealed) ∙ sym (append_assoc d (stretch ∷ n) sealed))

not_true : {A : Type 0} → false ≡ true → A
not_true e = absurd (let z : ◌≡◌ {A = ℕ} 0 1 = cc in omega arith)

-- ---- Headers

header_first : (s : Bytes) (o : Option (List Bytes)) → present (in_front_of s o) ≡ true → (headers_written (in_front_of s o) ≡ write_strings (s ∷ []) ++ headers_written o) × (present o ≡ true)
unfolding write_strings
header_first s none e = not_true e
header_first s (some ss) e = (ap (λ (X : Bytes). X ++ write_strings ss) (sym (append-nil (digits 256 2 (length s) ++ s))), refl)

-- where the headers that are left are right, the next one lies within their bytes, it is written first, and the others are right
pub header_next : (ns : List ℕ) (i : ℕ) (X : Bytes) → i < length ns → present (headers_of (drop i ns) X) ≡ true
    → (get_or ns i 0 ≤ length X)
    × (headers_written (headers_of (drop i ns) X) ≡ write_strings (take (get_or ns i 0) X ∷ []) ++ headers_written (headers_of (drop (i + 1) ns) (drop (get_or ns i 0) X)))
    × (present (headers_of (drop (i + 1) ns) (drop (get_or ns i 0) X)) ≡ true)
header_next ns i X inside right = go (leb n (length X)) refl (header_fits (take n X)) refl
  where
    n : ℕ
    n = get_or ns i 0

    go : (a : Bool) → leb n (length X) ≡ a → (b : Bool) → header_fits (take n X) ≡ b
        → (n ≤ length X)
        × (headers_written (headers_of (drop i ns) X) ≡ write_strings (take n X ∷ []) ++ headers_written (headers_of (drop (i + 1) ns) (drop n X)))
        × (present (headers_of (drop (i + 1) ns) (drop n X)) ≡ true)
    go true p true q =
        let is = headers_by ns i X true true inside p q in
        let both = header_first (take n X) (headers_of (drop (i + 1) ns) (drop n X)) (sym (ap present is) ∙ right) in
        (leb-true n (length X) p, ap headers_written is ∙ both.0, both.1)
    go true p false q = not_true (sym (ap present (headers_by ns i X true false inside p q)) ∙ right)
    go false p b q = not_true (sym (ap present (headers_by ns i X false b inside p q)) ∙ right)

pub headers_done : (ns : List ℕ) (i : ℕ) (X : Bytes) → length ns ≤ i → headers_written (headers_of (drop i ns) X) ≡ []
unfolding headers_of write_strings
headers_done ns i X p = ap (λ (l : List ℕ). headers_written (headers_of l X)) (none_left ns i p) ∙ go X
  where
    go : (Y : Bytes) → headers_written (headers_of [] Y) ≡ []
    go [] = refl
    go (y ∷ Y) = refl

-- ---- Records

record_first : (r : Record) (o : Option (List Record)) → present (in_front_of r o) ≡ true → (records_written (in_front_of r o) ≡ write_record r ++ records_written o) × (present o ≡ true)
unfolding write_records
record_first r none e = not_true e
record_first r (some rs) e = (refl, refl)

module _ (headers : ℕ) (hs ts ns : List ℕ) (i : ℕ) (X : Bytes) where
  abbrev n : ℕ
  n = get_or ns i 0

  abbrev these : Option (List Record)
  these = records_of headers (drop i hs) (drop i ts) (drop i ns) X

  abbrev others : Option (List Record)
  others = records_of headers (drop (i + 1) hs) (drop (i + 1) ts) (drop (i + 1) ns) (drop n X)

  abbrev next_one : Record
  next_one = record_at headers hs ts ns i X

  pub record_next : i < length ns → present these ≡ true
      → (n ≤ length X) × (get_or ts i 0 ≤ 64) × (records_written these ≡ write_record next_one ++ records_written others) × (present others ≡ true)
  record_next inside right = go (leb n (length X)) refl (record_fits headers next_one) refl
    where
      go : (a : Bool) → leb n (length X) ≡ a → (b : Bool) → record_fits headers next_one ≡ b
          → (n ≤ length X) × (get_or ts i 0 ≤ 64) × (records_written these ≡ write_record next_one ++ records_written others) × (present others ≡ true)
      go true p true q =
          let is = records_by headers hs ts ns i X true true inside p q in
          let both = record_first next_one others (sym (ap present is) ∙ right) in
          (leb-true n (length X) p, (record_fits_lem headers next_one q).2, ap records_written is ∙ both.0, both.1)
      go true p false q = not_true (sym (ap present (records_by headers hs ts ns i X true false inside p q)) ∙ right)
      go false p b q = not_true (sym (ap present (records_by headers hs ts ns i X false b inside p q)) ∙ right)

  pub records_done : length ns ≤ i → records_written these ≡ []
  unfolding records_of write_records
  records_done p = ap (λ (l : List ℕ). records_written (records_of headers (drop i hs) (drop i ts) l X)) (none_left ns i p) ∙ go X
    where
      go : (Y : Bytes) → records_written (records_of headers (drop i hs) (drop i ts) [] Y) ≡ []
      go [] = refl
      go (y ∷ Y) = refl

-- the lists are of one length, and the records right
pub record Right (headers : ℕ) (hs ts ns : List ℕ) (X : Bytes) : Type 0 where
  pub first : length hs ≡ length ns
  pub second : length ts ≡ length ns
  pub records : present (records_of headers hs ts ns X) ≡ true

pub right : (headers : ℕ) (hs ts ns : List ℕ) (X : Bytes) → records_right headers hs ts ns X ≡ true → Right headers hs ts ns X
right headers hs ts ns X e =
    let all = and_true (eqb (length hs) (length ns) && eqb (length ts) (length ns)) (present (records_of headers hs ts ns X)) e in
    let two = and_true (eqb (length hs) (length ns)) (eqb (length ts) (length ns)) all.0 in
    record { first = eqb-true (length hs) (length ns) two.0; second = eqb-true (length ts) (length ns) two.1; records = all.1 }

-- ---- Places

pub place_next : (ns : List ℕ) (i place : ℕ) → i < length ns
    → (write_places (places_by place (drop i ns)) ≡ digits 256 4 place ++ write_places (places_by (place + 7 + get_or ns i 0) (drop (i + 1) ns)))
    × (total (drop i ns) ≡ 7 + get_or ns i 0 + total (drop (i + 1) ns))
unfolding places_by write_places total
place_next ns i place p =
    (ap (λ (l : List ℕ). write_places (places_by place l)) (from_entry ns i p), ap total (from_entry ns i p))

pub places_done : (ns : List ℕ) (i place : ℕ) → length ns ≤ i → write_places (places_by place (drop i ns)) ≡ []
unfolding places_by write_places
places_done ns i place p = ap (λ (l : List ℕ). write_places (places_by place l)) (none_left ns i p)
