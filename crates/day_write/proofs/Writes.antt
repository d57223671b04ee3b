-- The writer after its answer is settled: a refusal, or the six parts of the file one after the other.
use mathlib.Core.Bool.{Bool, true, false, ◌&&◌}
use mathlib.Core.List.{List, [], ◌∷◌, ◌++◌, append-nil}
use mathlib.Core.Option.{Option, none, some}
use mathlib.Core.Path.{◌≡◌, refl, ap, sym, subst, ◌∙◌}
use Prim.Native.Nat.{ℕ, ◌+◌, ◌*◌, ◌≤◌}
use native.Mathlib.Omega.{arith}
use borrow.Author.Tests.{leb-true, ltb-false, le-ltb}
use lib.Dec.{leb, ltb}
use lib.ListN.{length, get_or, take, drop}
use lib.Seq.{length-take-le}
use Rattle.std.specs.Prelude.{Result, Ok, Err, if◌then◌else◌}
use Rattle.paper.specs.Strings.{Bytes, digits}
use Rattle.paper.specs.Document01.{refused, done, write_strings}
use Rattle.paper.specs.DayFile.{Record, Day, write_record, write_records, first_place, places_from, write_places, write_index, write_day, longest_file, present, record_fits, headers_of, in_front_of, records_of, day_from, write_as, writing}
use Rattle.laws.proofs.BitStrings.{length_digits}
use Rattle.laws.proofs.DayWritten.{record_long, records_long, first_place_lem, day_then, places_many, places_long}
use Rattle.laws.proofs.DayLists.{headers_listed_lem, records_listed_lem}
use Rattle.answer.specs.declared.Refusal.{Refusal}
use Rattle.answer.specs.declared.Refusal.TheVariants.{TooLong, NoRoom}
use Rattle.answer.specs.Outcomes.{number_in, size_in, outcome}
use Rattle.answer.proofs.Refusals.{refuses}
use Rattle.laws.specs.Placing.{placed}
use Rattle.day_fit.specs.Fits.{records_right}
use Rattle.day_put.specs.Written.{headers_written, records_written, total, places_by}
use Rattle.day_write.specs.Settled.{size_of, settled_for}
use Rattle.day_write.proofs.Settles.{Handed, unheaded, unrecorded, handed}
use Rattle.day_put.proofs.Puts.{put_none, put_more, put_all}

-- ---- The places by the lengths

abbrev IfPlaced : List ℕ → Option (List Record) → Type 0
IfPlaced ns none = Unit {0}
IfPlaced ns (some rs) = ((at : ℕ) → places_by at ns ≡ places_from at rs) × (total ns ≡ length (write_records rs))

placed_by : (headers : ℕ) (hs ts ns : List ℕ) (X : Bytes) → IfPlaced ns (records_of headers hs ts ns X)
unfolding records_of places_by places_from total write_records
placed_by headers hs ts [] [] = (λ at. refl, refl)
placed_by headers hs ts [] (b ∷ X) = tt
placed_by headers hs ts (n ∷ ns) X =
    go (leb n (length X)) refl (record_fits headers r) (records_of headers (drop 1 hs) (drop 1 ts) ns (drop n X)) (placed_by headers (drop 1 hs) (drop 1 ts) ns (drop n X))
  where
    r : Record
    r = record { header = get_or hs 0 0; stretch = get_or ts 0 0; sealed = take n X }

    go : (a : Bool) → leb n (length X) ≡ a → (b : Bool) (o : Option (List Record)) → IfPlaced ns o → IfPlaced (n ∷ ns) (if a && b then in_front_of r o else none)
    go true e true none w = tt
    go true e true (some rs) w =
        let long : length (take n X) ≡ n = length-take-le n X (leb-true n (length X) e) in (
          λ at.
              let next : at + 7 + n ≡ at + length (write_record r) = omega (arith, record_long r, long) in
              ap (λ (l : List ℕ). at ∷ l) (ap (λ (k : ℕ). places_by k ns) next ∙ w.0 (at + length (write_record r))),
          omega (arith, w.1, records_long r rs, long),
        )
    go true e false o w = tt
    go false e b o w = tt

module _ (ls : List ℕ) (J : Bytes) (hs ts ns : List ℕ) (X : Bytes) where
  abbrev day_from_lem : Option Day
  day_from_lem = day_from (headers_of ls J) hs ts ns X

  -- ---- A refusal

  pub write_refused : (r : Refusal) (out : Bytes) → Err r ≡ settled_for day_from_lem (length out) → outcome (Err r) out ≡ writing ls J hs ts ns X out
  unfolding writing write_as
  write_refused r out e = go day_from_lem e
    where
      by : (day : Day) (a b : Bool) → Err r ≡ (if a then Err TooLong else if b then Err NoRoom else Ok (length (write_day day)))
          → outcome (Err r) out ≡ (if a then refused 4 out else if b then refused 6 out else done (length (write_day day)) (write_day day) out)
      by day true b e = ap (λ (x : Result ℕ Refusal). outcome x out) e
      by day false true e = ap (λ (x : Result ℕ Refusal). outcome x out) e
      by day false false e = absurd (refuses r (ap number_in e))

      go : (o : Option Day) → Err r ≡ settled_for o (length out) → outcome (Err r) out ≡ write_as o out
      go none e = ap (λ (x : Result ℕ Refusal). outcome x out) e
      go (some day) e = by day (ltb longest_file (length (write_day day))) (ltb (length out) (length (write_day day))) e

  -- ---- No refusal

  -- the lists are within the layout, and their file of n bytes is short enough and has room
  pub record Accepted (n room : ℕ) : Type 0 where
    pub headed : present (headers_of ls J) ≡ true
    pub recorded : records_right (length ls) hs ts ns X ≡ true
    pub all : Handed ls J hs ts ns X
    pub is : n ≡ length (write_day all.day)
    pub short : size_of (length ls) (length J) (length ns) (length X) ≤ 65536
    pub has_room : size_of (length ls) (length J) (length ns) (length X) ≤ room

  pub accepted : (n room : ℕ) → Ok n ≡ settled_for day_from_lem room → Accepted n room
  accepted n room e = go (present (headers_of ls J)) refl (records_right (length ls) hs ts ns X) refl
    where
      never : day_from_lem ≡ none → Accepted n room
      never q = absurd (omega (arith, ap number_in (e ∙ ap (λ (o : Option Day). settled_for o room) q)))

      fits : (day : Day) (a b : Bool) → ltb longest_file (length (write_day day)) ≡ a → ltb room (length (write_day day)) ≡ b
          → Ok n ≡ (if a then Err TooLong else if b then Err NoRoom else Ok (length (write_day day)))
          → (n ≡ length (write_day day)) × ((length (write_day day) ≤ 65536) × (length (write_day day) ≤ room))
      fits day true b p q w = absurd (omega (arith, ap number_in w))
      fits day false true p q w = absurd (omega (arith, ap number_in w))
      fits day false false p q w = (ap size_in w, (ltb-false longest_file (length (write_day day)) p, ltb-false room (length (write_day day)) q))

      go : (a : Bool) → present (headers_of ls J) ≡ a → (b : Bool) → records_right (length ls) hs ts ns X ≡ b → Accepted n room
      go false p b q = never (unheaded ls J hs ts ns X p)
      go true p false q = never (unrecorded ls J hs ts ns X p q)
      go true p true q =
          let h = handed ls J hs ts ns X p q in
          let all = fits h.day (ltb longest_file (length (write_day h.day))) (ltb room (length (write_day h.day))) refl refl (e ∙ ap (λ (o : Option Day). settled_for o room) h.is) in
          record { headed = p; recorded = q; all = h; is = all.0; short = omega (arith, all.1.0, h.size); has_room = omega (arith, all.1.1, h.size) }

  module _ (h : Handed ls J hs ts ns X) where
    abbrev head_bytes : Bytes
    head_bytes = headers_written (headers_of ls J)

    abbrev record_bytes : Bytes
    record_bytes = records_written (records_of (length ls) hs ts ns X)

    heads_are : head_bytes ≡ write_strings h.day.headers
    heads_are = ap headers_written h.headers_are

    records_are : record_bytes ≡ write_records h.day.records
    records_are = ap records_written h.records_are

    pub heads_long : length head_bytes ≡ 2 * length ls + length J
    heads_long = ap length heads_are ∙ (headers_listed_lem ls J h.day.headers h.headers_are).size

    pub records_long_here : length record_bytes ≡ 7 * length ns + length X
    records_long_here = ap length records_are ∙ (records_listed_lem (length ls) hs ts ns X h.day.records h.records_are).size

    by_lengths : IfPlaced ns (some h.day.records)
    by_lengths = subst (IfPlaced ns) h.records_are (placed_by (length ls) hs ts ns X)

    pub total_is : total ns ≡ 7 * length ns + length X
    total_is = by_lengths.1 ∙ ap length (sym records_are) ∙ records_long_here

    -- the file's parts
    parts : (first : ℕ) → first ≡ 8 + length head_bytes
        → digits 256 4 (length ls) ++ (head_bytes ++ (digits 256 4 (length ns) ++ (record_bytes ++ (digits 256 4 (length ns) ++ (write_places (places_by first ns) ++ [])))))
        ≡ write_day h.day
    unfolding write_index
    parts first e =
        let day = h.day in
        let at : first ≡ first_place day.headers = e ∙ ap (λ (w : Bytes). 8 + length w) heads_are ∙ sym (first_place_lem day.headers) in
        let places : write_places (places_by first ns) ++ [] ≡ write_places (places_from (first_place day.headers) day.records) =
        append-nil (write_places (places_by first ns)) ∙ ap write_places (by_lengths.0 first ∙ ap (λ (k : ℕ). places_from k day.records) at) in
        (λ i. digits 256 4 (sym h.headers_many i) ++ (heads_are i ++ (digits 256 4 (sym h.records_many i) ++ (records_are i ++ (digits 256 4 (sym h.records_many i) ++ places i)))))
        ∙ sym (day_then day)

    module _ (out o1 o2 o3 o4 o5 o6 : Bytes) (end index : ℕ) (room : size_of (length ls) (length J) (length ns) (length X) ≤ length out)
        (p1 : o1 ≡ placed 0 (digits 256 4 (length ls)) out) (k1 : length o1 ≡ length out)
        (ended : end ≡ 4 + length head_bytes) (p2 : o2 ≡ placed 4 head_bytes o1) (k2 : length o2 ≡ length o1)
        (p3 : o3 ≡ placed end (digits 256 4 (length ns)) o2) (k3 : length o3 ≡ length o2)
        (indexed : index ≡ end + 4 + length record_bytes) (p4 : o4 ≡ placed (end + 4) record_bytes o3) (k4 : length o4 ≡ length o3)
        (p5 : o5 ≡ placed index (digits 256 4 (length ns)) o4) (k5 : length o5 ≡ length o4)
        (p6 : o6 ≡ placed (index + 4) (write_places (places_by (end + 4) ns)) o5) (k6 : length o6 ≡ length o5) where
      all_put : o6 ≡ placed 0 (write_day h.day) out
      all_put =
          let c = digits 256 4 (length ls) in
          let d = digits 256 4 (length ns) in
          let places = write_places (places_by (end + 4) ns) in
          let whole = c ++ (head_bytes ++ (d ++ (record_bytes ++ (d ++ (places ++ []))))) in
          let lc = length_digits 256 4 (length ls) in
          let ld = length_digits 256 4 (length ns) in
          let first_at : end + 4 ≡ 8 + length head_bytes = omega (arith, ended) in
          let places_size : length places ≡ 4 * length ns =
          ap (λ (l : List ℕ). length (write_places l)) (by_lengths.0 (end + 4))
          ∙ places_long (places_from (end + 4) h.day.records)
          ∙ omega (arith, places_many (end + 4) h.day.records, h.records_many) in
          let a = put_more c (head_bytes ++ (d ++ (record_bytes ++ (d ++ (places ++ []))))) o1 4 (put_none whole 0 out) refl p1 (omega (arith, lc)) (omega (arith, room)) k1 in
          let b = put_more head_bytes (d ++ (record_bytes ++ (d ++ (places ++ [])))) o2 end a refl p2 ended (omega (arith, room, ended, heads_long)) k2 in
          let c3 = put_more d (record_bytes ++ (d ++ (places ++ []))) o3 (end + 4) b refl p3 (omega (arith, ld)) (omega (arith, room, ended, heads_long)) k3 in
          let c4 = put_more record_bytes (d ++ (places ++ [])) o4 index c3 refl p4 indexed (omega (arith, room, ended, heads_long, indexed, records_long_here)) k4 in
          let c5 = put_more d (places ++ []) o5 (index + 4) c4 refl p5 (omega (arith, ld)) (omega (arith, room, ended, heads_long, indexed, records_long_here)) k5 in
          let c6 = put_more places [] o6 (index + 4 + length places) c5 refl p6 refl (omega (arith, room, ended, heads_long, indexed, records_long_here, places_size)) k6 in
          (put_all c6 refl).1 ∙ ap (λ (w : Bytes). placed 0 w out) (parts (end + 4) first_at)

      pub wrote : (n : ℕ) → n ≡ length (write_day h.day) → size_of (length ls) (length J) (length ns) (length X) ≤ 65536 → outcome (Ok n) o6 ≡ writing ls J hs ts ns X out
      unfolding writing write_as
      wrote n is short =
          let file = write_day h.day in
          let start : 0 + length file ≡ length file = omega arith in
          let last : o6 ≡ file ++ drop (length file) out = all_put ∙ ap (λ (k : ℕ). file ++ drop k out) start in
          (λ i. record { number = 0; size = is i; output = last i })
          ∙ sym
          (ap (λ (o : Option Day). write_as o out) h.is
          ∙ (λ i. if le-ltb longest_file (length file) (omega (arith, h.size)) i then refused 4 out else if le-ltb (length out) (length file) (omega (arith, h.size)) i then refused 6 out else done (length file) file out))
