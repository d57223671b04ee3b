-- What the lists are: the day that is handed over, and how long its file is; or that they are outside the layout.
use mathlib.Core.Bool.{Bool, true, false, ◌&&◌}
use mathlib.Core.List.{List}
use mathlib.Core.Option.{Option, none, some}
use mathlib.Core.Path.{◌≡◌, refl, ap, sym, ◌∙◌}
use Prim.Native.Nat.{ℕ, ◌≤◌, ◌<◌}
use native.Mathlib.Omega.{arith}
use borrow.Author.Tests.{lt-ltb, le-ltb}
use lib.Dec.{eqb, ltb}
use lib.ListN.{length}
use Rattle.std.specs.Prelude.{Ok, Err, if◌then◌else◌}
use Rattle.paper.specs.Strings.{Bytes}
use Rattle.paper.specs.DayFile.{Record, Day, write_day, longest_file, present, headers_of, records_of, day_of, day_from}
use Rattle.answer.specs.declared.Refusal.TheVariants.{TooLong, NoRoom, NoRecord}
use Rattle.laws.proofs.Sealing.{and_true}
use Rattle.laws.proofs.DayWritten.{first_place_lem, day_long}
use Rattle.laws.proofs.DayLists.{HeadersListed, headers_listed_lem, RecordsListed, records_listed_lem}
use Rattle.day_fit.specs.Fits.{records_right}
use Rattle.day_write.specs.Settled.{size_of, settled_for}

some_of : {A : Type 0} (o : Option A) → present o ≡ true → (x : A) × (o ≡ some x)
some_of none e = absurd (let z : ◌≡◌ {A = ℕ} 0 1 = cc in omega arith)
some_of (some x) e = (x, refl)

none_of : {A : Type 0} (o : Option A) → present o ≡ false → o ≡ none
none_of none e = refl
none_of (some x) e = cc

module _ (ls : List ℕ) (J : Bytes) (hs ts ns : List ℕ) (X : Bytes) where
  abbrev day_from_lem : Option Day
  day_from_lem = day_from (headers_of ls J) hs ts ns X

  -- the lists are these headers and records
  pub record Handed : Type 0 where
    pub day : Day
    pub is : day_from_lem ≡ some day
    pub headers_are : headers_of ls J ≡ some day.headers
    pub records_are : records_of (length ls) hs ts ns X ≡ some day.records
    pub headers_many : length day.headers ≡ length ls
    pub records_many : length day.records ≡ length ns
    pub size : length (write_day day) ≡ size_of (length ls) (length J) (length ns) (length X)

  pub unheaded : present (headers_of ls J) ≡ false → day_from_lem ≡ none
  unfolding day_from
  unheaded e = ap (λ (o : Option (List Bytes)). day_from o hs ts ns X) (none_of (headers_of ls J) e)

  module _ (headed : present (headers_of ls J) ≡ true) where
    abbrev found : (heads : List Bytes) × (headers_of ls J ≡ some heads)
    found = some_of (headers_of ls J) headed

    listed : HeadersListed ls J found.0
    listed = headers_listed_lem ls J found.0 found.1

    by_records : day_from_lem ≡ (if eqb (length hs) (length ns) && eqb (length ts) (length ns) then day_of found.0 (records_of (length ls) hs ts ns X) else none)
    unfolding day_from
    by_records =
        ap (λ (o : Option (List Bytes)). day_from o hs ts ns X) found.1
        ∙ ap (λ (n : ℕ). if eqb (length hs) (length ns) && eqb (length ts) (length ns) then day_of found.0 (records_of n hs ts ns X) else none) listed.count

    pub unrecorded : records_right (length ls) hs ts ns X ≡ false → day_from_lem ≡ none
    unrecorded e = by_records ∙ go (eqb (length hs) (length ns) && eqb (length ts) (length ns)) (records_of (length ls) hs ts ns X) e
      where
        go : (b : Bool) (o : Option (List Record)) → (b && present o) ≡ false → (if b then day_of found.0 o else none) ≡ none
        go true none e = refl
        go true (some rs) e = cc
        go false o e = refl

    pub handed : records_right (length ls) hs ts ns X ≡ true → Handed
    handed e =
        let all = and_true (eqb (length hs) (length ns) && eqb (length ts) (length ns)) (present (records_of (length ls) hs ts ns X)) e in
        let rs = some_of (records_of (length ls) hs ts ns X) all.1 in
        let w : RecordsListed (length ls) ns X rs.0 = records_listed_lem (length ls) hs ts ns X rs.0 rs.1 in
        let day : Day = record { headers = found.0; records = rs.0 } in
        record {
          day = day;
          is =
              by_records
              ∙ ap (λ (b : Bool). if b then day_of found.0 (records_of (length ls) hs ts ns X) else none) all.0
              ∙ ap (day_of found.0) rs.1;
          headers_are = found.1;
          records_are = rs.1;
          headers_many = listed.count;
          records_many = w.count;
          size = omega (arith, day_long day, first_place_lem found.0, listed.size, w.size, w.count);
        }

-- ---- The answer

-- r is the file's length, or both are above 65,536
abbrev pub Sized : ℕ → ℕ → Type 0
Sized r size = (r ≤ 65536 → r ≡ size) × (65536 < r → 65536 < size)

module _ (o : Option Day) (room : ℕ) where
  pub settled_9 : o ≡ none → Err NoRecord ≡ settled_for o room
  settled_9 e = sym (ap (λ (x : Option Day). settled_for x room) e)

  module _ (day : Day) (is : o ≡ some day) (r : ℕ) (sized : Sized r (length (write_day day))) where
    by_tests : (a b : Bool) → ltb longest_file (length (write_day day)) ≡ a → ltb room (length (write_day day)) ≡ b
        → (if a then Err TooLong else if b then Err NoRoom else Ok (length (write_day day))) ≡ settled_for o room
    by_tests a b p q =
        (λ i. if sym p i then Err TooLong else if sym q i then Err NoRoom else Ok (length (write_day day))) ∙ sym (ap (λ (x : Option Day). settled_for x room) is)

    pub settled_4 : 65536 < r → Err TooLong ≡ settled_for o room
    settled_4 p = by_tests true (ltb room (length (write_day day))) (lt-ltb longest_file (length (write_day day)) (sized.1 p)) refl

    short : r ≤ 65536 → ltb longest_file (length (write_day day)) ≡ false
    short p = le-ltb longest_file (length (write_day day)) (omega (arith, sized.0 p))

    pub settled_6 : r ≤ 65536 → room < r → Err NoRoom ≡ settled_for o room
    settled_6 p q = by_tests false true (short p) (lt-ltb room (length (write_day day)) (omega (arith, sized.0 p)))

    pub settled_0 : r ≤ 65536 → r ≤ room → Ok r ≡ settled_for o room
    settled_0 p q = ap Ok (sized.0 p) ∙ by_tests false false (short p) (le-ltb room (length (write_day day)) (omega (arith, sized.0 p)))
