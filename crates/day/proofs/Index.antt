-- A walk over the records with the index beside it: what is still to be seen of both.
use mathlib.Core.Bool.{Bool, true, false, ◌&&◌}
use mathlib.Core.List.{List, [], ◌∷◌, ◌++◌}
use mathlib.Core.Option.{Option, none, some}
use mathlib.Core.Path.{◌≡◌, refl, ap, sym, ◌∙◌}
use Prim.Native.Nat.{ℕ, ◌+◌, ◌-◌, ◌*◌, ◌≤◌, ◌<◌}
use native.Mathlib.Omega.{arith}
use borrow.Author.Tests.{eqb-true, eqb-false, eq-eqb, ne_eqb}
use lib.Dec.{eqb}
use lib.ListN.{length, take, drop, length-append, length-drop, take-append-drop, drop_of_length-le}
use lib.Seq.{length-take-le, drop-drop, drop-append_seam}
use Rattle.paper.specs.Strings.{Bytes, Below, same, digits}
use Rattle.paper.specs.DayFile.{Record, write_record, write_records, places_from, write_places, value, before, read_records}
use Rattle.laws.proofs.BitStrings.{length_digits}
use Rattle.laws.proofs.Digits.{below_take, below_drop}
use Rattle.laws.proofs.Sealing.{same_itself, same_equal}
use Rattle.laws.proofs.DayNumbers.{value_four, digits_four}
use Rattle.laws.proofs.DayWritten.{places_many, places_long}
use Rattle.laws.proofs.DayWritten as written
use Rattle.laws.proofs.DayReading.{IfRecords, RecordsWritten, records_written_lem}
use Rattle.day_steps.specs.declared.Entry.{Entry}
use Rattle.std.specs.Prelude.{Some, None}
use Rattle.day_steps.specs.Walks.{record_of, RecordStep}
use Rattle.day.specs.Checks.{index_from, right_index}
use Rattle.day_steps.proofs.Sections.{one_left}

-- ---- Strings that are compared

and_assoc : (a b c : Bool) → (a && (b && c)) ≡ (a && b && c)
and_assoc true b c = refl
and_assoc false b c = refl

-- two strings in two parts
same_parts : (A B C D : Bytes) → length A ≡ length C → same (A ++ B) (C ++ D) ≡ (same A C && same B D)
unfolding same
same_parts [] B [] D e = refl
same_parts [] B (c ∷ C) D e = absurd (omega arith)
same_parts (a ∷ A) B [] D e = absurd (omega arith)
same_parts (a ∷ A) B (c ∷ C) D e = ap (λ (b : Bool). eqb a c && b) (same_parts A B C D (omega arith)) ∙ and_assoc (eqb a c) (same A C) (same B D)

same_false : (X Y : Bytes) → (X ≡ Y → ⊥) → same X Y ≡ false
same_false X Y n = go (same X Y) refl
  where
    go : (b : Bool) → same X Y ≡ b → same X Y ≡ false
    go true e = absurd (n (same_equal X Y e))
    go false e = e

-- four bytes are compared with those of a number as numbers are
pub same_number : (X : Bytes) (m : ℕ) → length X ≡ 4 → Below 256 X → m < 4294967296 → eqb (value X) m ≡ same X (digits 256 4 m)
same_number X m four low p = go (eqb (value X) m) refl
  where
    go : (b : Bool) → eqb (value X) m ≡ b → eqb (value X) m ≡ same X (digits 256 4 m)
    go true e =
        let is : X ≡ digits 256 4 m = sym (digits_four X four low) ∙ ap (digits 256 4) (eqb-true (value X) m e) in
        e ∙ sym (ap (λ (Y : Bytes). same Y (digits 256 4 m)) is ∙ same_itself (digits 256 4 m))
    go false e =
        e ∙ sym (same_false X (digits 256 4 m) (λ is. eqb-false (value X) m e (ap value is ∙ value_four m p)))

-- ---- What is still to be seen, of a file f with m records

-- what follows the records is as long as the index, and begins with its count
abbrev count_right : ℕ → Bytes → Bool
count_right m rest = eqb (length rest) (4 + 4 * m) && same (take 4 rest) (digits 256 4 m)

-- and from a place on stand the entries of the records from another place on
abbrev pub pending : Bytes → ℕ → ℕ → ℕ → Option (List Record × Bytes) → Bool
pending f m at place none = false
pending f m at place (some (rs, rest)) = count_right m rest && same (drop place f) (write_places (places_from at rs))

module _ (f : Bytes) (low : Below 256 f) (short : length f ≤ 65536) (m : ℕ) where
  -- ---- Before the first record

  module _ (first : ℕ) (inside : first ≤ length f) (rs : List Record) (rest : Bytes) (headers : ℕ) (w : RecordsWritten headers m (drop first f) rs rest) where
    abbrev entries : Bytes
    entries = write_places (places_from first rs)

    entries_long : length entries ≡ 4 * m
    entries_long = places_long (places_from first rs) ∙ omega (arith, places_many first rs, w.count)

    file_long : length f ≡ first + length (write_records rs) + length rest
    file_long = omega (arith, ap length w.bytes, length-append (write_records rs) rest, length-drop first f)

    -- the entries are the file's last bytes
    last_bytes_lem : length rest ≡ 4 + 4 * m → drop 4 rest ≡ drop (length f - 4 * m) f
    last_bytes_lem e =
        let place : first + length (write_records rs) + 4 ≡ length f - 4 * m = omega (arith, file_long) in
        ap (drop 4)
        (sym (drop-append_seam (write_records rs) rest) ∙ ap (drop (length (write_records rs))) w.bytes ∙ drop-drop (length (write_records rs)) first f)
        ∙ drop-drop 4 (first + length (write_records rs)) f
        ∙ ap (λ (k : ℕ). drop k f) place

    index_right : same rest (index_from first rs) ≡ (count_right m rest && same (drop (length f - 4 * m) f) entries)
    index_right = go (eqb (length rest) (4 + 4 * m)) refl
      where
        go : (b : Bool) → eqb (length rest) (4 + 4 * m) ≡ b
            → same rest (index_from first rs) ≡ (b && same (take 4 rest) (digits 256 4 m) && same (drop (length f - 4 * m) f) entries)
        go true e =
            let long : length rest ≡ 4 + 4 * m = eqb-true (length rest) (4 + 4 * m) e in
            let front : length (take 4 rest) ≡ length (digits 256 4 (length rs)) = length-take-le 4 rest (omega arith) ∙ sym (length_digits 256 4 (length rs)) in
            ap (λ (X : Bytes). same X (index_from first rs)) (sym (take-append-drop 4 rest))
            ∙ same_parts (take 4 rest) (drop 4 rest) (digits 256 4 (length rs)) entries front
            ∙ (λ i. same (take 4 rest) (digits 256 4 (w.count i)) && same (last_bytes_lem long i) entries)
        go false e =
            same_false rest (index_from first rs)
            (λ is. eqb-false (length rest) (4 + 4 * m) e
            (ap length is ∙ length-append (digits 256 4 (length rs)) entries ∙ omega (arith, length_digits 256 4 (length rs), entries_long)))

  pub begun : (headers first : ℕ) → first ≤ length f
      → right_index first (read_records headers m (drop first f)) ≡ pending f m first (length f - 4 * m) (read_records headers m (drop first f))
  begun headers first inside = go (read_records headers m (drop first f)) (records_written_lem headers m (drop first f) (below_drop 256 first f low))
    where
      go : (o : Option (List Record × Bytes)) → IfRecords headers m (drop first f) o → right_index first o ≡ pending f m first (length f - 4 * m) o
      go none w = refl
      go (some (rs, rest)) w = index_right first inside rs rest headers w

  -- ---- A record, and its entry

  module _ (at place : ℕ) (inside : at ≤ length f) (has-entry : place + 4 ≤ length f) where
    here : Bytes
    here = take 4 (drop place f)

    here_long : length here ≡ 4
    unfolding here
    here_long = length-take-le 4 (drop place f) (omega (arith, length-drop place f))

    entry_same : eqb (value (take 4 (drop place f))) at ≡ same here (digits 256 4 at)
    unfolding here
    entry_same = same_number here at here_long (below_take 256 4 (drop place f) (below_drop 256 place f low)) (omega arith)

    -- what is to be seen of the entries is the first, and the others
    split : (r : Record) (rs : List Record)
        → same (drop place f) (write_places (places_from at (r ∷ rs))) ≡ (eqb (value (take 4 (drop place f))) at && same (drop (place + 4) f) (write_places (places_from (at + length (write_record r)) rs)))
    unfolding here places_from write_places
    split r rs =
        let others = write_places (places_from (at + length (write_record r)) rs) in
        ap (λ (X : Bytes). same X (digits 256 4 at ++ others)) (sym (take-append-drop 4 (drop place f)))
        ∙ same_parts here (drop 4 (drop place f)) (digits 256 4 at) others (here_long ∙ sym (length_digits 256 4 at))
        ∙ (λ i. sym entry_same i && same (drop-drop 4 place f i) others)

    module _ (r : Record) where
      -- its entry is its place
      pub entry_right : value (take 4 (drop place f)) ≡ at → (o : Option (List Record × Bytes)) → pending f m at place (before r o) ≡ pending f m (at + length (write_record r)) (place + 4) o
      entry_right e none = refl
      entry_right e (some (rs, rest)) =
          let others = same (drop (place + 4) f) (write_places (places_from (at + length (write_record r)) rs)) in
          ap (λ (b : Bool). count_right m rest && b) (split r rs ∙ ap (λ (b : Bool). b && others) (eq-eqb (value (take 4 (drop place f))) at e))

      -- or is not
      pub entry_wrong : (value (take 4 (drop place f)) ≡ at → ⊥) → (o : Option (List Record × Bytes)) → pending f m at place (before r o) ≡ false
      entry_wrong n none = refl
      entry_wrong n (some (rs, rest)) =
          let others = same (drop (place + 4) f) (write_places (places_from (at + length (write_record r)) rs)) in
          ap (λ (b : Bool). count_right m rest && b) (split r rs ∙ ap (λ (b : Bool). b && others) (ne_eqb (value (take 4 (drop place f))) at n))
          ∙ and_none (count_right m rest)
        where
          and_none : (a : Bool) → (a && false) ≡ false
          and_none true = refl
          and_none false = refl

  module _ (headers left at place : ℕ) (some_left : 0 < left) (inside : at ≤ length f) (has-entry : place + 4 ≤ length f) where
    abbrev rest_read : Option (List Record × Bytes)
    rest_read = read_records headers left (drop at f)

    read_on : (e : Entry) → RecordStep (Some e) f headers at → rest_read ≡ before (record_of f e) (read_records headers (left - 1) (drop e.end f))
    read_on e s = ap (λ (n : ℕ). read_records headers n (drop at f)) (one_left left some_left) ∙ s.2 (left - 1)

    -- the record ends where the next one stands
    ends : (e : Entry) → RecordStep (Some e) f headers at → at + length (write_record (record_of f e)) ≡ e.end
    ends e s =
        let start : e.start ≡ at + 7 = ap (λ (x : Entry). x.start) s.0 in
        let end : e.end ≡ at + 7 + value (take 4 (drop (at + 3) f)) = ap (λ (x : Entry). x.end) s.0 in
        let sealed : length (take (e.end - e.start) (drop e.start f)) ≡ e.end - e.start =
        length-take-le (e.end - e.start) (drop e.start f) (omega (arith, length-drop e.start f, s.1)) in
        omega (arith, written.record_long (record_of f e), sealed, start, end)

    pub records_turn : (e : Entry) → RecordStep (Some e) f headers at → value (take 4 (drop place f)) ≡ at
        → pending f m at place rest_read ≡ pending f m e.end (place + 4) (read_records headers (left - 1) (drop e.end f))
    records_turn e s right =
        let o = read_records headers (left - 1) (drop e.end f) in
        ap (pending f m at place) (read_on e s)
        ∙ entry_right at place inside has-entry (record_of f e) right o
        ∙ ap (λ (k : ℕ). pending f m k (place + 4) o) (ends e s)

    pub records_wrong : (e : Entry) → RecordStep (Some e) f headers at → (value (take 4 (drop place f)) ≡ at → ⊥) → pending f m at place rest_read ≡ false
    records_wrong e s wrong =
        ap (pending f m at place) (read_on e s) ∙ entry_wrong at place inside has-entry (record_of f e) wrong (read_records headers (left - 1) (drop e.end f))

    pub records_stop : RecordStep None f headers at → pending f m at place rest_read ≡ false
    records_stop s = ap (λ (n : ℕ). pending f m at place (read_records headers n (drop at f))) (one_left left some_left) ∙ ap (pending f m at place) (s (left - 1))

  -- ---- After the last record

  module _ (headers left at place : ℕ) (none_left : left ≤ 0) (inside : at ≤ length f) (seen : place ≡ length f) where
    and_all : (a : Bool) → (a && true) ≡ a
    and_all true = refl
    and_all false = refl

    only_count : pending f m at place (read_records headers left (drop at f)) ≡ count_right m (drop at f)
    unfolding read_records places_from write_places same
    only_count =
        let last : left ≡ 0 = omega arith in
        let gone : drop place f ≡ [] = drop_of_length-le f {i = place} (omega arith) in
        ap (λ (n : ℕ). pending f m at place (read_records headers n (drop at f))) last
        ∙ ap (λ (X : Bytes). count_right m (drop at f) && same X []) gone
        ∙ and_all (count_right m (drop at f))

    pub count_wrong : (length f - at ≡ 4 + 4 * m → ⊥) → pending f m at place (read_records headers left (drop at f)) ≡ false
    count_wrong n =
        only_count
        ∙ ap (λ (b : Bool). b && same (take 4 (drop at f)) (digits 256 4 m)) (ne_eqb (length (drop at f)) (4 + 4 * m) (λ e. n (sym (length-drop at f) ∙ e)))

    pub count_last : length f - at ≡ 4 + 4 * m → pending f m at place (read_records headers left (drop at f)) ≡ eqb (value (take 4 (drop at f))) m
    count_last e =
        only_count
        ∙ ap (λ (b : Bool). b && same (take 4 (drop at f)) (digits 256 4 m)) (eq-eqb (length (drop at f)) (4 + 4 * m) (length-drop at f ∙ e))
        ∙ sym (same_number (take 4 (drop at f)) m (length-take-le 4 (drop at f) (omega (arith, length-drop at f))) (below_take 256 4 (drop at f) (below_drop 256 at f low)) (omega arith))
