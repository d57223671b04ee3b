-- A walk over records that stand in a buffer, and the index that it makes.
use mathlib.Core.List.{List, [], ◌∷◌, ◌++◌, append_assoc, append-nil}
use mathlib.Core.Path.{◌≡◌, refl, ap, ap₂, sym, ◌∙◌}
use Prim.Native.Nat.{ℕ, zero, suc, ◌+◌, ◌*◌, ◌≤◌, ◌<◌}
use native.Mathlib.Numerals.{add-one}
use native.Mathlib.Omega.{arith}
use lib.ListN.{length, get_or, take, drop, take-append-drop, length-append}
use lib.Seq.{take-suc, take_all, drop_at, drop-cons, drop-drop}
use Rattle.paper.specs.Strings.{Bytes, digits}
use Rattle.paper.specs.DayFile.{Record, write_record, write_records, places_from, write_places, value}
use Rattle.laws.proofs.DayNumbers.{value_four}
use Rattle.laws.proofs.DayWritten.{record_long, records_long, records_append}
use Rattle.day_steps.specs.Walks.{entry_at}
use Rattle.day_place.specs.Walked.{end_of, places_of}

-- ---- How far it comes

pub rises : (f : Bytes) (first n m : ℕ) → end_of f first n + 7 * m ≤ end_of f first (n + m)
unfolding end_of
rises f first n zero = let here : n + 0 ≡ n = omega arith in omega (arith, ap (end_of f first) here)
rises f first n (suc m) =
    let more : n + suc m ≡ suc (n + m) = omega arith in
    omega (arith, rises f first n m, ap (end_of f first) more)

-- one record more
pub end_more : (f : Bytes) (first n : ℕ) → end_of f first (n + 1) ≡ (entry_at f (end_of f first n)).end
unfolding end_of
end_more f first n = ap (end_of f first) (add-one n)

pub places_more : (f : Bytes) (first n : ℕ) → places_of f first (n + 1) ≡ places_of f first n ++ end_of f first n ∷ []
unfolding places_of
places_more f first n = ap (places_of f first) (add-one n)

pub places_count : (f : Bytes) (first n : ℕ) → length (places_of f first n) ≡ n
unfolding places_of
places_count f first zero = refl
places_count f first (suc n) = omega (arith, length-append (places_of f first n) (end_of f first n ∷ []), places_count f first n)

pub write_more : (ps : List ℕ) (p : ℕ) → write_places (ps ++ p ∷ []) ≡ write_places ps ++ digits 256 4 p
unfolding write_places
write_more [] p = append-nil (digits 256 4 p)
write_more (q ∷ ps) p = ap (λ (w : Bytes). digits 256 4 q ++ w) (write_more ps p) ∙ sym (append_assoc (digits 256 4 q) (write_places ps) (digits 256 4 p))

-- ---- Over the records of a list

-- the place after all of these
from_more : (at : ℕ) (rs : List Record) (r : Record) → places_from at (rs ++ r ∷ []) ≡ places_from at rs ++ (at + length (write_records rs)) ∷ []
unfolding places_from write_records
from_more at [] r = let here : at ≡ at + 0 = omega arith in ap (λ (n : ℕ). n ∷ []) here
from_more at (s ∷ rs) r =
    let w = length (write_record s) in
    let same : at + w + length (write_records rs) ≡ at + length (write_record s ++ write_records rs) = omega (arith, length-append (write_record s) (write_records rs)) in
    ap (λ (l : List ℕ). at ∷ l) (from_more (at + w) rs r ∙ ap (λ (n : ℕ). places_from (at + w) rs ++ n ∷ []) same)

module _ (X : Bytes) (rs : List Record) (first : ℕ) (here : length X ≡ first) (Y : Bytes) (short : length X + length (write_records rs) < 4294967296) where
  abbrev f : Bytes
  f = X ++ (write_records rs ++ Y)

  place : ℕ → ℕ
  place i = first + length (write_records (take i rs))

  parted : (i : ℕ) → i < length rs → (d : Record) → write_records rs ≡ write_records (take i rs) ++ (write_record (get_or rs i d) ++ write_records (drop (suc i) rs))
  unfolding write_records
  parted i p d =
      ap write_records (sym (take-append-drop i rs))
      ∙ records_append (take i rs) (drop i rs)
      ∙ ap (λ (l : List Record). write_records (take i rs) ++ write_records l) (drop-cons rs i d p)

  -- what stands at the place of record i
  stands : (i : ℕ) → i < length rs → (d : Record) → drop (place i) f ≡ write_record (get_or rs i d) ++ (write_records (drop (suc i) rs) ++ Y)
  unfolding place write_records
  stands i p d =
      let r = get_or rs i d in
      let earlier = write_records (take i rs) in
      let later = write_records (drop (suc i) rs) in
      sym (drop-drop (length earlier) first f)
      ∙ ap (drop (length earlier)) (drop_at X (write_records rs ++ Y) first here ∙ ap (λ (w : Bytes). w ++ Y) (parted i p d) ∙ append_assoc earlier (write_record r ++ later) Y)
      ∙ drop_at earlier (write_record r ++ later ++ Y) (length earlier) refl
      ∙ append_assoc (write_record r) later Y

  sealed_long : (i : ℕ) → i < length rs → (d : Record) → (entry_at f (place i)).end ≡ place i + length (write_record (get_or rs i d))
  unfolding write_record digits
  sealed_long i p d =
      let r = get_or rs i d in
      let earlier = write_records (take i rs) in
      let later = write_records (drop (suc i) rs) in
      let small : length r.sealed < 4294967296 =
      omega (arith, short, ap length (parted i p d), length-append earlier (write_record r ++ later), length-append (write_record r) later, record_long r) in
      let size : value (take 4 (drop (place i + 3) f)) ≡ length r.sealed =
      ap (λ (w : Bytes). value (take 4 w)) (sym (drop-drop 3 (place i) f) ∙ ap (drop 3) (stands i p d)) ∙ value_four (length r.sealed) small in
      omega (arith, size, record_long r)

  reached : (d : Record) (i : ℕ) → i ≤ length rs → end_of f first i ≡ place i
  unfolding end_of place write_records
  reached d zero p = omega arith
  reached d (suc i) p =
      let r = get_or rs i d in
      ap (λ (n : ℕ). (entry_at f n).end) (reached d i (omega arith))
      ∙ sealed_long i (omega arith) d
      ∙ omega
      (arith, ap (λ (l : List Record). length (write_records l)) (take-suc rs i d (omega arith)), ap length (records_append (take i rs) (r ∷ [])), length-append (write_records (take i rs)) (write_records (r ∷ [])), records_long r [], record_long r)

  passed : (d : Record) (i : ℕ) → i ≤ length rs → places_of f first i ≡ places_from first (take i rs)
  unfolding places_of places_from place
  passed d zero p = refl
  passed d (suc i) p =
      ap₂ (λ (l : List ℕ) (n : ℕ). l ++ n ∷ []) (passed d i (omega arith)) (reached d i (omega arith))
      ∙ sym (from_more first (take i rs) (get_or rs i d))
      ∙ ap (places_from first) (sym (take-suc rs i d (omega arith)))

  abbrev none : Record
  none = record { header = 0; stretch = 0; sealed = [] }

  -- it comes to each of them
  pub walk_at : (i : ℕ) → i ≤ length rs → end_of f first i ≡ first + length (write_records (take i rs))
  unfolding place
  walk_at i p = reached none i p

  pub walk_there : (i : ℕ) → i < length rs → (d : Record) → drop (end_of f first i) f ≡ write_record (get_or rs i d) ++ (write_records (drop (suc i) rs) ++ Y)
  walk_there i p d = ap (λ (n : ℕ). drop n f) (reached none i (omega arith)) ∙ stands i p d

  -- it comes to the end of them, and passes their places
  pub walk_ends : end_of f first (length rs) ≡ first + length (write_records rs)
  unfolding place
  walk_ends =
      reached none (length rs) (omega arith) ∙ ap (λ (l : List Record). first + length (write_records l)) (take_all (length rs) rs (omega arith))

  pub walk_places : places_of f first (length rs) ≡ places_from first rs
  walk_places = passed none (length rs) (omega arith) ∙ ap (places_from first) (take_all (length rs) rs (omega arith))
