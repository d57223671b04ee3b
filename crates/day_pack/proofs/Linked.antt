-- The walks over a buffer's bytes where it holds a day: what is marked, kept and put is the cleared day's.
use mathlib.Core.Bool.{Bool, true, false, ◌&&◌, ◌||◌, not}
use mathlib.Core.List.{List, [], ◌∷◌, ◌++◌, append_assoc, append-nil, map}
use mathlib.Core.Path.{◌≡◌, refl, ap, ap₂, sym, ◌∙◌}
use Prim.Native.Nat.{ℕ, zero, suc, ◌+◌, ◌-◌, ◌≤◌, ◌<◌}
use native.Mathlib.Omega.{arith}
use lib.Dec.{eqb}
use lib.ListN.{length, get_or, take, drop, length-append, take-append-drop}
use lib.Seq.{length-take-le, take-suc, take_at, take-append_seam, drop_at, drop-cons, drop-drop}
use Rattle.std.specs.Prelude.{if◌then◌else◌}
use Rattle.paper.specs.Strings.{Bytes, digits}
use Rattle.paper.specs.Document01.{write_strings}
use Rattle.paper.specs.DayFile.{Record, write_record, write_records, value, record_fits}
use Rattle.paper.specs.DayEdits.{pick_from, count_below, has, keeps, named, mended}
use Rattle.laws.proofs.BitStrings.{length_digits}
use Rattle.laws.proofs.DayNumbers.{value_two}
use Rattle.laws.proofs.Headers.{write_append}
use Rattle.laws.proofs.DayWritten.{RecordsFit, strings_long, records_append, record_long}
use Rattle.laws.proofs.DayReading.{record_fits_lem}
use Rattle.laws.proofs.Picks.{pick_append}
use Rattle.day_place.specs.Walked.{end_of}
use Rattle.day_place.proofs.Walk.{walk_at, walk_there}
use Rattle.day_pack.specs.Bits.{bit_of, bits_below}
use Rattle.day_pack.specs.Kept.{number_of, named_by, kept_part, head_end, heads_kept, record_part, records_kept}

-- one entry more, where it is picked
pick_next : {A : Type 0} (p : ℕ → Bool) (xs : List A) (i : ℕ) (d : A) → i < length xs
    → pick_from p 0 (take (suc i) xs) ≡ pick_from p 0 (take i xs) ++ (if p i then get_or xs i d ∷ [] else [])
unfolding pick_from
pick_next p xs i d h =
    let here : 0 + length (take i xs) ≡ i = omega (arith, length-take-le i xs (omega arith)) in
    ap (pick_from p 0) (take-suc xs i d h)
    ∙ pick_append p 0 (take i xs) (get_or xs i d ∷ [])
    ∙ ap (λ (n : ℕ). pick_from p 0 (take i xs) ++ pick_from p n (get_or xs i d ∷ [])) here

-- ---- The headers

module _ (c : Bytes) (four : length c ≡ 4) (hs : List Bytes) (Y : Bytes) (short : length (write_strings hs) < 65536) where
  abbrev heads : Bytes
  heads = c ++ (write_strings hs ++ Y)

  header_there : (i : ℕ) → i < length hs
      → drop (4 + length (write_strings (take i hs))) heads ≡ digits 256 2 (length (get_or hs i [])) ++ (get_or hs i [] ++ (write_strings (drop (suc i) hs) ++ Y))
  unfolding write_strings
  header_there i p =
      let earlier = write_strings (take i hs) in
      let h = get_or hs i [] in
      let later = write_strings (drop (suc i) hs) in
      let parts : write_strings hs ≡ earlier ++ (digits 256 2 (length h) ++ h ++ later) =
      ap write_strings (sym (take-append-drop i hs)) ∙ write_append (take i hs) (drop i hs) ∙ ap (λ (l : List Bytes). earlier ++ write_strings l) (drop-cons hs i [] p) in
      sym (drop-drop (length earlier) 4 heads)
      ∙ ap (drop (length earlier)) (drop_at c (write_strings hs ++ Y) 4 four ∙ ap (λ (w : Bytes). w ++ Y) parts ∙ append_assoc earlier (digits 256 2 (length h) ++ h ++ later) Y)
      ∙ drop_at earlier (digits 256 2 (length h) ++ h ++ later ++ Y) (length earlier) refl
      ∙ append_assoc (digits 256 2 (length h) ++ h) later Y
      ∙ append_assoc (digits 256 2 (length h)) h (later ++ Y)

  next_long : (i : ℕ) → i < length hs → length (write_strings (take (suc i) hs)) ≡ length (write_strings (take i hs)) + (2 + length (get_or hs i []))
  unfolding write_strings
  next_long i p =
      let h = get_or hs i [] in
      omega
      (arith, ap (λ (l : List Bytes). length (write_strings l)) (take-suc hs i [] p), ap length (write_append (take i hs) (h ∷ [])), length-append (write_strings (take i hs)) (write_strings (h ∷ [])), strings_long h [])

  all_long : (i : ℕ) → i ≤ length hs → length (write_strings (take i hs)) ≤ length (write_strings hs)
  all_long i p =
      omega (arith, ap length (ap write_strings (sym (take-append-drop i hs)) ∙ write_append (take i hs) (drop i hs)), length-append (write_strings (take i hs)) (write_strings (drop i hs)))

  size_there : (i : ℕ) → i < length hs → value (take 2 (drop (4 + length (write_strings (take i hs))) heads)) ≡ length (get_or hs i [])
  size_there i p =
      let h = get_or hs i [] in
      ap (λ (w : Bytes). value (take 2 w)) (header_there i p)
      ∙ ap value (take_at (digits 256 2 (length h)) (h ++ (write_strings (drop (suc i) hs) ++ Y)) 2 (length_digits 256 2 (length h)))
      ∙ value_two (length h) (omega (arith, next_long i p, all_long (suc i) (omega arith), short))

  pub head_at : (i : ℕ) → i ≤ length hs → head_end heads i ≡ 4 + length (write_strings (take i hs))
  unfolding head_end write_strings
  head_at zero p = refl
  head_at (suc i) p =
      let e = head_at i (omega arith) in
      (λ j. e j + (2 + value (take 2 (drop (e j) heads)))) ∙ omega (arith, size_there i (omega arith), next_long i (omega arith))

  module _ (t : List ℕ) (p : ℕ → Bool) (marks : (n : ℕ) → n < 13104 → bit_of t n ≡ (if p n then 1 else 0)) (few : length hs ≤ 13104) where
    one_head : (i : ℕ) → i < length hs
        → kept_part (bit_of t i) (take (2 + value (take 2 (drop (head_end heads i) heads))) (drop (head_end heads i) heads)) ≡ write_strings (if p i then get_or hs i [] ∷ [] else [])
    unfolding write_strings
    one_head i q =
        let h = get_or hs i [] in
        let d = digits 256 2 (length h) in
        let rest = write_strings (drop (suc i) hs) ++ Y in
        let size : 2 + value (take 2 (drop (head_end heads i) heads)) ≡ length (d ++ h) =
        omega
        (arith, ap (λ (n : ℕ). value (take 2 (drop n heads))) (head_at i (omega arith)), size_there i q, length-append d h, length_digits 256 2 (length h)) in
        let part : take (2 + value (take 2 (drop (head_end heads i) heads))) (drop (head_end heads i) heads) ≡ d ++ h =
        (λ j. take (size j) (drop (head_at i (omega arith) j) heads))
        ∙ ap (take (length (d ++ h))) (header_there i q ∙ sym (append_assoc d h rest))
        ∙ take-append_seam (d ++ h) rest in
        (λ j. kept_part (marks i (omega (arith, few)) j) (part j)) ∙ go (p i)
      where
        go : (b : Bool) → kept_part (if b then 1 else 0) (digits 256 2 (length (get_or hs i [])) ++ get_or hs i []) ≡ write_strings (if b then get_or hs i [] ∷ [] else [])
        go true = sym (append-nil (digits 256 2 (length (get_or hs i [])) ++ get_or hs i []))
        go false = refl

    pub heads_are : (i : ℕ) → i ≤ length hs → heads_kept heads t i ≡ write_strings (pick_from p 0 (take i hs))
    unfolding heads_kept pick_from write_strings
    heads_are zero q = refl
    heads_are (suc i) q =
        ap₂ (λ (a b : Bytes). a ++ b) (heads_are i (omega arith)) (one_head i (omega arith))
        ∙ sym (ap write_strings (pick_next p hs i [] (omega arith)) ∙ write_append (pick_from p 0 (take i hs)) (if p i then get_or hs i [] ∷ [] else []))

-- ---- The records

pub fits_at : (headers : ℕ) (rs : List Record) → RecordsFit headers rs → (i : ℕ) → i < length rs → (d : Record) → record_fits headers (get_or rs i d) ≡ true
fits_at headers [] p i q d = absurd (omega arith)
fits_at headers (r ∷ rs) p zero q d = p.0
fits_at headers (r ∷ rs) p (suc i) q d = fits_at headers rs p.1 i (omega arith) d

named_last : (rs : List Record) (r : Record) (n : ℕ) → named (rs ++ r ∷ []) n ≡ (eqb r.header n || named rs n)
unfolding named
named_last [] r n = refl
named_last (s ∷ rs) r n = ap (λ (b : Bool). eqb s.header n || b) (named_last rs r n) ∙ swap (eqb s.header n) (eqb r.header n) (named rs n)
  where
    swap : (a b c : Bool) → (a || (b || c)) ≡ (b || (a || c))
    swap true true c = refl
    swap true false c = refl
    swap false b c = refl

map_append : {A B : Type 0} (g : A → B) (xs ys : List A) → map g (xs ++ ys) ≡ map g xs ++ map g ys
map_append g [] ys = refl
map_append g (x ∷ xs) ys = ap (λ (l : List _). g x ∷ l) (map_append g xs ys)

-- a record without its header's number
abbrev body : Record → Bytes
body r = r.stretch ∷ digits 256 4 (length r.sealed) ++ r.sealed

module _ (X : Bytes) (rs : List Record) (first : ℕ) (here : length X ≡ first) (Y : Bytes) (short : length X + length (write_records rs) < 4294967296) (headers : ℕ) (fits : RecordsFit headers rs)
    (dropped : List ℕ) where
  abbrev f : Bytes
  f = X ++ (write_records rs ++ Y)

  abbrev own : ℕ → Record
  own i = get_or rs i (record { header = 0; stretch = 0; sealed = [] })

  -- the records kept among the first i
  abbrev kept : ℕ → List Record
  kept i = pick_from (keeps dropped) 0 (take i rs)

  there : (i : ℕ) → i < length rs → drop (end_of f first i) f ≡ write_record (own i) ++ (write_records (drop (suc i) rs) ++ Y)
  there i p = walk_there X rs first here Y short i p (record { header = 0; stretch = 0; sealed = [] })

  pub number_is : (i : ℕ) → i < length rs → number_of f first i ≡ (own i).header
  unfolding write_record digits
  number_is i p =
      ap (λ (w : Bytes). value (take 2 w)) (there i p)
      ∙ value_two (own i).header (record_fits_lem headers (own i) (fits_at headers rs fits i p _)).0

  pub named_is : (i : ℕ) → i ≤ length rs → (n : ℕ) → named_by f dropped first i n ≡ named (kept i) n
  unfolding named_by pick_from named
  named_is zero p n = refl
  named_is (suc i) p n =
      (λ j. (keeps dropped i && eqb (number_is i (omega arith) j) n) || named_is i (omega arith) n j)
      ∙ go (keeps dropped i)
      ∙ ap (λ (l : List Record). named l n) (sym (pick_next (keeps dropped) rs i _ (omega arith)))
    where
      go : (b : Bool) → ((b && eqb (own i).header n) || named (kept i) n) ≡ named (kept i ++ (if b then own i ∷ [] else [])) n
      go true = sym (named_last (kept i) (own i) n)
      go false = ap (λ (l : List Record). named l n) (sym (append-nil (kept i)))

  next_end : (i : ℕ) → i < length rs → end_of f first (suc i) ≡ end_of f first i + length (write_record (own i))
  unfolding write_records
  next_end i p =
      omega
      (arith, walk_at X rs first here Y short (suc i) (omega arith), walk_at X rs first here Y short i (omega arith), ap (λ (l : List Record). length (write_records l)) (take-suc rs i (record { header = 0; stretch = 0; sealed = [] }) p), ap length (records_append (take i rs) (own i ∷ [])), length-append (write_records (take i rs)) (write_record (own i) ++ []), length-append (write_record (own i)) [])

  body_long : (r : Record) → length (body r) ≡ 5 + length r.sealed
  body_long r = omega (arith, length-append (r.stretch ∷ digits 256 4 (length r.sealed)) r.sealed, length_digits 256 4 (length r.sealed))

  body_is : (i : ℕ) → i < length rs → take (end_of f first (suc i) - (end_of f first i + 2)) (drop (end_of f first i + 2) f) ≡ body (own i)
  unfolding write_record digits
  body_is i p =
      let rest = write_records (drop (suc i) rs) ++ Y in
      let size : end_of f first (suc i) - (end_of f first i + 2) ≡ length (body (own i)) = omega (arith, next_end i p, record_long (own i), body_long (own i)) in
      ap (λ (n : ℕ). take n (drop (end_of f first i + 2) f)) size
      ∙ ap (take (length (body (own i)))) (sym (drop-drop 2 (end_of f first i) f) ∙ ap (drop 2) (there i p))
      ∙ take-append_seam (body (own i)) rest

  module _ (t : List ℕ) (all : List Record) (counts : (n : ℕ) → n ≤ 13104 → bits_below t n ≡ count_below (named all) n) (few : headers ≤ 13104) where
    one_record : (i : ℕ) → i < length rs
        → record_part (has dropped i) (bits_below t (number_of f first i)) (take (end_of f first (suc i) - (end_of f first i + 2)) (drop (end_of f first i + 2) f))
        ≡ write_records (map (mended all) (if keeps dropped i then own i ∷ [] else []))
    unfolding write_records write_record
    one_record i p =
        let low = (record_fits_lem headers (own i) (fits_at headers rs fits i p _)).1 in
        let number : bits_below t (number_of f first i) ≡ count_below (named all) (own i).header =
        ap (bits_below t) (number_is i p) ∙ counts (own i).header (omega (arith, low, few)) in
        (λ j. record_part (has dropped i) (number j) (body_is i p j)) ∙ go (has dropped i)
      where
        go : (b : Bool) → record_part b (count_below (named all) (own i).header) (body (own i)) ≡ write_records (map (mended all) (if not b then own i ∷ [] else []))
        go true = refl
        go false =
            sym
            (append-nil (write_record (mended all (own i)))
            ∙ append_assoc (digits 256 2 (count_below (named all) (own i).header)) ((own i).stretch ∷ digits 256 4 (length (own i).sealed)) (own i).sealed)

    pub records_are : (i : ℕ) → i ≤ length rs → records_kept f t dropped first i ≡ write_records (map (mended all) (kept i))
    unfolding records_kept pick_from write_records
    records_are zero p = refl
    records_are (suc i) p =
        let one = if keeps dropped i then own i ∷ [] else [] in
        ap₂ (λ (a b : Bytes). a ++ b) (records_are i (omega arith)) (one_record i (omega arith))
        ∙ sym
        (ap (λ (l : List Record). write_records (map (mended all) l)) (pick_next (keeps dropped) rs i _ (omega arith))
        ∙ ap write_records (map_append (mended all) (kept i) one)
        ∙ records_append (map (mended all) (kept i)) (map (mended all) one))
