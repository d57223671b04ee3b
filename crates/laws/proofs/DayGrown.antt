-- APPENDING. The day after an append is within the layout where its file is short enough, and its file is longer by the record, its index entry and
-- a new header. The records before it keep their numbers and name the same header's bytes; the new record is the last.
use mathlib.Core.Bool.{Bool, true, false, ◌&&◌, ◌||◌}
use mathlib.Core.List.{List, [], ◌∷◌, ◌++◌}
use mathlib.Core.Option.{some}
use mathlib.Core.Path.{◌≡◌, refl, ap, sym, subst, ◌∙◌}
use Prim.Native.Nat.{ℕ, zero, suc, ◌+◌, ◌≤◌, ◌<◌}
use native.Mathlib.Omega.{arith}
use borrow.Author.Tests.{ltb-true, eqb-true, leb-true, le-leb, lt-ltb, le-ltb}
use lib.Dec.{eqb, leb, ltb}
use lib.ListN.{length, get_or, get_elem?, length-append, get_or-append}
use lib.Seq.{get_or-append_seam}
use Rattle.std.specs.Prelude.{if◌then◌else◌}
use Rattle.paper.specs.Strings.{Bytes}
use Rattle.paper.specs.Document01.{write_strings}
use Rattle.paper.specs.DayFile.{Record, Day, write_records, write_day, longest_file, header_fits, record_fits, header_of}
use Rattle.paper.specs.DayEdits.{headers_with, grown, append_fits}
use Rattle.laws.proofs.Sealing.{and_true}
use Rattle.laws.proofs.Headers.{write_append}
use Rattle.laws.proofs.DayWritten.{HeadersFit, RecordsFit, Layout, strings_long, records_append, records_long, headers_few, first_place_lem, day_long}
use Rattle.laws.proofs.DayReading.{record_fits_lem}

-- ---- The headers

-- a number below the count of headers, or the count itself with a header that reads
pub data Names (headers number : ℕ) (header : Bytes) : Type 0 where
  there : number < headers → Names headers number header
  next : number ≡ headers → header_fits header ≡ true → Names headers number header

pub fits_names : (number : ℕ) (header : Bytes) (stretch headers : ℕ) → append_fits number header stretch headers ≡ true → Names headers number header × (stretch ≤ 64)
fits_names number header stretch headers e =
    let a = and_true (ltb number headers || (eqb number headers && header_fits header)) (leb stretch 64) e in
    (go (ltb number headers) refl a.0, leb-true stretch 64 a.1)
  where
    go : (b : Bool) → ltb number headers ≡ b → (b || (eqb number headers && header_fits header)) ≡ true → Names headers number header
    go true q f = there (ltb-true number headers q)
    go false q f = let g = and_true (eqb number headers) (header_fits header) f in next (eqb-true number headers g.0) g.1

module _ (number : ℕ) (header : Bytes) (hs : List Bytes) where
  pub with_there : number < length hs → headers_with number header hs ≡ hs
  with_there p = ap (λ (b : Bool). if b then hs else hs ++ header ∷ []) (lt-ltb number (length hs) p)

  pub with_next : length hs ≤ number → headers_with number header hs ≡ hs ++ header ∷ []
  with_next p = ap (λ (b : Bool). if b then hs else hs ++ header ∷ []) (le-ltb number (length hs) p)

  fit_last : (hs : List Bytes) → HeadersFit hs → header_fits header ≡ true → HeadersFit (hs ++ header ∷ [])
  fit_last [] f e = (e, tt)
  fit_last (h ∷ hs) f e = (f.0, fit_last hs f.1 e)

  pub with_fit : Names (length hs) number header → HeadersFit hs → HeadersFit (headers_with number header hs)
  with_fit (there p) f = subst HeadersFit (sym (with_there p)) f
  with_fit (next p e) f = subst HeadersFit (sym (with_next (omega arith))) (fit_last hs f e)

  pub with_many : Names (length hs) number header → (length hs ≤ length (headers_with number header hs)) × (number < length (headers_with number header hs))
  with_many (there p) = (omega (arith, ap length (with_there p)), omega (arith, ap length (with_there p)))
  with_many (next p e) =
      let long = ap length (with_next (omega arith)) in
      (omega (arith, long, length-append hs (header ∷ [])), omega (arith, long, length-append hs (header ∷ [])))

  -- the headers that were there stand where they stood
  pub with_same : (n : ℕ) → n < length hs → get_or (headers_with number header hs) n [] ≡ get_or hs n []
  with_same n p = go (ltb number (length hs)) refl
    where
      go : (b : Bool) → ltb number (length hs) ≡ b → get_or (if b then hs else hs ++ header ∷ []) n [] ≡ get_or hs n []
      go true e = refl
      go false e = get_or-append hs (header ∷ []) [] n p

  -- the new one is the last
  pub with_last : number ≡ length hs → get_or (headers_with number header hs) number [] ≡ header
  with_last e = ap (λ (l : List Bytes). get_or l number []) (with_next (omega arith)) ∙ ap (λ (n : ℕ). get_or (hs ++ header ∷ []) n []) e ∙ get_or-append_seam hs header [] []

-- ---- The records

more_headers : (n m : ℕ) → n ≤ m → (r : Record) → record_fits n r ≡ true → record_fits m r ≡ true
more_headers n m p r e =
    let f = record_fits_lem n r e in
    λ i. le-leb r.header 65535 (omega (arith, f.0)) i && lt-ltb r.header m (omega (arith, f.1)) i && le-leb r.stretch 64 f.2 i

records_last : (n m : ℕ) → n ≤ m → (rs : List Record) (r : Record) → RecordsFit n rs → record_fits m r ≡ true → RecordsFit m (rs ++ r ∷ [])
records_last n m p [] r f e = (e, tt)
records_last n m p (s ∷ rs) r f e = (more_headers n m p s f.0, records_last n m p rs r f.1 e)

elem_before : {A : Type 0} (l : List A) (x : A) (k : ℕ) → k < length l → get_elem? (l ++ x ∷ []) k ≡ get_elem? l k
elem_before [] x k p = absurd (omega arith)
elem_before (y ∷ l) x zero p = refl
elem_before (y ∷ l) x (suc k) p = elem_before l x k (omega arith)

elem_last : {A : Type 0} (l : List A) (x : A) → get_elem? (l ++ x ∷ []) (length l) ≡ some x
elem_last [] x = refl
elem_last (y ∷ l) x = elem_last l x

-- ---- The day

module _ (number : ℕ) (header : Bytes) (stretch : ℕ) (sealed : Bytes) (day : Day) where
  abbrev new : Record
  new = record { header = number; stretch = stretch; sealed = sealed }

  abbrev after : Day
  after = grown number header stretch sealed day

  -- what a new header takes
  abbrev pub brought : ℕ
  brought = if ltb number (length day.headers) then 0 else 2 + length header

  strings_grown : length (write_strings (headers_with number header day.headers)) ≡ length (write_strings day.headers) + brought
  unfolding write_strings
  strings_grown = go (ltb number (length day.headers))
    where
      hs : List Bytes
      hs = day.headers

      go : (b : Bool) → length (write_strings (if b then hs else hs ++ header ∷ [])) ≡ length (write_strings hs) + (if b then 0 else 2 + length header)
      go true = omega arith
      go false = omega (arith, ap length (write_append hs (header ∷ [])), length-append (write_strings hs) (write_strings (header ∷ [])), strings_long header [])

  -- eleven bytes and the sealed ones for the record and its index entry, and two and the header's own for a new header
  pub grown_long : length (write_day after) ≡ length (write_day day) + brought + 11 + length sealed
  unfolding grown write_records
  grown_long =
      omega
      (arith, day_long day, day_long after, first_place_lem day.headers, first_place_lem after.headers, strings_grown, ap length (records_append day.records (new ∷ [])), length-append (write_records day.records) (write_records (new ∷ [])), records_long new [], length-append day.records (new ∷ []))

  module _ (fits : append_fits number header stretch (length day.headers) ≡ true) (within : Layout day) where
    abbrev names : Names (length day.headers) number header
    names = (fits_names number header stretch (length day.headers) fits).0

    small : number < 65536
    small = go names
      where
        few : length day.headers < 65536
        few = omega (arith, headers_few day.headers, first_place_lem day.headers, day_long day, within.short)

        go : Names (length day.headers) number header → number < 65536
        go (there p) = omega (arith, few)
        go (next p e) = omega (arith, few)

    new_fits : record_fits (length after.headers) new ≡ true
    unfolding grown
    new_fits =
        λ i. le-leb number 65535 (omega (arith, small)) i && lt-ltb number (length after.headers) (with_many number header day.headers names).1 i && le-leb stretch 64 (fits_names number header stretch (length day.headers) fits).1 i

    pub grown_within : length (write_day after) ≤ longest_file → Layout after
    unfolding grown
    grown_within p = record {
      headers_fit = with_fit number header day.headers names within.headers_fit;
      records_fit =
          records_last (length day.headers) (length after.headers) (with_many number header day.headers names).0 day.records new within.records_fit new_fits;
      short = p;
    }

  -- the records that were there, and the new one
  pub grown_before : (k : ℕ) → k < length day.records → get_elem? after.records k ≡ get_elem? day.records k
  unfolding grown
  grown_before k p = elem_before day.records new k p

  pub grown_last : get_elem? after.records (length day.records) ≡ some new
  unfolding grown
  grown_last = elem_last day.records new

  pub same_headers : (r : Record) → r.header < length day.headers → header_of after r ≡ header_of day r
  unfolding grown
  same_headers r p = with_same number header day.headers r.header p

  pub new_header : number ≡ length day.headers → header_of after new ≡ header
  unfolding grown
  new_header e = with_last number header day.headers e
