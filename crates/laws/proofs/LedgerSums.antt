-- THE LEDGER. Of a file that reads: at most 13,104 headers, and at most 5,956 records, so that the sum of its pauses is below 2^64 and never
-- wraps; every record is read or refused; the line has at most 71 bytes.
use mathlib.Core.Bool.{Bool, true, false}
use mathlib.Core.List.{List, [], ◌∷◌, map}
use mathlib.Core.Option.{Option, none, some}
use mathlib.Core.Path.{◌≡◌, refl, ap, subst}
use Prim.Native.Nat.{ℕ, suc, ◌+◌, ◌*◌, ◌^◌, ◌≤◌, ◌<◌, max}
use native.Mathlib.Nat.{max-le, mul-le-mul_right}
use native.Mathlib.Omega.{arith}
use borrow.Author.Tests.{leb-true, leb-false}
use lib.Dec.{eqb, leb}
use lib.ListN.{length, get_or, take, drop, replicate, length-append, length-map}
use Rattle.std.specs.Prelude.{if◌then◌else◌}
use Rattle.paper.specs.Strings.{Bytes, Below, same}
use Rattle.paper.specs.Document01.{OutcomeAt, read_header, write_strings, write_header, opening}
use Rattle.paper.specs.DayFile.{Record, Day, header_of, header_place, header_fits, present, read_day}
use Rattle.paper.specs.Pause.{Pause, no_pause, comma, point, mark_of, header_mark, read_pause, pause_read, pause_under, pause_with, pausing}
use Rattle.paper.specs.Ledger.{opened_pause, pause_of, pauses_of, read_count, refused_count, sum_of, longest_of, mean_over, mean_under, decimal, report_of, line_of}
use Rattle.laws.proofs.Digits.{below_take, below_drop}
use Rattle.laws.proofs.Headers as headers
use Rattle.laws.proofs.DayWritten.{HeadersFit, RecordsFit, strings_long, headers_few, records_few, first_place_lem, day_long}
use Rattle.laws.proofs.DayReading.{read_write, record_fits_lem}
use Rattle.laws.proofs.DayPlaces.{header_stands}
use Rattle.laws.proofs.PauseParts.{Mark, comma_mark, point_mark, most_microseconds_lem}
use Rattle.laws.proofs.Means.{over_most, under_most}
use Rattle.laws.proofs.Decimals.{decimal_length}

-- ---- A pause

abbrev pub most_microseconds : ℕ
most_microseconds = 999999999999000

abbrev pub IfMark : Option ℕ → Type 0
IfMark none = Unit {0}
IfMark (some mark) = Mark mark

-- the table's marks are marks
pub mark_of_lem : (name : Bytes) → IfMark (mark_of name)
unfolding mark_of
mark_of_lem name = go (same name (0x64 ∷ 0x65 ∷ [])) (same name (0x66 ∷ 0x72 ∷ [])) (same name (0x69 ∷ 0x74 ∷ [])) (same name (0x65 ∷ 0x6e ∷ []))
  where
    go : (a b c d : Bool) → IfMark (if a then some comma else if b then some comma else if c then some comma else if d then some point else none)
    go true b c d = comma_mark
    go false true c d = comma_mark
    go false false true d = comma_mark
    go false false false true = point_mark
    go false false false false = tt

pub header_mark_lem : (ss : List Bytes) → IfMark (header_mark ss)
unfolding header_mark
header_mark_lem [] = tt
header_mark_lem (a ∷ []) = tt
header_mark_lem (a ∷ b ∷ []) = tt
header_mark_lem (a ∷ b ∷ c ∷ []) = tt
header_mark_lem (a ∷ b ∷ c ∷ d ∷ []) = mark_of_lem d
header_mark_lem (a ∷ b ∷ c ∷ d ∷ s ∷ ss) = tt

abbrev Small : Pause → Type 0
Small p = p.microseconds ≤ most_microseconds

pub pausing_most : (header text : Bytes) → (pausing header text).microseconds ≤ most_microseconds
unfolding pausing
pausing_most header text = with_header (read_header header)
  where
    read : (mark : ℕ) → Mark mark → (o : Option ℕ) → read_pause mark text ≡ o → Small (pause_read o)
    read mark m none e = omega arith
    read mark m (some n) e = most_microseconds_lem mark m text n e

    under : (o : Option ℕ) → IfMark o → Small (pause_under o text)
    under none m = omega arith
    under (some mark) m = read mark m (read_pause mark text) refl

    with_header : (o : Option (List Bytes)) → Small (pause_with o text)
    with_header none = omega arith
    with_header (some ss) = under (header_mark ss) (header_mark_lem ss)

pub opened_most : (key header : Bytes) (t : ℕ) (sealed : Bytes) → (opened_pause key header t sealed).microseconds ≤ most_microseconds
unfolding opened_pause
opened_most key header t sealed = choose (opening key header t sealed (replicate (length sealed) 0)) (eqb (opening key header t sealed (replicate (length sealed) 0)).number 0)
  where
    choose : (o : OutcomeAt) (b : Bool) → Small (if b then pausing header (take o.size o.output) else no_pause o.number)
    choose o true = pausing_most header (take o.size o.output)
    choose o false = omega arith

-- ---- The figures of a list of pauses

abbrev pub AllSmall : List Pause → Type 0
AllSmall [] = Unit {0}
AllSmall (p ∷ ps) = (p.microseconds ≤ most_microseconds) × AllSmall ps

pauses_small : (key : Bytes) (day : Day) (rs : List Record) → AllSmall (map (pause_of key day) rs)
pauses_small key day [] = tt
pauses_small key day (r ∷ rs) = (opened_most key (header_of day r) r.stretch r.sealed, pauses_small key day rs)

pub all_small : (key : Bytes) (day : Day) → AllSmall (pauses_of key day)
unfolding pauses_of
all_small key day = pauses_small key day day.records

-- every record is read or refused
pub read_or_refused : (ps : List Pause) → read_count ps + refused_count ps ≡ length ps
unfolding read_count refused_count
read_or_refused [] = refl
read_or_refused (p ∷ ps) = go (eqb p.number 0) (read_or_refused ps)
  where
    go : (t : Bool) → read_count ps + refused_count ps ≡ length ps
        → (if t then suc (read_count ps) else read_count ps) + (if t then refused_count ps else suc (refused_count ps)) ≡ suc (length ps)
    go true e = omega arith
    go false e = omega arith

pub sum_most : (ps : List Pause) → AllSmall ps → sum_of ps ≤ length ps * most_microseconds
unfolding sum_of
sum_most [] s = omega arith
sum_most (p ∷ ps) s = go (eqb p.number 0) (sum_most ps s.1)
  where
    go : (t : Bool) → sum_of ps ≤ length ps * most_microseconds → (if t then p.microseconds + sum_of ps else sum_of ps) ≤ length (p ∷ ps) * most_microseconds
    go true e = omega (arith, s.0)
    go false e = omega arith

pub longest_most : (ps : List Pause) → AllSmall ps → longest_of ps ≤ most_microseconds
unfolding longest_of
longest_most [] s = omega arith
longest_most (p ∷ ps) s = go (eqb p.number 0) (longest_most ps s.1)
  where
    go : (t : Bool) → longest_of ps ≤ most_microseconds → (if t then max p.microseconds (longest_of ps) else longest_of ps) ≤ most_microseconds
    go true e = max-le s.0 e
    go false e = e

-- ---- The records of a file

written_long : (ss : List Bytes) → length (write_header ss) ≡ 1 + length (write_strings ss)
unfolding write_header
written_long ss = omega arith

-- a header that reads has at least three bytes
header_least : (h : Bytes) → Below 256 h → header_fits h ≡ true → 3 ≤ length h
header_least h low fits = go (read_header h) refl fits
  where
    go : (o : Option (List Bytes)) → read_header h ≡ o → present o ≡ true → 3 ≤ length h
    go none e p = let z : ◌≡◌ {A = ℕ} 0 1 = cc in absurd (omega arith)
    go (some ss) e p = omega (arith, ap length (headers.read_write h ss low e), written_long ss, headers_few ss, (headers.read_readable h ss low e).least)

-- so a header takes at least five, with its two bytes of length
headers_least : (hs : List Bytes) → HeadersFit hs → ((n : ℕ) → n < length hs → Below 256 (get_or hs n [])) → 5 * length hs ≤ length (write_strings hs)
headers_least [] fit low = omega arith
headers_least (h ∷ hs) fit low =
    omega (arith, strings_long h hs, header_least h (low 0 (omega arith)) fit.0, headers_least hs fit.1 (λ n p. low (suc n) (omega arith)))

-- where there is a record there is a header
some_header : (headers : ℕ) (rs : List Record) → RecordsFit headers rs → 1 ≤ length rs → 1 ≤ headers
some_header headers [] fit p = absurd (omega arith)
some_header headers (r ∷ rs) fit p = omega (arith, (record_fits_lem headers r fit.0).1)

abbrev pub most_headers : ℕ
most_headers = 13104

abbrev pub most_records : ℕ
most_records = 5956

module _ (file : Bytes) (day : Day) (low : Below 256 file) (reads : read_day file ≡ some day) where
  -- twelve bytes of counts, five for each header and eleven for each record
  counted : 12 + 5 * length day.headers + 11 * length day.records ≤ 65536
  counted =
      let w = read_write file day low reads in
      let header_low : (n : ℕ) → n < length day.headers → Below 256 (get_or day.headers n []) =
      λ n p.
      subst (Below 256) (header_stands file day low reads n p)
      (below_take 256 (length (get_or day.headers n [])) (drop (header_place day.headers n) file) (below_drop 256 (header_place day.headers n) file low)) in
      omega (arith, headers_least day.headers w.within.headers_fit header_low, day_long day, first_place_lem day.headers, records_few day.records, w.within.short)

  pub few_headers : length day.headers ≤ most_headers
  few_headers = omega (arith, counted)

  pub few_records : length day.records ≤ most_records
  few_records = go (leb 1 (length day.records)) refl
    where
      go : (b : Bool) → leb 1 (length day.records) ≡ b → length day.records ≤ most_records
      go true e = omega (arith, counted, some_header (length day.headers) day.records (read_write file day low reads).within.records_fit (leb-true 1 (length day.records) e))
      go false e = omega (arith, leb-false 1 (length day.records) e)

-- ---- The figures of a file

module _ (key file : Bytes) (day : Day) (low : Below 256 file) (reads : read_day file ≡ some day) where
  abbrev ps : List Pause
  ps = pauses_of key day

  pub pauses_many : length ps ≡ length day.records
  unfolding pauses_of
  pauses_many = length-map day.records (pause_of key day)

  pub few_pauses : length ps ≤ most_records
  few_pauses = omega (arith, pauses_many, few_records file day low reads)

  -- the sum never wraps
  pub sum_below : sum_of ps < 2 ^ 64
  sum_below = omega (arith, sum_most ps (all_small key day), mul-le-mul_right most_microseconds few_pauses)

  -- the line has at most 71 bytes
  pub line_most : length (line_of (report_of ps)) ≤ 71
  unfolding line_of report_of
  line_most =
      let rf = read_or_refused ps in
      let s = sum_most ps (all_small key day) in
      let m = mul-le-mul_right most_microseconds few_pauses in
      let over = over_most (sum_of ps) (read_count ps) in
      let under = under_most (sum_of ps) (read_count ps) in
      let a : length (decimal (read_count ps)) ≤ 4 = decimal_length 3 (read_count ps) (omega (arith, rf, few_pauses)) in
      let b : length (decimal (refused_count ps)) ≤ 4 = decimal_length 3 (refused_count ps) (omega (arith, rf, few_pauses)) in
      let c : length (decimal (sum_of ps)) ≤ 19 = decimal_length 18 (sum_of ps) (omega (arith, s, m)) in
      let d : length (decimal (longest_of ps)) ≤ 15 = decimal_length 14 (longest_of ps) (omega (arith, longest_most ps (all_small key day))) in
      let e : length (decimal (mean_over (sum_of ps) (read_count ps))) ≤ 19 = decimal_length 18 (mean_over (sum_of ps) (read_count ps)) (omega (arith, s, m, over)) in
      let f : length (decimal (mean_under (sum_of ps) (read_count ps))) ≤ 4 = decimal_length 3 (mean_under (sum_of ps) (read_count ps)) (omega (arith, rf, few_pauses, under)) in
      simp length-append (omega arith)
