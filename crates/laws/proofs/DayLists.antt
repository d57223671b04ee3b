-- The lists that a writer of a day file is handed: what they hold where they are within the layout, and that a day's own lists are its.
use mathlib.Core.Bool.{Bool, true, false, ◌&&◌}
use mathlib.Core.List.{List, [], ◌∷◌, ◌++◌, map}
use mathlib.Core.Option.{Option, none, some}
use mathlib.Core.Path.{◌≡◌, refl, ap, sym, subst, ◌∙◌}
use Prim.Native.Nat.{ℕ, suc, ◌+◌, ◌*◌}
use native.Mathlib.Omega.{arith}
use borrow.Author.Tests.{leb-true, le-leb, eq-eqb}
use lib.Dec.{leb}
use lib.ListN.{length, get_or, take, drop, length-append, length-drop, length-map}
use lib.Seq.{length-take-le, take-append_seam, drop-append_seam}
use Rattle.std.specs.Prelude.{if◌then◌else◌}
use Rattle.paper.specs.Strings.{Bytes}
use Rattle.paper.specs.Document01.{write_strings}
use Rattle.paper.specs.DayFile.{Record, Day, write_records, header_fits, record_fits, headers_of, in_front_of, records_of, day_of, day_from}
use Rattle.laws.proofs.DayWritten.{HeadersFit, RecordsFit, strings_long, records_long}

-- ---- What the lists hold

-- hs are the headers of these lengths, which take up X
pub record HeadersListed (ns : List ℕ) (X : Bytes) (hs : List Bytes) : Type 0 where
  pub count : length hs ≡ length ns
  pub each : HeadersFit hs
  pub size : length (write_strings hs) ≡ 2 * length ns + length X

abbrev IfHeadersListed : List ℕ → Bytes → Option (List Bytes) → Type 0
IfHeadersListed ns X none = Unit {0}
IfHeadersListed ns X (some hs) = HeadersListed ns X hs

headers_are : (ns : List ℕ) (X : Bytes) → IfHeadersListed ns X (headers_of ns X)
unfolding headers_of write_strings
headers_are [] [] = record { count = refl; each = tt; size = refl }
headers_are [] (b ∷ X) = tt
headers_are (n ∷ ns) X = go (leb n (length X)) refl (header_fits (take n X)) refl (headers_of ns (drop n X)) (headers_are ns (drop n X))
  where
    go : (a : Bool) → leb n (length X) ≡ a → (b : Bool) → header_fits (take n X) ≡ b → (o : Option (List Bytes)) → IfHeadersListed ns (drop n X) o
        → IfHeadersListed (n ∷ ns) X (if a && b then in_front_of (take n X) o else none)
    go true e true f none r = tt
    go true e true f (some hs) r =
        record {
          count = ap suc r.count;
          each = (f, r.each);
          size =
              omega
              (arith, strings_long (take n X) hs, r.size, length-take-le n X (leb-true n (length X) e), length-drop n X, leb-true n (length X) e);
        }
    go true e false f o r = tt
    go false e b f o r = tt

pub headers_listed_lem : (ns : List ℕ) (X : Bytes) (hs : List Bytes) → headers_of ns X ≡ some hs → HeadersListed ns X hs
headers_listed_lem ns X hs e = subst (IfHeadersListed ns X) e (headers_are ns X)

-- rs are the records of these lengths, whose sealed bytes take up X
pub record RecordsListed (headers : ℕ) (ns : List ℕ) (X : Bytes) (rs : List Record) : Type 0 where
  pub count : length rs ≡ length ns
  pub each : RecordsFit headers rs
  pub size : length (write_records rs) ≡ 7 * length ns + length X

abbrev IfRecordsListed : ℕ → List ℕ → Bytes → Option (List Record) → Type 0
IfRecordsListed headers ns X none = Unit {0}
IfRecordsListed headers ns X (some rs) = RecordsListed headers ns X rs

records_are : (headers : ℕ) (hs ts ns : List ℕ) (X : Bytes) → IfRecordsListed headers ns X (records_of headers hs ts ns X)
unfolding records_of write_records
records_are headers hs ts [] [] = record { count = refl; each = tt; size = refl }
records_are headers hs ts [] (b ∷ X) = tt
records_are headers hs ts (n ∷ ns) X =
    go (leb n (length X)) refl (record_fits headers r) refl (records_of headers (drop 1 hs) (drop 1 ts) ns (drop n X)) (records_are headers (drop 1 hs) (drop 1 ts) ns (drop n X))
  where
    r : Record
    r = record { header = get_or hs 0 0; stretch = get_or ts 0 0; sealed = take n X }

    go : (a : Bool) → leb n (length X) ≡ a → (b : Bool) → record_fits headers r ≡ b → (o : Option (List Record)) → IfRecordsListed headers ns (drop n X) o
        → IfRecordsListed headers (n ∷ ns) X (if a && b then in_front_of r o else none)
    go true e true f none w = tt
    go true e true f (some rs) w =
        record {
          count = ap suc w.count;
          each = (f, w.each);
          size = omega (arith, records_long r rs, w.size, length-take-le n X (leb-true n (length X) e), length-drop n X, leb-true n (length X) e);
        }
    go true e false f o w = tt
    go false e b f o w = tt

pub records_listed_lem : (headers : ℕ) (hs ts ns : List ℕ) (X : Bytes) (rs : List Record) → records_of headers hs ts ns X ≡ some rs → RecordsListed headers ns X rs
records_listed_lem headers hs ts ns X rs e = subst (IfRecordsListed headers ns X) e (records_are headers hs ts ns X)

-- ---- A day's own lists

unfoldable pub joined : List Bytes → Bytes
joined [] = []
joined (s ∷ ss) = s ++ joined ss

abbrev pub header_lengths : Day → List ℕ
header_lengths day = map length day.headers

abbrev pub record_headers : List Record → List ℕ
record_headers rs = map (λ (r : Record). r.header) rs

abbrev pub record_stretches : List Record → List ℕ
record_stretches rs = map (λ (r : Record). r.stretch) rs

abbrev pub record_lengths : List Record → List ℕ
record_lengths rs = map (λ (r : Record). length r.sealed) rs

abbrev pub record_strings : List Record → List Bytes
record_strings rs = map (λ (r : Record). r.sealed) rs

-- a choice by a test that is two, where both hold
both : {A : Type 0} {a b : Bool} (x y : A) → a ≡ true → b ≡ true → (if a && b then x else y) ≡ x
both x y p q = λ i. if p i && q i then x else y

headers_own : (hs : List Bytes) → HeadersFit hs → headers_of (map length hs) (joined hs) ≡ some hs
unfolding headers_of joined
headers_own [] p = refl
headers_own (h ∷ hs) p =
    both _ none (le-leb (length h) (length (h ++ joined hs)) (omega (arith, length-append h (joined hs)))) (ap header_fits (take-append_seam h (joined hs)) ∙ p.0)
    ∙ (λ i. in_front_of (take-append_seam h (joined hs) i) (headers_of (map length hs) (drop-append_seam h (joined hs) i)))
    ∙ ap (in_front_of h) (headers_own hs p.1)

records_own : (headers : ℕ) (rs : List Record) → RecordsFit headers rs
    → records_of headers (record_headers rs) (record_stretches rs) (record_lengths rs) (joined (record_strings rs)) ≡ some rs
unfolding records_of joined
records_own headers [] p = refl
records_own headers (r ∷ rs) p =
    let rest = joined (record_strings rs) in
    let seam = take-append_seam r.sealed rest in
    both _ none (le-leb (length r.sealed) (length (r.sealed ++ rest)) (omega (arith, length-append r.sealed rest))) p.0
    ∙ (λ i. in_front_of (record { header = r.header; stretch = r.stretch; sealed = seam i }) (records_of headers (record_headers rs) (record_stretches rs) (record_lengths rs) (drop-append_seam r.sealed rest i)))
    ∙ ap (in_front_of r) (records_own headers rs p.1)

-- the lists of a day whose headers and records are within the layout are that day
pub own_lists : (day : Day) → HeadersFit day.headers → RecordsFit (length day.headers) day.records
    → day_from (headers_of (header_lengths day) (joined day.headers)) (record_headers day.records) (record_stretches day.records) (record_lengths day.records) (joined (record_strings day.records))
    ≡ some day
unfolding day_from
own_lists day p q =
    let rs = day.records in
    let n = length (record_lengths rs) in
    let a : length (record_headers rs) ≡ n = length-map rs (λ (r : Record). r.header) ∙ sym (length-map rs (λ (r : Record). length r.sealed)) in
    let b : length (record_stretches rs) ≡ n = length-map rs (λ (r : Record). r.stretch) ∙ sym (length-map rs (λ (r : Record). length r.sealed)) in
    ap (λ (o : Option (List Bytes)). day_from o (record_headers rs) (record_stretches rs) (record_lengths rs) (joined (record_strings rs))) (headers_own day.headers p)
    ∙ both _ none (eq-eqb (length (record_headers rs)) n a) (eq-eqb (length (record_stretches rs)) n b)
    ∙ ap (day_of day.headers) (records_own (length day.headers) rs q)
