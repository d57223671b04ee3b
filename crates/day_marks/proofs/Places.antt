-- The places of the marks: each is one of a header, or the place after all headers, and stands within the file.
use mathlib.Core.Bool.{Bool, true, false}
use mathlib.Core.List.{List, ◌++◌}
use mathlib.Core.Option.{Option, none, some}
use mathlib.Core.Path.{◌≡◌, refl, ap, sym, ◌∙◌}
use Prim.Native.Nat.{ℕ, ◌+◌, ◌*◌, ◌/◌, ◌≤◌, ◌<◌, min}
use native.Mathlib.Nat.{min-eq_left, min-eq_right}
use native.Mathlib.Omega.{arith}
use borrow.Author.Tests.{leb-true, leb-false}
use lib.Dec.{leb}
use lib.ListN.{length, get_or, take, drop, length-append, take-append-drop}
use lib.Seq.{take_all}
use Rattle.paper.specs.Strings.{Bytes, Below}
use Rattle.paper.specs.Document01.{write_strings}
use Rattle.paper.specs.DayFile.{Day, read_day}
use Rattle.laws.proofs.Headers.{write_append}
use Rattle.laws.proofs.Tables.{get_or_tab, length_tab}
use Rattle.laws.proofs.DayWritten.{first_place_lem, day_long}
use Rattle.laws.proofs.DayReading.{read_write}
use Rattle.laws.proofs.LedgerSums.{few_headers}
use Rattle.day_find.specs.Finds.{headers_in, length_place}
use Rattle.day_marks.specs.Marks.{marks_of}

-- past the last header stands the place after all of them
place_past : (o : Option Day) (n : ℕ) → headers_in o ≤ n → length_place o (headers_in o) ≡ length_place o n
unfolding length_place
place_past none n p = refl
place_past (some day) n p =
    ap (λ (l : List Bytes). 4 + length (write_strings l)) (take_all (length day.headers) day.headers (omega arith) ∙ sym (take_all n day.headers p))

-- so the smaller of a number and the headers' leads to the same place
pub place_smaller : (o : Option Day) (n headers : ℕ) → headers ≡ headers_in o → length_place o (min n headers) ≡ length_place o n
place_smaller o n headers e = go (leb n headers) refl
  where
    go : (b : Bool) → leb n headers ≡ b → length_place o (min n headers) ≡ length_place o n
    go true p = ap (length_place o) (min-eq_left (leb-true n headers p))
    go false p =
        let more : headers ≤ n = omega (arith, leb-false n headers p) in
        ap (length_place o) (min-eq_right more ∙ e) ∙ place_past o n (omega (arith, e))

pub places_short : (f : Bytes) → Below 256 f → (n : ℕ) → length_place (read_day f) n ≤ 65536
unfolding length_place
places_short f low n = go (read_day f) refl
  where
    go : (o : Option Day) → read_day f ≡ o → length_place o n ≤ 65536
    go none e = omega arith
    go (some day) e =
        let front = write_strings (take n day.headers) in
        let rest = write_strings (drop n day.headers) in
        let all : write_strings day.headers ≡ front ++ rest =
        ap write_strings (sym (take-append-drop n day.headers)) ∙ write_append (take n day.headers) (drop n day.headers) in
        omega (arith, ap length all, length-append front rest, first_place_lem day.headers, day_long day, (read_write f day low e).within.short)

pub marks_many : (o : Option Day) → length (marks_of o) ≡ 205
unfolding marks_of
marks_many o = length_tab 205 (λ i. length_place o (64 * i))

pub mark_at : (o : Option Day) (i : ℕ) → i < 205 → get_or (marks_of o) i 0 ≡ length_place o (64 * i)
unfolding marks_of
mark_at o i p = get_or_tab 205 i (λ i. length_place o (64 * i)) p

-- every header has its mark
pub marked : (f : Bytes) → Below 256 f → (n : ℕ) → n < headers_in (read_day f) → n / 64 < 205
marked f low n p = go (read_day f) refl p
  where
    go : (o : Option Day) → read_day f ≡ o → n < headers_in o → n / 64 < 205
    go none e q = absurd (omega arith)
    go (some day) e q = omega (arith, few_headers f day low e)
