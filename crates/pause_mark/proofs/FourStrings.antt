-- The four strings of a header: where each stands, by what is written of them.
use mathlib.Core.List.{List, [], ◌∷◌, ◌++◌}
use mathlib.Core.Option.{Option, none, some}
use mathlib.Core.Path.{◌≡◌, refl, ap, sym, ◌∙◌}
use Prim.Native.Nat.{ℕ, zero, suc, ◌+◌, ◌-◌, ◌/◌, ◌%◌, ◌≤◌, ◌<◌}
use native.Mathlib.Nat.{add-zero}
use native.Mathlib.Numerals.{add-one}
use native.Mathlib.Omega.{arith}
use borrow.Author.Tests.{le-ltb}
use lib.ListN.{length, get_or, take, drop, length-drop}
use lib.Seq.{drop-cons, drop-drop, get_or-drop, take-append_seam, drop-append_seam}
use Rattle.std.specs.Prelude.{if◌then◌else◌, Some, None, Result, Ok, Err}
use Rattle.std.specs.Prelude as O
use Rattle.paper.specs.Strings.{Bytes, Below, digits}
use Rattle.paper.specs.Document01.{Read, as_strings, bad_entry, reading, strings_of, read_header, write_strings, write_header}
use Rattle.paper.specs.Pause.{header_mark, mark_of}
use Rattle.laws.proofs.Headers.{AllFit, read_write, read_readable}
use Rattle.laws.proofs.DayWritten.{strings_long}
use Rattle.header.specs.declared.Place.{Place}
use Rattle.answer.specs.declared.BadEntry.{BadEntry}
use Rattle.header.specs.Places.{size_at, entry_at, read_as}
use Rattle.answer.specs.declared.Refusal.{Refusal}
use Rattle.answer.specs.declared.Refusal.TheVariants.{BadHeader, NoLocale}
use Rattle.pause_mark.specs.Marks.{known_as, mark_as}

-- ---- What the header's reader says

strings_are : (h : Bytes) (ss : List Bytes) → reading h ≡ as_strings ss → read_header h ≡ some ss
unfolding read_header
strings_are h ss e = ap strings_of e

pub strings_read : (h : Bytes) (n : ℕ) → Ok n ≡ read_as (reading h) → (ss : List Bytes) × (reading h ≡ as_strings ss) × (length ss ≡ n)
strings_read h n e = go (reading h) e
  where
    go : (r : Read) → Ok n ≡ read_as r → (ss : List Bytes) × (r ≡ as_strings ss) × (length ss ≡ n)
    go (bad_entry k) e = absurd (let z : ◌≡◌ {A = ℕ} 0 1 = cc in omega arith)
    go (as_strings ss) e = (ss, refl, cc)

pub not_read : (h : Bytes) (k : BadEntry) → Err k ≡ read_as (reading h) → Err (BadHeader k) ≡ mark_as (reading h)
not_read h k e = go (reading h) e
  where
    refused : Result ℕ BadEntry → Result ℕ Refusal
    refused (Ok n) = Err NoLocale
    refused (Err bad) = Err (BadHeader bad)

    go : (r : Read) → Err k ≡ read_as r → Err (BadHeader k) ≡ mark_as r
    go (bad_entry j) e = ap refused e
    go (as_strings ss) e = cc

-- ---- The locale is the fourth of four

fourth : (ss : List Bytes) → length ss ≡ 4 → header_mark ss ≡ mark_of (get_or ss 3 [])
unfolding header_mark
fourth [] e = absurd (omega arith)
fourth (a ∷ []) e = absurd (omega arith)
fourth (a ∷ b ∷ []) e = absurd (omega arith)
fourth (a ∷ b ∷ c ∷ []) e = absurd (omega arith)
fourth (a ∷ b ∷ c ∷ d ∷ []) e = refl
fourth (a ∷ b ∷ c ∷ d ∷ s ∷ ss) e = absurd (omega arith)

not_four : (ss : List Bytes) → (length ss ≡ 4 → ⊥) → header_mark ss ≡ none
unfolding header_mark
not_four [] p = refl
not_four (a ∷ []) p = refl
not_four (a ∷ b ∷ []) p = refl
not_four (a ∷ b ∷ c ∷ []) p = refl
not_four (a ∷ b ∷ c ∷ d ∷ []) p = absurd (p refl)
not_four (a ∷ b ∷ c ∷ d ∷ s ∷ ss) p = refl

pub other_count : (r : Read) (ss : List Bytes) → r ≡ as_strings ss → (length ss ≡ 4 → ⊥) → Err NoLocale ≡ mark_as r
other_count r ss e p = sym (ap mark_as e ∙ ap known_as (not_four ss p))

-- ---- An entry

module _ (h : Bytes) (at : ℕ) (s : Bytes) (ss : List Bytes) (there : drop at h ≡ write_strings (s ∷ ss)) (short : length s ≤ 1024) where
  room : length h - at ≡ 2 + length s + length (write_strings ss)
  room = sym (length-drop at h) ∙ ap length there ∙ strings_long s ss

  bytes : drop at h ≡ length s / 256 % 256 ∷ length s % 256 ∷ (s ++ write_strings ss)
  unfolding digits write_strings
  bytes = there

  size : size_at h at ≡ length s
  size =
      let first : get_or h at 0 ≡ length s / 256 % 256 =
      ap (λ (k : ℕ). get_or h k 0) (sym (add-zero at)) ∙ sym (get_or-drop at h 0 0) ∙ ap (λ (X : Bytes). get_or X 0 0) bytes in
      let second : get_or h (at + 1) 0 ≡ length s % 256 = sym (get_or-drop at h 1 0) ∙ ap (λ (X : Bytes). get_or X 1 0) bytes in
      omega (arith, first, second)

  abbrev placed_at : ℕ → O.Option Place
  placed_at n = Some (record { start = at + 2; end = at + 2 + n })

  pub entry_is : entry_at h at ≡ Some (record { start = at + 2; end = at + 2 + length s })
  unfolding entry_at
  entry_is =
      (λ i. if le-ltb (length h) (at + 2) (omega (arith, room)) i then None
      else if le-ltb 1024 (size_at h at) (omega (arith, size)) i then None
      else if le-ltb (length h) (at + 2 + size_at h at) (omega (arith, size, room)) i then None
      else Some (record { start = at + 2; end = at + 2 + size_at h at }))
      ∙ ap placed_at size

  after : drop (at + 2) h ≡ s ++ write_strings ss
  after = sym (drop-drop 2 at h) ∙ ap (drop 2) bytes

  pub string_there : take (length s) (drop (at + 2) h) ≡ s
  string_there = ap (take (length s)) after ∙ take-append_seam s (write_strings ss)

  pub next_there : drop (at + 2 + length s) h ≡ write_strings ss
  next_there = sym (drop-drop (length s) (at + 2) h) ∙ ap (drop (length s)) after ∙ drop-append_seam s (write_strings ss)

place_of : (p q : Place) → Some p ≡ Some q → p ≡ q
place_of p q e = cc

-- ---- A walk over the strings

string_fits : (ss : List Bytes) (i : ℕ) → AllFit ss → i < length ss → length (get_or ss i []) ≤ 1024
string_fits [] i p q = absurd (omega arith)
string_fits (s ∷ ss) zero p q = p.0.short
string_fits (s ∷ ss) (suc i) p q = string_fits ss i p.1 (omega arith)

-- at a place stand the strings from number i on, of four
pub record Walked (h : Bytes) (i at : ℕ) : Type 0 where
  pub strings : List Bytes
  pub reads : reading h ≡ as_strings strings
  pub four : length strings ≡ 4
  pub there : drop at h ≡ write_strings (drop i strings)

pub begun : (h : Bytes) (ss : List Bytes) → Below 256 h → reading h ≡ as_strings ss → length ss ≡ 4 → Walked h 0 1
unfolding write_header
begun h ss low e four = record { strings = ss; reads = e; four = four; there = ap (drop 1) (sym (read_write h ss low (strings_are h ss e))) }

module _ (h : Bytes) (low : Below 256 h) (i at : ℕ) (few : i < 4) (w : Walked h i at) where
  abbrev own : Bytes
  own = get_or w.strings i []

  own_there : drop at h ≡ write_strings (own ∷ drop (suc i) w.strings)
  own_there = w.there ∙ ap write_strings (drop-cons w.strings i [] (omega (arith, w.four)))

  own_short : length own ≤ 1024
  own_short = string_fits w.strings i (read_readable h w.strings low (strings_are h w.strings w.reads)).each (omega (arith, w.four))

  -- the entry is never bad
  pub never_bad : None ≡ entry_at h at → ⊥
  never_bad e = let z : ◌≡◌ {A = ℕ} 0 1 = (let both : ◌≡◌ {A = O.Option Place} None (Some (record { start = at + 2; end = at + 2 + length own })) = e ∙ entry_is h at own (drop (suc i) w.strings) own_there own_short in cc) in omega arith

  module _ (p : Place) (is : Some p ≡ entry_at h at) where
    placed : p ≡ record { start = at + 2; end = at + 2 + length own }
    placed = place_of _ _ (is ∙ entry_is h at own (drop (suc i) w.strings) own_there own_short)

    start_is : p.start ≡ at + 2
    start_is = ap (λ (p : Place). p.start) placed

    end_is : p.end ≡ at + 2 + length own
    end_is = ap (λ (p : Place). p.end) placed

    pub goes_on : Walked h (i + 1) p.end
    goes_on = record {
      strings = w.strings;
      reads = w.reads;
      four = w.four;
      there =
          ap (λ (k : ℕ). drop k h) end_is
          ∙ next_there h at own (drop (suc i) w.strings) own_there own_short
          ∙ ap (λ (k : ℕ). write_strings (drop k w.strings)) (sym (add-one i));
    }

    pub own_part : take (p.end - p.start) (drop p.start h) ≡ own
    own_part =
        let long : p.end - p.start ≡ length own = omega (arith, start_is, end_is) in
        (λ j. take (long j) (drop (start_is j) h)) ∙ string_there h at own (drop (suc i) w.strings) own_there own_short

-- the mark of the fourth string
pub marked_by : (h part : Bytes) (w : List Bytes) → reading h ≡ as_strings w → length w ≡ 4 → part ≡ get_or w 3 [] → mark_as (reading h) ≡ known_as (mark_of part)
marked_by h part w reads four is = ap mark_as reads ∙ ap known_as (fourth w four ∙ ap mark_of (sym is))
