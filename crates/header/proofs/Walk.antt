-- A walk over a header and the definition that reads its strings: what the definition gives is said by the count, by one entry, and by the
-- end.
use mathlib.Core.Bool.{Bool, true, false, ◌&&◌}
use mathlib.Core.List.{[], ◌∷◌}
use mathlib.Core.Path.{◌≡◌, refl, ap, sym, ◌∙◌}
use Prim.Native.Nat.{ℕ, zero, suc, ◌+◌, ◌-◌, ◌≤◌, ◌<◌}
use native.Mathlib.Numerals.{add-one}
use native.Mathlib.Omega.{arith}
use borrow.Author.Tests.{ltb-true, ltb-false, le-leb, lt-leb}
use lib.Dec.{ltb, leb}
use lib.ListN.{length, get_or, take, drop, length-drop, drop_of_length-le}
use lib.Seq.{drop-cons, drop-drop}
use Rattle.std.specs.Prelude.{if◌then◌else◌, Option, Some, None, Result, Ok, Err}
use Rattle.paper.specs.Strings.{Bytes}
use Rattle.paper.specs.Document01.{most_strings, longest_string, Read, as_strings, bad_entry, in_front, read_strings, reading}
use Rattle.header.specs.declared.Place.{Place}
use Rattle.answer.specs.declared.BadEntry.{BadEntry}
use Rattle.header.specs.Places.{size_at, entry_at, count_of, bad, read_as}

-- ---- The count

-- what reads after a count
abbrev pub after_count : Bytes → Result ℕ BadEntry → Read
after_count h (Err e) = bad_entry e.0
after_count h (Ok n) = read_strings 1 n (drop 1 h)

pub count_reads : (h : Bytes) (r : Result ℕ BadEntry) → r ≡ count_of h → reading h ≡ after_count h r
unfolding reading count_of
count_reads [] r e = ap (after_count []) (sym e)
count_reads (n ∷ h) r e = go (leb 1 n && leb n most_strings) ∙ ap (after_count (n ∷ h)) (sym e)
  where
    go : (b : Bool) → (if b then read_strings 1 n h else bad_entry 0) ≡ after_count (n ∷ h) (if b then Ok n else bad 0)
    go true = refl
    go false = refl

-- a count that is bad is what the reader tells
pub count_bad : (h : Bytes) (e : BadEntry) → Err e ≡ count_of h → Err e ≡ read_as (reading h)
unfolding reading count_of
count_bad [] e p = p
count_bad (n ∷ h) e p = go (leb 1 n && leb n most_strings) p
  where
    go : (b : Bool) → Err e ≡ (if b then Ok n else bad 0) → Err e ≡ read_as (if b then read_strings 1 n h else bad_entry 0)
    go true p = cc
    go false p = p

-- ---- One entry

-- what reads from the k-th entry on, with n strings after its own
abbrev pub after_entry : ℕ → ℕ → Bytes → Option Place → Read
after_entry k n h None = bad_entry k
after_entry k n h (Some p) = in_front (take (p.end - p.start) (drop p.start h)) (read_strings (suc k) n (drop p.end h))

-- where two bytes are left, they stand in front of the rest
two_bytes : (h : Bytes) (at : ℕ) → at + 2 ≤ length h → drop at h ≡ get_or h at 0 ∷ get_or h (at + 1) 0 ∷ drop (at + 2) h
two_bytes h at p =
    let e : suc (at + 1) ≡ at + 2 = omega arith in
    drop-cons h at 0 (omega arith)
    ∙ ap (λ (m : ℕ). get_or h at 0 ∷ drop m h) (sym (add-one at))
    ∙ ap (λ (l : Bytes). get_or h at 0 ∷ l) (drop-cons h (at + 1) 0 (omega arith))
    ∙ ap (λ (m : ℕ). get_or h at 0 ∷ get_or h (at + 1) 0 ∷ drop m h) e

-- fewer than two bytes are no entry
few : (k n : ℕ) (l : Bytes) → length l < 2 → read_strings k (suc n) l ≡ bad_entry k
unfolding read_strings
few k n [] p = refl
few k n (x ∷ []) p = refl
few k n (x ∷ y ∷ l) p = absurd (omega arith)

module _ (k n at : ℕ) (h : Bytes) where
  abbrev size : ℕ
  size = size_at h at

  -- with two bytes left, by the definition's tests
  by_tests : at + 2 ≤ length h → (a b : Bool) → leb size longest_string ≡ a → leb size (length (drop (at + 2) h)) ≡ b
      → read_strings k (suc n) (drop at h) ≡ (if a && b then in_front (take size (drop (at + 2) h)) (read_strings (suc k) n (drop size (drop (at + 2) h))) else bad_entry k)
  unfolding read_strings
  by_tests two a b p q =
      ap (read_strings k (suc n)) (two_bytes h at two)
      ∙ (λ i. if p i && q i then in_front (take size (drop (at + 2) h)) (read_strings (suc k) n (drop size (drop (at + 2) h))) else bad_entry k)

  reads : read_strings k (suc n) (drop at h) ≡ after_entry k n h (entry_at h at)
  unfolding entry_at
  reads = go (ltb (length h) (at + 2)) refl (ltb longest_string size) refl (ltb (length h) (at + 2 + size)) refl
    where
      rest : length (drop (at + 2) h) ≡ length h - (at + 2)
      rest = length-drop (at + 2) h

      go : (a : Bool) → ltb (length h) (at + 2) ≡ a → (b : Bool) → ltb longest_string size ≡ b → (d : Bool) → ltb (length h) (at + 2 + size) ≡ d
          → read_strings k (suc n) (drop at h) ≡ after_entry k n h (if a then None else if b then None else if d then None else Some (record { start = at + 2; end = at + 2 + size }))
      go true p b q d r = few k n (drop at h) (omega (arith, length-drop at h, ltb-true (length h) (at + 2) p))
      go false p true q d r = by_tests (ltb-false (length h) (at + 2) p) false _ (lt-leb size longest_string (ltb-true longest_string size q)) refl
      go false p false q true r =
          by_tests (ltb-false (length h) (at + 2) p) true false (le-leb size longest_string (ltb-false longest_string size q))
          (lt-leb size (length (drop (at + 2) h)) (omega (arith, rest, ltb-false (length h) (at + 2) p, ltb-true (length h) (at + 2 + size) r)))
      go false p false q false r =
          let own : size ≡ at + 2 + size - (at + 2) = omega arith in
          by_tests (ltb-false (length h) (at + 2) p) true true (le-leb size longest_string (ltb-false longest_string size q))
          (le-leb size (length (drop (at + 2) h)) (omega (arith, rest, ltb-false (length h) (at + 2 + size) r)))
          ∙ (λ i. in_front (take (own i) (drop (at + 2) h)) (read_strings (suc k) n (drop-drop size (at + 2) h i)))

-- where strings are left, the definition goes on with the entry, whatever that is
pub entry_reads : (k left at : ℕ) (h : Bytes) (p : Option Place) → 0 < left → p ≡ entry_at h at → read_strings k left (drop at h) ≡ after_entry k (left - 1) h p
entry_reads k zero at h p some_left e = absurd (omega arith)
entry_reads k (suc n) at h p some_left e =
    let one : n ≡ suc n - 1 = omega arith in
    reads k n at h ∙ (λ i. after_entry k (one i) h (sym e i))

-- ---- The end: no string is left

module _ (k left at : ℕ) (h : Bytes) (none_left : left ≤ 0) where
  abbrev last : left ≡ 0
  last = omega arith

  -- after the last string no byte is left
  pub end_reads : at ≡ length h → read_strings k left (drop at h) ≡ as_strings []
  unfolding read_strings
  end_reads e = let p : length h ≤ at = omega arith in λ i. read_strings k (last i) (drop_of_length-le h p i)

  -- a byte that is left over
  pub end_bad : at < length h → read_strings k left (drop at h) ≡ bad_entry 17
  unfolding read_strings
  end_bad p = λ i. read_strings k (last i) (drop-cons h at 0 p i)

-- ---- The reader's answer: the strings before the k-th of n are read, and the rest begins at a place

-- the answer after k strings, where the rest reads as r
abbrev pub after : ℕ → Read → Result ℕ BadEntry
after k (bad_entry j) = bad j
after k (as_strings ss) = Ok (k + length ss)

after_none : (r : Read) → read_as r ≡ after 0 r
after_none (bad_entry j) = refl
after_none (as_strings ss) = ap Ok (omega arith)

after_one : (k m : ℕ) (s : Bytes) (r : Read) → m ≡ k + 1 → after k (in_front s r) ≡ after m r
after_one k m s (bad_entry j) e = refl
after_one k m s (as_strings ss) e = ap Ok (omega arith)

abbrev pub rest : Bytes → ℕ → ℕ → ℕ → Result ℕ BadEntry
rest h n at k = after (k - 1) (read_strings k (n + 1 - k) (drop at h))

module _ (h : Bytes) (n : ℕ) where
  -- before the first
  pub begun : Ok n ≡ count_of h → read_as (reading h) ≡ rest h n 1 1
  begun e =
      let all : n ≡ n + 1 - 1 = omega arith in
      after_none (reading h) ∙ ap (after 0) (count_reads h (Ok n) e) ∙ ap (λ (m : ℕ). after 0 (read_strings 1 m (drop 1 h))) all

  module _ (at k : ℕ) (first : 1 ≤ k) where
    module _ (some_left : k ≤ n) where
      -- an entry that reads
      pub turn : (p : Place) → Some p ≡ entry_at h at → rest h n at k ≡ rest h n p.end (k + 1)
      turn p e =
          let one : n + 1 - k - 1 ≡ n + 1 - (k + 1) = omega arith in
          ap (after (k - 1)) (entry_reads k (n + 1 - k) at h (Some p) (omega arith) e)
          ∙ after_one (k - 1) (k + 1 - 1) (take (p.end - p.start) (drop p.start h)) (read_strings (suc k) (n + 1 - k - 1) (drop p.end h)) (omega arith)
          ∙ (λ i. after (k + 1 - 1) (read_strings (sym (add-one k) i) (one i) (drop p.end h)))

      -- an entry that does not
      pub stop : None ≡ entry_at h at → rest h n at k ≡ bad k
      stop e = ap (after (k - 1)) (entry_reads k (n + 1 - k) at h None (omega arith) e)

    module _ (none_left : k ≡ n + 1) where
      -- nothing after the last entry
      pub good : at ≡ length h → rest h n at k ≡ Ok n
      good p = ap (after (k - 1)) (end_reads k (n + 1 - k) at h (omega arith) p) ∙ ap Ok (omega arith)

      -- something after it
      pub over : at < length h → rest h n at k ≡ bad 17
      over p = ap (after (k - 1)) (end_bad k (n + 1 - k) at h (omega arith) p)
