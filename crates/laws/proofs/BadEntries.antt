-- WHICH ENTRY OF A HEADER IS BAD (request E5). The number is from 0 to 17 and is given exactly where the header does not read. It is 0 just
-- where the count is bad; j from 1 to 16 just where the count is right, the strings before the j-th read, and the j-th does not; 17 just
-- where all strings read and a byte is left over. A header that is cut off within its j-th string is told as j.
use mathlib.Core.List.{List, [], ◌∷◌, ◌++◌}
use mathlib.Core.Logic.{◌↔◌, inl, inr}
use mathlib.Core.Option.{none}
use mathlib.Core.Path.{◌≡◌, refl, ap, sym, subst, ◌∙◌}
use mathlib.Core.Bool.{Bool, true, false, ◌&&◌}
use Prim.Native.Nat.{ℕ, zero, suc, ◌+◌, ◌-◌, ◌*◌, ◌/◌, ◌%◌, ◌≤◌, ◌<◌}
use native.Mathlib.Omega.{arith}
use borrow.Author.Tests.{leb-true, le-leb, lt-leb}
use lib.Dec.{leb}
use lib.ListN.{length, take, drop, length-append, length-take}
use lib.Seq.{take-append-add}
use Rattle.std.specs.Prelude.{if◌then◌else◌}
use Rattle.paper.specs.Strings.{Bytes, Below}
use Rattle.paper.specs.Document01.{most_strings, longest_string, Read, as_strings, bad_entry, in_front, read_strings, reading, strings_of, read_header, write_strings, write_header}
use Rattle.laws.proofs.Headers.{AllFit, Readable, NoEntry, BadCount, BadString, LeftOver, SaysHeader, two, two_value, write_append, all_in_front, counted, written_then, header_says}

-- ---- From 0 to 17, and exactly where the header does not read

abbrev Most : Read → Type 0
Most (as_strings ss) = Unit {0}
Most (bad_entry j) = j ≤ 17

in_front_most : (s : Bytes) (r : Read) → Most r → Most (in_front s r)
in_front_most s (as_strings ss) p = tt
in_front_most s (bad_entry j) p = p

chosen_most : (b : Bool) (r : Read) (k : ℕ) → Most r → k ≤ 17 → Most (if b then r else bad_entry k)
chosen_most true r k p q = p
chosen_most false r k p q = q

strings_most : (k n : ℕ) (h : Bytes) → k + n ≤ 17 → Most (read_strings k n h)
unfolding read_strings
strings_most k zero [] p = tt
strings_most k zero (b ∷ h) p = omega arith
strings_most k (suc n) [] p = omega arith
strings_most k (suc n) (high ∷ []) p = omega arith
strings_most k (suc n) (high ∷ low ∷ h) p =
    let size : ℕ = high * 256 + low in
    chosen_most (leb size longest_string && leb size (length h)) (in_front (take size h) (read_strings (suc k) n (drop size h))) k
    (in_front_most (take size h) (read_strings (suc k) n (drop size h)) (strings_most (suc k) n (drop size h) (omega arith))) (omega arith)

pub reading_most : (h : Bytes) → Most (reading h)
unfolding reading
reading_most [] = omega arith
reading_most (count ∷ h) = go (leb 1 count) (leb count most_strings) refl
  where
    go : (a b : Bool) → leb count most_strings ≡ b → Most (if a && b then read_strings 1 count h else bad_entry 0)
    go true true e = strings_most 1 count h (omega (arith, leb-true count most_strings e))
    go true false e = omega arith
    go false b e = omega arith

-- the number is at most 17
pub number_most : (h : Bytes) (j : ℕ) → reading h ≡ bad_entry j → j ≤ 17
number_most h j e = subst Most e (reading_most h)

-- it is given exactly where the header does not read
pub given_where_unread : (h : Bytes) → (read_header h ≡ none) ↔ ((j : ℕ) × (reading h ≡ bad_entry j))
unfolding read_header
given_where_unread h = (unread (reading h), λ g. ap strings_of g.1)
  where
    unread : (r : Read) → strings_of r ≡ none → (j : ℕ) × (r ≡ bad_entry j)
    unread (bad_entry j) e = (j, refl)
    unread (as_strings ss) e = (0, (cc))

-- ---- 0: the count

pub count_told : (h : Bytes) → BadCount h → reading h ≡ bad_entry 0
unfolding reading
count_told [] b = refl
count_told (count ∷ h) (inl none-wanted) = ap (λ (b : Bool). if b && leb count most_strings then read_strings 1 count h else bad_entry 0) (lt-leb 1 count (omega arith))
count_told (count ∷ h) (inr too_many) =
    (λ i. if le-leb 1 count (omega arith) i && lt-leb count most_strings too_many i then read_strings 1 count h else bad_entry 0)

string_number : (j : ℕ) (h : Bytes) → BadString j h → (1 ≤ j) × (j ≤ 16)
string_number j [] b = absurd b
string_number j (count ∷ h) (most, s) = (omega (arith, s.next), omega (arith, s.next, s.wanted))

pub told_count : (h : Bytes) → Below 256 h → reading h ≡ bad_entry 0 → BadCount h
told_count h p e = go (subst (SaysHeader h) e (header_says h p))
  where
    go : SaysHeader h (bad_entry 0) → BadCount h
    go (inl (z, b)) = b
    go (inr (inl b)) = absurd (omega (arith, (string_number 0 h b).0))
    go (inr (inr (z, b))) = absurd (omega (arith, z))

-- ---- 1 to 16: a string

no_entry_told : (k n : ℕ) (h : Bytes) → NoEntry h → read_strings k (suc n) h ≡ bad_entry k
unfolding read_strings
no_entry_told k n [] b = refl
no_entry_told k n (high ∷ []) b = refl
no_entry_told k n (high ∷ low ∷ h) b = go (leb size longest_string) refl (leb size (length h)) refl b
  where
    size : ℕ
    size = high * 256 + low

    go : (a : Bool) → leb size longest_string ≡ a → (c : Bool) → leb size (length h) ≡ c → NoEntry (high ∷ low ∷ h)
        → (if a && c then in_front (take size h) (read_strings (suc k) n (drop size h)) else bad_entry k) ≡ bad_entry k
    go true e true f (inl long) = absurd (omega (arith, leb-true size longest_string e))
    go true e true f (inr past) = absurd (omega (arith, leb-true size (length h) f))
    go true e false f b = refl
    go false e c f b = refl

in_front_told : (ss : List Bytes) (k : ℕ) → all_in_front ss (bad_entry k) ≡ bad_entry k
in_front_told [] k = refl
in_front_told (s ∷ ss) k = ap (in_front s) (in_front_told ss k)

pub string_told : (j : ℕ) (h : Bytes) → BadString j h → reading h ≡ bad_entry j
string_told j [] b = absurd b
string_told j (count ∷ h) (most, s) =
    let left : ℕ = count - length s.before - 1 in
    let all : count ≡ length s.before + suc left = omega (arith, s.wanted) in
    counted count h (omega (arith, s.wanted)) most
    ∙ (λ i. read_strings 1 (all i) (sym s.bytes i))
    ∙ written_then 1 (suc left) s.before s.rest s.each
    ∙ ap (all_in_front s.before) (no_entry_told (1 + length s.before) left s.rest s.bad)
    ∙ in_front_told s.before (1 + length s.before)
    ∙ ap bad_entry s.next

pub told_string : (j : ℕ) (h : Bytes) → Below 256 h → 1 ≤ j → j ≤ 16 → reading h ≡ bad_entry j → BadString j h
told_string j h p least most e = go (subst (SaysHeader h) e (header_says h p))
  where
    go : SaysHeader h (bad_entry j) → BadString j h
    go (inl (z, b)) = absurd (omega (arith, z))
    go (inr (inl b)) = b
    go (inr (inr (z, b))) = absurd (omega (arith, z))

-- ---- 17: what is left over

pub left_over_told : (h : Bytes) → LeftOver h → reading h ≡ bad_entry 17
unfolding read_strings
left_over_told [] b = absurd b
left_over_told (count ∷ h) (least, most, o) =
    let all : count ≡ length o.before + 0 = omega (arith, o.count) in
    counted count h least most
    ∙ (λ i. read_strings 1 (all i) (sym o.bytes i))
    ∙ written_then 1 0 o.before (o.byte ∷ o.rest) o.each
    ∙ in_front_told o.before 17

pub told_left_over : (h : Bytes) → Below 256 h → reading h ≡ bad_entry 17 → LeftOver h
told_left_over h p e = go (subst (SaysHeader h) e (header_says h p))
  where
    go : SaysHeader h (bad_entry 17) → LeftOver h
    go (inl (z, b)) = absurd (omega (arith, z))
    go (inr (inl b)) = absurd (omega (arith, (string_number 17 h b).1))
    go (inr (inr (z, b))) = b

-- ---- A header that is cut off within a string

fit_before : (ss ts : List Bytes) → AllFit (ss ++ ts) → AllFit ss
fit_before [] ts p = tt
fit_before (s ∷ ss) ts p = (p.0, fit_before ss ts p.1)

fit_at : (ss ts : List Bytes) (s : Bytes) → AllFit (ss ++ (s ∷ ts)) → length s ≤ 1024
fit_at [] ts s p = p.0.short
fit_at (x ∷ ss) ts s p = fit_at ss ts s p.1

-- fewer bytes than an entry has
cut_entry : (s h : Bytes) (n : ℕ) → length s ≤ 1024 → n < 2 + length s → NoEntry (take n (length s / 256 % 256 ∷ length s % 256 ∷ s ++ h))
cut_entry s h zero p q = tt
cut_entry s h (suc zero) p q = tt
cut_entry s h (suc (suc n)) p q = inr (omega (arith, two_value (length s) (omega arith), length-take n (s ++ h)))

-- n of the bytes of the entry after those before it are left
pub cut_off : (before after : List Bytes) (s : Bytes) (n : ℕ) → Readable (before ++ (s ∷ after)) → n < 2 + length s
    → reading (take (1 + length (write_strings before) + n) (write_header (before ++ (s ∷ after)))) ≡ bad_entry (length before + 1)
unfolding write_header write_strings
cut_off before after s n r p =
    let count : ℕ = length (before ++ (s ∷ after)) in
    let all : 1 + length (write_strings before) + n ≡ suc (length (write_strings before) + n) = omega arith in
    let entry : Bytes = length s / 256 % 256 ∷ length s % 256 ∷ s ++ write_strings after in
    let written : write_strings (before ++ (s ∷ after)) ≡ write_strings before ++ entry =
    write_append before (s ∷ after) ∙ ap (λ (d : Bytes). write_strings before ++ (d ++ s ++ write_strings after)) (two (length s)) in
    (λ i. reading (take (all i) (count ∷ written i)))
    ∙ ap (λ (h : Bytes). reading (count ∷ h)) (take-append-add (write_strings before) entry n)
    ∙ string_told (length before + 1) (count ∷ write_strings before ++ take n entry) (
      r.most,
      record {
        before = before;
        rest = take n entry;
        bytes = refl;
        each = fit_before before (s ∷ after) r.each;
        next = omega arith;
        wanted = omega (arith, length-append before (s ∷ after));
        bad = cut_entry s (write_strings after) n (fit_at before after s r.each) p;
      },
    )
