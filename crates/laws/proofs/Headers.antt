-- What a record is bound to: the header bytes and the list of their strings determine each other, and the tweak that goes to the hash
-- determines the stretch and the strings. That another tweak gives another Δ is a matter of strength, which is not claimed.
use mathlib.Core.Bool.{Bool, true, false, ◌&&◌}
use mathlib.Core.List.{List, [], ◌∷◌, ◌++◌, append_assoc, append-nil}
use mathlib.Core.Logic.{◌⊎◌, inl, inr}
use mathlib.Core.Option.{some}
use mathlib.Core.Path.{◌≡◌, refl, ap, ap₂, sym, subst, ◌∙◌}
use Prim.Native.Nat.{ℕ, zero, suc, ◌+◌, ◌*◌, ◌/◌, ◌%◌, ◌≤◌, ◌<◌}
use native.Mathlib.Omega.{arith}
use borrow.Author.Tests.{leb-true, leb-false, le-leb}
use lib.Dec.{leb}
use lib.ListN.{length, get_or, take, drop, length-append, length-take, take-append-drop}
use lib.Seq.{length-take-le, take-append_seam, drop-append_seam}
use Rattle.std.specs.Prelude.{if◌then◌else◌}
use Rattle.paper.specs.Strings.{Bytes, Below, digits, number}
use Rattle.paper.specs.Figure5.{tweak}
use Rattle.paper.specs.Document01.{most_strings, longest_string, Read, as_strings, bad_entry, in_front, read_strings, reading, strings_of, read_header, write_strings, write_header, log_items, log_header}
use Rattle.laws.proofs.Digits.{below_take, below_drop}
use Rattle.laws.proofs.BitStrings.{number_64}

-- ---- What a header can hold

-- a string of a header: at most 1024 bytes
pub record Fits (s : Bytes) : Type 0 where
  pub short : length s ≤ 1024
  pub low : Below 256 s

abbrev pub AllFit : List Bytes → Type 0
AllFit [] = Unit {0}
AllFit (s ∷ ss) = Fits s × AllFit ss

-- what read_header accepts: 1 to 16 strings, each of at most 1024 bytes
pub record Readable (ss : List Bytes) : Type 0 where
  pub least : 1 ≤ length ss
  pub most : length ss ≤ 16
  pub each : AllFit ss

-- a choice by a test that is two, where both hold
both : {A : Type 0} {a b : Bool} (x y : A) → a ≡ true → b ≡ true → (if a && b then x else y) ≡ x
both x y p q = λ i. if p i && q i then x else y

-- ---- What is written reads back

-- a number's two bytes
pub two : (n : ℕ) → digits 256 2 n ≡ n / 256 % 256 ∷ n % 256 ∷ []
unfolding digits
two n = refl

-- and the number that these represent
pub two_value : (n : ℕ) → n < 65536 → n / 256 % 256 * 256 + n % 256 ≡ n
two_value n h = omega arith

-- a string after its length reads, and then the others
reads_one : (k n high low : ℕ) (s h : Bytes) → high * 256 + low ≡ length s → length s ≤ 1024
    → read_strings k (suc n) (high ∷ low ∷ s ++ h) ≡ in_front s (read_strings (suc k) n h)
unfolding read_strings
reads_one k n high low s h e p =
    (λ i. if leb (e i) longest_string && leb (e i) (length (s ++ h)) then in_front (take (e i) (s ++ h)) (read_strings (suc k) n (drop (e i) (s ++ h))) else bad_entry k)
    ∙ both _ (bad_entry k) (le-leb (length s) longest_string p) (le-leb (length s) (length (s ++ h)) (omega (arith, length-append s h)))
    ∙ (λ i. in_front (take-append_seam s h i) (read_strings (suc k) n (drop-append_seam s h i)))

pub write_append : (ss ts : List Bytes) → write_strings (ss ++ ts) ≡ write_strings ss ++ write_strings ts
unfolding write_strings
write_append [] ts = refl
write_append (s ∷ ss) ts =
    ap (λ (r : Bytes). digits 256 2 (length s) ++ s ++ r) (write_append ss ts)
    ∙ sym (append_assoc (digits 256 2 (length s) ++ s) (write_strings ss) (write_strings ts))

-- strings in front of what is read
abbrev pub all_in_front : List Bytes → Read → Read
all_in_front [] r = r
all_in_front (s ∷ ss) r = in_front s (all_in_front ss r)

all_in_front_lem : (ss : List Bytes) → all_in_front ss (as_strings []) ≡ as_strings ss
all_in_front_lem [] = refl
all_in_front_lem (s ∷ ss) = ap (in_front s) (all_in_front_lem ss)

-- strings that are written read, and then what follows them
pub written_then : (k n : ℕ) (ss : List Bytes) (h : Bytes) → AllFit ss
    → read_strings k (length ss + n) (write_strings ss ++ h) ≡ all_in_front ss (read_strings (k + length ss) n h)
unfolding write_strings
written_then k n [] h p =
    let all : 0 + n ≡ n = omega arith in
    let e : k ≡ k + 0 = omega arith in
    λ i. read_strings (e i) (all i) h
written_then k n (s ∷ ss) h p =
    let all : length (s ∷ ss) + n ≡ suc (length ss + n) = omega arith in
    let e : suc k + length ss ≡ k + length (s ∷ ss) = omega arith in
    (λ i. read_strings k (all i) (append_assoc (digits 256 2 (length s) ++ s) (write_strings ss) h i))
    ∙ ap (λ (d : Bytes). read_strings k (suc (length ss + n)) (d ++ s ++ (write_strings ss ++ h))) (two (length s))
    ∙ reads_one k (length ss + n) (length s / 256 % 256) (length s % 256) s (write_strings ss ++ h) (two_value (length s) (omega (arith, p.0.short))) p.0.short
    ∙ ap (in_front s) (written_then (suc k) n ss h p.1 ∙ ap (λ (j : ℕ). all_in_front ss (read_strings j n h)) e)

written_reads : (k : ℕ) (ss : List Bytes) → AllFit ss → read_strings k (length ss) (write_strings ss) ≡ as_strings ss
unfolding read_strings
written_reads k ss p =
    let n : length ss ≡ length ss + 0 = omega arith in
    (λ i. read_strings k (n i) (sym (append-nil (write_strings ss)) i)) ∙ written_then k 0 ss [] p ∙ all_in_front_lem ss

-- a count from 1 to 16, and then the strings
pub counted : (n : ℕ) (h : Bytes) → 1 ≤ n → n ≤ 16 → reading (n ∷ h) ≡ read_strings 1 n h
unfolding reading
counted n h p q = both _ (bad_entry 0) (le-leb 1 n p) (le-leb n most_strings q)

-- a header that is written reads back as its strings
pub write_read : (ss : List Bytes) → Readable ss → read_header (write_header ss) ≡ some ss
unfolding read_header write_header
write_read ss r = ap strings_of (counted (length ss) (write_strings ss) r.least r.most ∙ written_reads 1 ss r.each)

-- ---- What reads was written

-- ss are n strings that fit, and h is what is written of them
record Written (n : ℕ) (h : Bytes) (ss : List Bytes) : Type 0 where
  count : length ss ≡ n
  bytes : write_strings ss ≡ h
  each : AllFit ss

-- no entry stands first in h: a length byte is missing, or the length is above 1024 or more than there is
abbrev pub NoEntry : Bytes → Type 0
NoEntry [] = Unit {0}
NoEntry (high ∷ []) = Unit {0}
NoEntry (high ∷ low ∷ h) = (1024 < high * 256 + low) ⊎ (length h < high * 256 + low)

-- of n strings in h, those before the j-th read, and the j-th does not; the first is the k-th
pub record Stops (k n : ℕ) (h : Bytes) (j : ℕ) : Type 0 where
  pub before : List Bytes
  pub rest : Bytes
  pub bytes : write_strings before ++ rest ≡ h
  pub each : AllFit before
  pub next : k + length before ≡ j
  pub wanted : length before < n
  pub bad : NoEntry rest

-- all n strings in h read, and a byte is left over
pub record Over (n : ℕ) (h : Bytes) : Type 0 where
  pub before : List Bytes
  pub byte : ℕ
  pub rest : Bytes
  pub bytes : write_strings before ++ (byte ∷ rest) ≡ h
  pub each : AllFit before
  pub count : length before ≡ n

-- what reading n strings in h, from the k-th on, says of h
abbrev Says : ℕ → ℕ → Bytes → Read → Type 0
Says k n h (as_strings ss) = Written n h ss
Says k n h (bad_entry j) = Stops k n h j ⊎ ((j ≡ 17) × Over n h)

-- the two bytes of the number that two bytes represent
bytes_of_two : (high low : ℕ) → high < 256 → low < 256 → digits 256 2 (high * 256 + low) ≡ high ∷ low ∷ []
bytes_of_two high low p q = two (high * 256 + low) ∙ ap₂ (λ (a b : ℕ). a ∷ b ∷ []) (omega arith) (omega arith)

strings_say : (k n : ℕ) (h : Bytes) → Below 256 h → Says k n h (read_strings k n h)
unfolding read_strings write_strings
strings_say k zero [] p = record { count = refl; bytes = refl; each = tt }
strings_say k zero (b ∷ h) p = inr (refl, record { before = []; byte = b; rest = h; bytes = refl; each = tt; count = refl })
strings_say k (suc n) [] p = inl (record { before = []; rest = []; bytes = refl; each = tt; next = omega arith; wanted = omega arith; bad = tt })
strings_say k (suc n) (high ∷ []) p = inl (record { before = []; rest = high ∷ []; bytes = refl; each = tt; next = omega arith; wanted = omega arith; bad = tt })
strings_say k (suc n) (high ∷ low ∷ h) p =
    go (leb size longest_string) refl (leb size (length h)) refl (read_strings (suc k) n (drop size h)) (strings_say (suc k) n (drop size h) (below_drop 256 size h p.1.1))
  where
    size : ℕ
    size = high * 256 + low

    first : leb size longest_string ≡ true → Fits (take size h)
    first e = record { short = omega (arith, length-take size h, leb-true size longest_string e); low = below_take 256 size h p.1.1 }

    front : leb size (length h) ≡ true → (ts : List Bytes) (r : Bytes) → write_strings ts ++ r ≡ drop size h → write_strings (take size h ∷ ts) ++ r ≡ high ∷ low ∷ h
    front f ts r g =
        let len : length (take size h) ≡ size = length-take-le size h (leb-true size (length h) f) in
        append_assoc (digits 256 2 (length (take size h)) ++ take size h) (write_strings ts) r
        ∙ ap₂ (λ (d l : Bytes). d ++ take size h ++ l) (ap (digits 256 2) len ∙ bytes_of_two high low p.0 p.1.0) g
        ∙ ap (λ (l : Bytes). high ∷ low ∷ l) (take-append-drop size h)

    none_read : NoEntry (high ∷ low ∷ h) → Says k (suc n) (high ∷ low ∷ h) (bad_entry k)
    none_read b = inl (record { before = []; rest = high ∷ low ∷ h; bytes = refl; each = tt; next = omega arith; wanted = omega arith; bad = b })

    go : (a : Bool) → leb size longest_string ≡ a → (b : Bool) → leb size (length h) ≡ b → (r : Read) → Says (suc k) n (drop size h) r
        → Says k (suc n) (high ∷ low ∷ h) (if a && b then in_front (take size h) r else bad_entry k)
    go true e true f (bad_entry j) (inl s) =
        inl
        (record {
          before = take size h ∷ s.before;
          rest = s.rest;
          bytes = front f s.before s.rest s.bytes;
          each = (first e, s.each);
          next = omega (arith, s.next);
          wanted = omega (arith, s.wanted);
          bad = s.bad;
        })
    go true e true f (bad_entry j) (inr (last, o)) =
        inr (
          last,
          record {
            before = take size h ∷ o.before;
            byte = o.byte;
            rest = o.rest;
            bytes = front f o.before (o.byte ∷ o.rest) o.bytes;
            each = (first e, o.each);
            count = ap suc o.count;
          },
        )
    go true e true f (as_strings ts) w =
        record {
          count = ap suc w.count;
          bytes = sym (append-nil _) ∙ front f ts [] (append-nil (write_strings ts) ∙ w.bytes);
          each = (first e, w.each);
        }
    go true e false f r s = none_read (inr (leb-false size (length h) f))
    go false e b f r s = none_read (inl (leb-false size longest_string e))

-- ---- What reading a header says of it

-- 0: no count, or one that is not from 1 to 16
abbrev pub BadCount : Bytes → Type 0
BadCount [] = Unit {0}
BadCount (count ∷ h) = (count ≡ 0) ⊎ (16 < count)

-- 1 to 16: the count is right, the strings before the j-th read, and the j-th does not
abbrev pub BadString : ℕ → Bytes → Type 0
BadString j [] = ⊥
BadString j (count ∷ h) = (count ≤ 16) × Stops 1 count h j

-- 17: the count is right, all strings read, and a byte is left over
abbrev pub LeftOver : Bytes → Type 0
LeftOver [] = ⊥
LeftOver (count ∷ h) = (1 ≤ count) × (count ≤ 16) × Over count h

-- where it reads, it is the one that is written of its strings, and these are readable
abbrev pub SaysHeader : Bytes → Read → Type 0
SaysHeader h (as_strings ss) = (write_header ss ≡ h) × Readable ss
SaysHeader h (bad_entry j) = ((j ≡ 0) × BadCount h) ⊎ (BadString j h ⊎ ((j ≡ 17) × LeftOver h))

pub header_says : (h : Bytes) → Below 256 h → SaysHeader h (reading h)
unfolding reading write_header
header_says [] p = inl (refl, tt)
header_says (count ∷ h) p = go (leb 1 count) refl (leb count most_strings) refl (read_strings 1 count h) (strings_say 1 count h p.1)
  where
    go : (a : Bool) → leb 1 count ≡ a → (b : Bool) → leb count most_strings ≡ b → (r : Read) → Says 1 count h r
        → SaysHeader (count ∷ h) (if a && b then r else bad_entry 0)
    go true e true f (bad_entry j) (inl s) = inr (inl (leb-true count most_strings f, s))
    go true e true f (bad_entry j) (inr (last, o)) = inr (inr (last, (leb-true 1 count e, leb-true count most_strings f, o)))
    go true e true f (as_strings ss) w = (
      ap₂ (λ (n : ℕ) (l : Bytes). n ∷ l) w.count w.bytes,
      record { least = omega (arith, w.count, leb-true 1 count e); most = omega (arith, w.count, leb-true count most_strings f); each = w.each },
    )
    go true e false f r s = inl (refl, inr (leb-false count most_strings f))
    go false e b f r s = inl (refl, inl (omega (arith, leb-false 1 count e)))

-- the strings of a header are what it reads as
pub reads_as : (h : Bytes) (ss : List Bytes) → read_header h ≡ some ss → reading h ≡ as_strings ss
unfolding read_header
reads_as h ss e = go (reading h) e
  where
    go : (r : Read) → strings_of r ≡ some ss → r ≡ as_strings ss
    go (bad_entry j) e = cc
    go (as_strings ts) e = cc

-- a header that reads is the one that is written of its strings
pub read_write : (h : Bytes) (ss : List Bytes) → Below 256 h → read_header h ≡ some ss → write_header ss ≡ h
read_write h ss p e = (subst (SaysHeader h) (reads_as h ss e) (header_says h p)).0

-- and its strings are readable
pub read_readable : (h : Bytes) (ss : List Bytes) → Below 256 h → read_header h ≡ some ss → Readable ss
read_readable h ss p e = (subst (SaysHeader h) (reads_as h ss e) (header_says h p)).1

-- two headers that read have equal lists of strings only if they are equal
pub same_header : (g h : Bytes) (ss : List Bytes) → Below 256 g → Below 256 h → read_header g ≡ some ss → read_header h ≡ some ss → g ≡ h
same_header g h ss p q d e = sym (read_write g ss p d) ∙ read_write h ss q e

-- ---- The tweak

-- the tweak determines the stretch and the strings
pub same_tweak : (s t : ℕ) (NA NB : List Bytes) → s ≤ 64 → t ≤ 64 → tweak s NA ≡ tweak t NB → (s ≡ t) × (NA ≡ NB)
same_tweak s t NA NB p q e =
    let f : number (8 * s) ≡ number (8 * t) = cc in
    let g = sym (number_64 (8 * s) (omega arith)) ∙ f ∙ number_64 (8 * t) (omega arith) in
    let low : 8 * s % 256 ≡ 8 * t % 256 = ap (λ (l : Bytes). get_or l 15 0) g in
    let high : 8 * s / 256 % 256 ≡ 8 * t / 256 % 256 = ap (λ (l : Bytes). get_or l 14 0) g in
    let m : 8 * s ≡ 8 * t = sym (two_value (8 * s) (omega arith)) ∙ ap₂ (λ (a b : ℕ). a * 256 + b) high low ∙ two_value (8 * t) (omega arith) in
    (omega (arith, m), (cc))

-- ---- The log header

module _ (nonce host collector locale : Bytes) (p : Fits nonce) (q : Fits host) (r : Fits collector) (s : Fits locale) where
  -- the log header reads, with exactly the four items
  pub log_header_reads : read_header (log_header nonce host collector locale) ≡ some (nonce ∷ host ∷ collector ∷ locale ∷ [])
  unfolding log_header log_items
  log_header_reads =
      write_read (nonce ∷ host ∷ collector ∷ locale ∷ []) (record { least = omega arith; most = omega arith; each = (p, (q, (r, (s, tt)))) })

-- two sets of four items have equal headers only if all four are equal
pub same_items : (nonce host collector locale nonce' host' collector' locale' : Bytes)
    → Fits nonce → Fits host → Fits collector → Fits locale → Fits nonce' → Fits host' → Fits collector' → Fits locale'
    → log_header nonce host collector locale ≡ log_header nonce' host' collector' locale'
    → (nonce ≡ nonce') × (host ≡ host') × (collector ≡ collector') × (locale ≡ locale')
same_items a b c d a' b' c' d' p q r s p' q' r' s' e =
    let one = log_header_reads a b c d p q r s in
    let other = log_header_reads a' b' c' d' p' q' r' s' in
    let both_read : read_header (log_header a b c d) ≡ read_header (log_header a' b' c' d') = ap read_header e in
    ((cc), (cc), (cc), (cc))
