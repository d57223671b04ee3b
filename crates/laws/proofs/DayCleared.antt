-- CLEARING. Kept records keep their order, their stretch and their sealed bytes, and name the same header's bytes as before. The day after
-- clearing is within the layout, its file is not longer, and clearing it again with an empty list leaves it as it is.
use mathlib.Core.Bool.{Bool, true, false, ◌&&◌, ◌||◌}
use mathlib.Core.List.{List, [], ◌∷◌, map}
use mathlib.Core.Option.{some}
use mathlib.Core.Path.{◌≡◌, refl, ap, sym, subst, ◌∙◌}
use Prim.Native.Nat.{ℕ, zero, suc, ◌+◌, ◌≤◌, ◌<◌}
use native.Mathlib.Nat.{zero-add}
use native.Mathlib.Omega.{arith}
use borrow.Author.Tests.{eqb-true, eq-eqb, le-leb, lt-ltb}
use lib.Dec.{eqb}
use lib.ListN.{length, get_or, get_elem?}
use Rattle.paper.specs.Strings.{Bytes}
use Rattle.paper.specs.Document01.{write_strings}
use Rattle.paper.specs.DayFile.{Record, Day, write_records, write_day, record_fits, header_of}
use Rattle.paper.specs.DayEdits.{pick_from, count_below, has, keeps, named, mended, packed, cleared}
use Rattle.laws.proofs.DayWritten.{HeadersFit, RecordsFit, Layout, strings_long, records_long, first_place_lem, day_long}
use Rattle.laws.proofs.DayReading.{record_fits_lem}
use Rattle.laws.proofs.Picks.{count_taken, count_rises, count_below_lem, count_all, pick_taken, pick_left, pick_many, pick_elem, pick_get_or, pick_was, pick_all}

-- ---- A record's header is named

or_left : (a b : Bool) → a ≡ true → (a || b) ≡ true
or_left a b e = ap (λ (c : Bool). c || b) e

or_right : (a b : Bool) → b ≡ true → (a || b) ≡ true
or_right true b e = refl
or_right false b e = e

-- each of the records ss names a header that the records rs name
abbrev pub EachNamed : List Record → List Record → Type 0
EachNamed rs [] = Unit {0}
EachNamed rs (s ∷ ss) = (named rs s.header ≡ true) × EachNamed rs ss

named_more : (r : Record) (rs ss : List Record) → EachNamed rs ss → EachNamed (r ∷ rs) ss
unfolding named
named_more r rs [] p = tt
named_more r rs (s ∷ ss) p = (or_right (eqb r.header s.header) (named rs s.header) p.0, named_more r rs ss p.1)

pub own_named : (rs : List Record) → EachNamed rs rs
unfolding named
own_named [] = tt
own_named (r ∷ rs) = (or_left (eqb r.header r.header) (named rs r.header) (eq-eqb r.header r.header refl), named_more r rs rs (own_named rs))

elem_named : (rs ss : List Record) (k : ℕ) (r : Record) → EachNamed rs ss → get_elem? ss k ≡ some r → named rs r.header ≡ true
elem_named rs [] k r p e = absurd (let z : ◌≡◌ {A = ℕ} 0 1 = cc in omega arith)
elem_named rs (s ∷ ss) zero r p e = let q : s ≡ r = cc in ap (λ (t : Record). named rs t.header) (sym q) ∙ p.0
elem_named rs (s ∷ ss) (suc k) r p e = elem_named rs ss k r p.1 e

-- ---- What each header and record keeps

module _ (p : ℕ → Bool) where
  pub headers_kept : (n : ℕ) (hs : List Bytes) → HeadersFit hs → HeadersFit (pick_from p n hs)
  unfolding pick_from
  headers_kept n [] f = tt
  headers_kept n (h ∷ hs) f = go (p n) refl (headers_kept (suc n) hs f.1)
    where
      go : (b : Bool) → p n ≡ b → HeadersFit (pick_from p (suc n) hs) → HeadersFit (pick_from p n (h ∷ hs))
      go true e g = subst HeadersFit (sym (pick_taken p n h hs e)) (f.0, g)
      go false e g = subst HeadersFit (sym (pick_left p n h hs e)) g

  pub records_kept_lem : (headers n : ℕ) (rs : List Record) → RecordsFit headers rs → RecordsFit headers (pick_from p n rs)
  unfolding pick_from
  records_kept_lem headers n [] f = tt
  records_kept_lem headers n (r ∷ rs) f = go (p n) refl (records_kept_lem headers (suc n) rs f.1)
    where
      go : (b : Bool) → p n ≡ b → RecordsFit headers (pick_from p (suc n) rs) → RecordsFit headers (pick_from p n (r ∷ rs))
      go true e g = subst (RecordsFit headers) (sym (pick_taken p n r rs e)) (f.0, g)
      go false e g = subst (RecordsFit headers) (sym (pick_left p n r rs e)) g

  -- and none grows
  pub strings_less : (n : ℕ) (hs : List Bytes) → length (write_strings (pick_from p n hs)) ≤ length (write_strings hs)
  unfolding pick_from
  strings_less n [] = omega arith
  strings_less n (h ∷ hs) = go (p n) refl (strings_less (suc n) hs)
    where
      go : (b : Bool) → p n ≡ b → length (write_strings (pick_from p (suc n) hs)) ≤ length (write_strings hs)
          → length (write_strings (pick_from p n (h ∷ hs))) ≤ length (write_strings (h ∷ hs))
      go true e g =
          omega (arith, g, ap (λ (l : List Bytes). length (write_strings l)) (pick_taken p n h hs e), strings_long h hs, strings_long h (pick_from p (suc n) hs))
      go false e g = omega (arith, g, ap (λ (l : List Bytes). length (write_strings l)) (pick_left p n h hs e), strings_long h hs)

  pub records_less : (n : ℕ) (rs : List Record) → length (write_records (pick_from p n rs)) ≤ length (write_records rs)
  unfolding pick_from
  records_less n [] = omega arith
  records_less n (r ∷ rs) = go (p n) refl (records_less (suc n) rs)
    where
      go : (b : Bool) → p n ≡ b → length (write_records (pick_from p (suc n) rs)) ≤ length (write_records rs)
          → length (write_records (pick_from p n (r ∷ rs))) ≤ length (write_records (r ∷ rs))
      go true e g =
          omega (arith, g, ap (λ (l : List Record). length (write_records l)) (pick_taken p n r rs e), records_long r rs, records_long r (pick_from p (suc n) rs))
      go false e g = omega (arith, g, ap (λ (l : List Record). length (write_records l)) (pick_left p n r rs e), records_long r rs)

  pub fewer : {A : Type 0} (n : ℕ) (xs : List A) → length (pick_from p n xs) ≤ length xs
  unfolding pick_from
  fewer n [] = omega arith
  fewer n (x ∷ xs) = go (p n) refl (fewer (suc n) xs)
    where
      go : (b : Bool) → p n ≡ b → length (pick_from p (suc n) xs) ≤ length xs → length (pick_from p n (x ∷ xs)) ≤ length (x ∷ xs)
      go true e g = omega (arith, g, ap length (pick_taken p n x xs e))
      go false e g = omega (arith, g, ap length (pick_left p n x xs e))

-- ---- Mended records

module _ (rs : List Record) where
  abbrev number : ℕ → ℕ
  number n = count_below (named rs) n

  mended_long : (ss : List Record) → length (write_records (map (mended rs) ss)) ≡ length (write_records ss)
  mended_long [] = refl
  mended_long (s ∷ ss) = omega (arith, mended_long ss, records_long s ss, records_long (mended rs s) (map (mended rs) ss))

  mended_many : (ss : List Record) → length (map (mended rs) ss) ≡ length ss
  mended_many [] = refl
  mended_many (s ∷ ss) = ap suc (mended_many ss)

  mended_elem : (ss : List Record) (k : ℕ) (r : Record) → get_elem? ss k ≡ some r → get_elem? (map (mended rs) ss) k ≡ some (mended rs r)
  mended_elem [] k r e = absurd (let z : ◌≡◌ {A = ℕ} 0 1 = cc in omega arith)
  mended_elem (s ∷ ss) zero r e = let q : s ≡ r = cc in ap (λ (t : Record). some (mended rs t)) q
  mended_elem (s ∷ ss) (suc k) r e = mended_elem ss k r e

  module _ (hs : List Bytes) where
    abbrev headers : List Bytes
    headers = pick_from (named rs) 0 hs

    many : number (length hs) ≡ length headers
    unfolding count_below
    many = ap number (sym (zero-add (length hs))) ∙ pick_many (named rs) 0 hs ∙ zero-add (length headers)

    -- the new number of a header that is named is one of the kept headers'
    new_number : (n : ℕ) → named rs n ≡ true → n < length hs → number n < length headers
    new_number n e p =
        let past : (m : ℕ) → suc n + m ≡ length hs → number n < length headers =
        λ m q. omega (arith, count_taken (named rs) n e, count_rises (named rs) (suc n) m, ap number q, many) in
        rest n (length hs) p past
      where
        rest : (n k : ℕ) → n < k → {A : Type 0} → ((m : ℕ) → suc n + m ≡ k → A) → A
        rest n zero p f = absurd (omega arith)
        rest zero (suc k) p f = f k (omega arith)
        rest (suc n) (suc k) p f = rest n k (omega arith) (λ m q. f m (omega (arith, q)))

    -- and leads to the same bytes
    same_header : (n : ℕ) → named rs n ≡ true → n < length hs → get_or headers (number n) [] ≡ get_or hs n []
    unfolding count_below
    same_header n e p = pick_get_or (named rs) 0 hs n (number n) [] (ap (named rs) (zero-add n) ∙ e) (ap number (zero-add n) ∙ sym (zero-add (number n))) p

    fits : (r : Record) → named rs r.header ≡ true → record_fits (length hs) r ≡ true → record_fits (length headers) (mended rs r) ≡ true
    fits r e f =
        let g = record_fits_lem (length hs) r f in
        let n = number r.header in
        λ i. le-leb n 65535 (omega (arith, count_below_lem (named rs) r.header, g.0)) i && lt-ltb n (length headers) (new_number r.header e g.1) i && le-leb r.stretch 64 g.2 i

    mended_fit : (ss : List Record) → EachNamed rs ss → RecordsFit (length hs) ss → RecordsFit (length headers) (map (mended rs) ss)
    mended_fit [] e f = tt
    mended_fit (s ∷ ss) e f = (fits s e.0 f.0, mended_fit ss e.1 f.1)

    -- every kept header is named by a mended record
    named_mended : (ss : List Record) (n : ℕ) → named ss n ≡ true → named (map (mended rs) ss) (number n) ≡ true
    unfolding named
    named_mended [] n e = e
    named_mended (s ∷ ss) n e = go (eqb s.header n) refl e (λ f. named_mended ss n f)
      where
        go : (b : Bool) → eqb s.header n ≡ b → (b || named ss n) ≡ true → (named ss n ≡ true → named (map (mended rs) ss) (number n) ≡ true)
            → (eqb (number s.header) (number n) || named (map (mended rs) ss) (number n)) ≡ true
        go true q e next =
            or_left (eqb (number s.header) (number n)) (named (map (mended rs) ss) (number n)) (eq-eqb (number s.header) (number n) (ap number (eqb-true s.header n q)))
        go false q e next = or_right (eqb (number s.header) (number n)) (named (map (mended rs) ss) (number n)) (next e)

    all_named : (c : ℕ) → c < length headers → named (map (mended rs) rs) c ≡ true
    unfolding count_below
    all_named c p =
        let w = pick_was (named rs) 0 hs c p in
        let k = w.0 in
        let is : number k ≡ c = ap number (sym (zero-add k)) ∙ w.1.counts ∙ zero-add c in
        ap (named (map (mended rs) rs)) (sym is) ∙ named_mended rs k (ap (named rs) (sym (zero-add k)) ∙ w.1.passes)

    -- so that packing what is packed changes nothing
    again : (ss : List Record) → RecordsFit (length headers) ss → map (mended (map (mended rs) rs)) ss ≡ ss
    again [] f = refl
    again (s ∷ ss) f =
        let n = s.header in
        let small = (record_fits_lem (length headers) s f.0).1 in
        let same : count_below (named (map (mended rs) rs)) n ≡ n = count_all (named (map (mended rs) rs)) n (λ k p. all_named k (omega (arith, small))) in
        λ i. record { header = same i; stretch = s.stretch; sealed = s.sealed } ∷ again ss f.1 i

    pub packed_again : RecordsFit (length hs) rs → packed (packed hs rs).headers (packed hs rs).records ≡ packed hs rs
    unfolding packed
    packed_again f =
        let ss = map (mended rs) rs in
        λ i. record {
          headers = pick_all (named ss) 0 headers (λ k p. ap (named ss) (zero-add k) ∙ all_named k p) i;
          records = again ss (mended_fit rs (own_named rs) f) i;
        }

-- ---- The day after clearing

module _ (dropped : List ℕ) (day : Day) (within : Layout day) where
  abbrev kept : List Record
  kept = pick_from (keeps dropped) 0 day.records

  kept_fit : RecordsFit (length day.headers) kept
  kept_fit = records_kept_lem (keeps dropped) (length day.headers) 0 day.records within.records_fit

  pub cleared_shorter : length (write_day (cleared dropped day)) ≤ length (write_day day)
  unfolding cleared packed
  cleared_shorter =
      omega
      (arith, day_long day, day_long (cleared dropped day), first_place_lem day.headers, first_place_lem (cleared dropped day).headers, strings_less (named kept) 0 day.headers, mended_long kept kept, mended_many kept kept, records_less (keeps dropped) 0 day.records, fewer (keeps dropped) 0 day.records)

  pub cleared_within : Layout (cleared dropped day)
  unfolding cleared packed
  cleared_within = record {
    headers_fit = headers_kept (named kept) 0 day.headers within.headers_fit;
    records_fit = mended_fit kept day.headers kept (own_named kept) kept_fit;
    short = omega (arith, cleared_shorter, within.short);
  }

  pub cleared_many : length (cleared dropped day).records ≡ length kept
  unfolding cleared packed
  cleared_many = mended_many kept kept

  -- clearing again with an empty list
  pub cleared_again : cleared [] (cleared dropped day) ≡ cleared dropped day
  unfolding cleared has packed
  cleared_again =
      let rs = (packed day.headers kept).records in
      ap (packed (packed day.headers kept).headers) (pick_all (keeps []) 0 rs (λ k p. refl))
      ∙ packed_again kept day.headers kept_fit

  -- record k, where it is kept, by its number before and after: the same stretch, sealed bytes and header
  module _ (k : ℕ) (r : Record) (keep : keeps dropped k ≡ true) (e : get_elem? day.records k ≡ some r) where
    abbrev after : ℕ
    after = count_below (keeps dropped) k

    kept_elem : get_elem? kept after ≡ some r
    unfolding count_below
    kept_elem =
        pick_elem (keeps dropped) 0 day.records k after r (ap (keeps dropped) (zero-add k) ∙ keep)
        (ap (count_below (keeps dropped)) (zero-add k) ∙ sym (zero-add after)) e

    pub kept_record : get_elem? (cleared dropped day).records after ≡ some (mended kept r)
    unfolding cleared packed
    kept_record = mended_elem kept kept after r kept_elem

    r_named : named kept r.header ≡ true
    r_named = elem_named kept kept after r (own_named kept) kept_elem

    pub kept_header : record_fits (length day.headers) r ≡ true → header_of (cleared dropped day) (mended kept r) ≡ header_of day r
    unfolding cleared packed
    kept_header f = same_header kept day.headers r.header r_named (record_fits_lem (length day.headers) r f).1
