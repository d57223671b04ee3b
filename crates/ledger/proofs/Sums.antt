-- The walk over the pauses: what was added up, and what the definitions give for the rest.
use mathlib.Core.Bool.{Bool, true, false}
use mathlib.Core.List.{List, [], ◌∷◌}
use mathlib.Core.Option.{Option, none, some}
use mathlib.Core.Path.{◌≡◌, refl, ap, sym, subst, ◌∙◌}
use Prim.Native.Nat.{ℕ, suc, ◌+◌, ◌≤◌, ◌<◌, max}
use native.Mathlib.Nat.{max-le, le-max_left, le-max_right, le_antisymm, le_trans, max-zero, zero-max}
use native.Mathlib.Numerals.{add-one}
use native.Mathlib.Omega.{arith}
use lib.Dec.{eqb}
use lib.ListN.{length, get_or, drop, drop_of_length-le, length-map}
use lib.Seq.{drop-cons}
use Rattle.std.specs.Prelude.{if◌then◌else◌}
use Rattle.paper.specs.Strings.{Bytes, Below}
use Rattle.paper.specs.DayFile.{Day, read_day}
use Rattle.paper.specs.Pause.{Pause, no_pause}
use Rattle.paper.specs.Ledger.{pause_of, pauses_of, read_count, refused_count, sum_of, longest_of}
use Rattle.laws.proofs.LedgerSums.{read_or_refused, few_pauses, sum_below}
use Rattle.std.specs.Prelude.{None, Some}
use Rattle.std.specs.Prelude as std
use Rattle.std.specs.Option.{unwrap_or}
use Rattle.mean.specs.declared.Totals.{Totals}
use Rattle.day_find.specs.Finds.{records_in}
use Rattle.pause_sum.specs.Added.{added_to}
use Rattle.ledger.specs.Pauses.{taken_as, pauses_in, totals_of}

max_assoc : (a b c : ℕ) → max a (max b c) ≡ max (max a b) c
max_assoc a b c =
    le_antisymm
    (max-le (le_trans (le-max_left a b) (le-max_left (max a b) c)) (max-le (le_trans (le-max_right a b) (le-max_left (max a b) c)) (le-max_right (max a b) c)))
    (max-le (max-le (le-max_left a (max b c)) (le_trans (le-max_left b c) (le-max_right a (max b c)))) (le_trans (le-max_right b c) (le-max_right a (max b c))))

-- t are the totals of the pauses before number k
pub record Added (ps : List Pause) (k : ℕ) (t : Totals) : Type 0 where
  pub read : read_count ps ≡ t.read + read_count (drop k ps)
  pub refused : refused_count ps ≡ t.refused + refused_count (drop k ps)
  pub sum : sum_of ps ≡ t.sum + sum_of (drop k ps)
  pub longest : longest_of ps ≡ max t.longest (longest_of (drop k ps))

pub none_added : (ps : List Pause) → Added ps 0 (record { read = 0; refused = 0; sum = 0; longest = 0 })
none_added ps = record { read = omega arith; refused = omega arith; sum = omega arith; longest = sym (zero-max (longest_of ps)) }

pub all_added : (ps : List Pause) (k : ℕ) (t : Totals) → Added ps k t → length ps ≤ k → t ≡ totals_of ps
unfolding read_count refused_count sum_of longest_of
all_added ps k t a p =
    let none_left : drop k ps ≡ [] = drop_of_length-le ps p in
    let r : read_count ps ≡ t.read = a.read ∙ ap (λ (l : List Pause). t.read + read_count l) none_left ∙ omega arith in
    let f : refused_count ps ≡ t.refused = a.refused ∙ ap (λ (l : List Pause). t.refused + refused_count l) none_left ∙ omega arith in
    let s : sum_of ps ≡ t.sum = a.sum ∙ ap (λ (l : List Pause). t.sum + sum_of l) none_left ∙ omega arith in
    let m : longest_of ps ≡ t.longest = a.longest ∙ ap (λ (l : List Pause). max t.longest (longest_of l)) none_left ∙ max-zero t.longest in
    λ i. record { read = sym r i; refused = sym f i; sum = sym s i; longest = sym m i }

module _ (ps : List Pause) (k : ℕ) (t : Totals) (a : Added ps k t) (more : k < length ps) where
  abbrev p : Pause
  p = get_or ps k (no_pause 9)

  abbrev rest : List Pause
  rest = drop (k + 1) ps

  splits : drop k ps ≡ p ∷ rest
  splits = drop-cons ps k (no_pause 9) more ∙ ap (λ (n : ℕ). p ∷ drop n ps) (sym (add-one k))

  -- by whether it was read
  by_number : (b : Bool) → eqb p.number 0 ≡ b
      → (read_count ps ≡ t.read + (if b then suc (read_count rest) else read_count rest))
      × (refused_count ps ≡ t.refused + (if b then refused_count rest else suc (refused_count rest)))
      × (sum_of ps ≡ t.sum + (if b then p.microseconds + sum_of rest else sum_of rest))
      × (longest_of ps ≡ max t.longest (if b then max p.microseconds (longest_of rest) else longest_of rest))
  unfolding read_count refused_count sum_of longest_of
  by_number b e = (
    a.read ∙ ap (λ (l : List Pause). t.read + read_count l) splits ∙ ap (λ (b : Bool). t.read + (if b then suc (read_count rest) else read_count rest)) e,
    a.refused
        ∙ ap (λ (l : List Pause). t.refused + refused_count l) splits
        ∙ ap (λ (b : Bool). t.refused + (if b then refused_count rest else suc (refused_count rest))) e,
    a.sum ∙ ap (λ (l : List Pause). t.sum + sum_of l) splits ∙ ap (λ (b : Bool). t.sum + (if b then p.microseconds + sum_of rest else sum_of rest)) e,
    a.longest
        ∙ ap (λ (l : List Pause). max t.longest (longest_of l)) splits
        ∙ ap (λ (b : Bool). max t.longest (if b then max p.microseconds (longest_of rest) else longest_of rest)) e,
  )

  pub one_added : (r : std.Option ℕ) → r ≡ taken_as p → Added ps (k + 1) (added_to t r)
  one_added r e = subst (λ (x : std.Option ℕ). Added ps (k + 1) (added_to t x)) (sym e) (go (eqb p.number 0) refl)
    where
      go : (b : Bool) → eqb p.number 0 ≡ b → Added ps (k + 1) (added_to t (if b then Some p.microseconds else None))
      go true f =
          let q = by_number true f in
          record {
            read = omega (arith, q.0);
            refused = q.1;
            sum = omega (arith, q.2);
            longest = q.3 ∙ max_assoc t.longest p.microseconds (longest_of rest);
          }
      go false f = let q = by_number false f in record { read = q.0; refused = omega (arith, q.1); sum = q.2; longest = q.3 }

  -- the sum with it is not above that of all
  pub sum_so_far : (r : std.Option ℕ) → r ≡ taken_as p → t.sum + unwrap_or r 0 ≤ sum_of ps
  sum_so_far r e = subst (λ (x : std.Option ℕ). t.sum + unwrap_or x 0 ≤ sum_of ps) (sym e) (go (eqb p.number 0) refl)
    where
      go : (b : Bool) → eqb p.number 0 ≡ b → t.sum + unwrap_or (if b then Some p.microseconds else None) 0 ≤ sum_of ps
      go true f = omega (arith, (by_number true f).2)
      go false f = omega (arith, (by_number false f).2)

-- ---- Of a file

pub pauses_are : (key : Bytes) (o : Option Day) → length (pauses_in key o) ≡ records_in o
unfolding pauses_of
pauses_are key none = refl
pauses_are key (some day) = length-map day.records (pause_of key day)

-- there is room for one record more, and its pause
pub room : (key f : Bytes) → Below 256 f → (k : ℕ) (t : Totals) → Added (pauses_in key (read_day f)) k t → k < records_in (read_day f) → (r : std.Option ℕ) → r ≡ taken_as (get_or (pauses_in key (read_day f)) k (no_pause 9))
    → (t.read < 65536) × (t.refused < 65536) × (t.sum + unwrap_or r 0 < 18446744073709551616)
room key f low k t a p r e = go (read_day f) refl a p e
  where
    go : (o : Option Day) → read_day f ≡ o → Added (pauses_in key o) k t → k < records_in o → r ≡ taken_as (get_or (pauses_in key o) k (no_pause 9))
        → (t.read < 65536) × (t.refused < 65536) × (t.sum + unwrap_or r 0 < 18446744073709551616)
    go none q a p e = absurd (omega arith)
    go (some day) q a p e =
        let ps = pauses_of key day in
        let few = few_pauses key f day low q in
        let both = read_or_refused ps in (
          omega (arith, a.read, few, both),
          omega (arith, a.refused, few, both),
          omega (arith, sum_so_far ps k t a (omega (arith, pauses_are key (some day))) r e, sum_below key f day low q),
        )
