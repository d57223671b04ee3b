-- A turn of each walk: what is marked, counted and kept of one more header or record.
use mathlib.Core.Bool.{Bool, true, false, ◌&&◌, ◌||◌, not}
use mathlib.Core.List.{List, [], ◌++◌}
use mathlib.Core.Path.{◌≡◌, refl, ap, sym, ◌∙◌}
use Prim.Native.Nat.{ℕ, zero, suc, ◌+◌, ◌-◌, ◌*◌, ◌≤◌, ◌<◌}
use native.Mathlib.Nat.{add-zero}
use native.Mathlib.Numerals.{add-one}
use native.Mathlib.Omega.{arith}
use lib.Dec.{eqb}
use lib.ListN.{length, take, drop, replicate, length-append, length-drop, length-set}
use lib.Seq.{length-take-le}
use Rattle.std.specs.Prelude.{if◌then◌else◌}
use Rattle.std.specs.Int.{from_bool}
use Rattle.paper.specs.Strings.{Bytes, digits}
use Rattle.paper.specs.DayFile.{value}
use Rattle.paper.specs.DayEdits.{count_below, has, keeps}
use Rattle.laws.proofs.BitStrings.{length_digits}
use Rattle.laws.proofs.Picks.{count_taken, count_left}
use Rattle.laws.specs.Placing.{placed}
use Rattle.laws.proofs.Placed.{placed_then}
use Rattle.day_place.specs.Walked.{end_of}
use Rattle.day_place.proofs.Moved.{placed_past}
use Rattle.day_place.proofs.Walk.{rises}
use Rattle.day_pack.specs.Bits.{bit_of, with_bit, bits_below}
use Rattle.day_pack.specs.Kept.{Walkable, number_of, named_by, MarksOf, kept_part, head_end, heads_kept, record_part, records_kept}
use Rattle.day_pack.proofs.Table.{bit_set, bit_none}

-- ---- The marks

pub marks_first : (t : List ℕ) (f : Bytes) (dropped : List ℕ) (first : ℕ) → t ≡ replicate 1638 0 → MarksOf t f dropped first 0
unfolding named_by
marks_first t f dropped first e n p = ap (λ (u : List ℕ). bit_of u n) e ∙ bit_none n p

module _ (t : List ℕ) (f : Bytes) (dropped : List ℕ) (first k : ℕ) (long : length t ≡ 1638) (low : number_of f first k < 13104) (marks : MarksOf t f dropped first k) where
  -- what one more record adds, where it is kept
  added : (c : Bool) → has dropped k ≡ c → (n : ℕ) → named_by f dropped first (k + 1) n ≡ ((not c && eqb (number_of f first k) n) || named_by f dropped first k n)
  unfolding named_by
  added c e n =
      ap (λ (m : ℕ). named_by f dropped first m n) (add-one k) ∙ ap (λ (b : Bool). (not b && eqb (number_of f first k) n) || named_by f dropped first k n) e

  pub marks_turn : (c : Bool) → has dropped k ≡ c → (u : List ℕ) → u ≡ (if c then t else with_bit t (number_of f first k)) → MarksOf u f dropped first (k + 1)
  marks_turn true e u g n p = ap (λ (v : List ℕ). bit_of v n) g ∙ marks n p ∙ ap (λ (b : Bool). if b then 1 else 0) (sym (added true e n))
  marks_turn false e u g n p =
      ap (λ (v : List ℕ). bit_of v n) g
      ∙ bit_set t (number_of f first k) n (omega (arith, long, low))
      ∙ ap (λ (b : ℕ). if eqb (number_of f first k) n then 1 else b) (marks n p)
      ∙ go (eqb (number_of f first k) n) (named_by f dropped first k n)
      ∙ ap (λ (b : Bool). if b then 1 else 0) (sym (added false e n))
    where
      go : (a b : Bool) → ◌≡◌ {A = ℕ} (if a then 1 else if b then 1 else 0) (if (true && a) || b then 1 else 0)
      go true b = refl
      go false b = refl

pub table_long : (t u : List ℕ) (c : Bool) (n : ℕ) → length t ≡ 1638 → u ≡ (if c then t else with_bit t n) → length u ≡ 1638
table_long t u true n long e = ap length e ∙ long
table_long t u false n long e = ap length e ∙ simp length-set long

-- dropped and kept records together are all that were passed
pub both_counted : (dropped : List ℕ) (j k : ℕ) (c : Bool) → has dropped k ≡ c → j + count_below (keeps dropped) k ≡ k → (if c then j + 1 else j) + count_below (keeps dropped) (k + 1) ≡ k + 1
both_counted dropped j k true e p =
    omega (arith, p, ap (count_below (keeps dropped)) (add-one k), count_left (keeps dropped) k (ap not e))
both_counted dropped j k false e p =
    omega (arith, p, ap (count_below (keeps dropped)) (add-one k), count_taken (keeps dropped) k (ap not e))

-- one entry more of the list is passed, where it names the record
pub stepped : (j r : ℕ) (c : Bool) → r ≡ from_bool c → j + r ≡ (if c then j + 1 else j)
stepped j r true e = ap (λ (n : ℕ). j + n) e
stepped j r false e = ap (λ (n : ℕ). j + n) e ∙ add-zero j

-- ---- How far a walk over the records is

module _ (f : Bytes) (first records k : ℕ) (w : Walkable f first records) (inside : k < records) where
  pub record_room : end_of f first k + 7 ≤ length f
  record_room =
      let left = records - k in
      let all : k + left ≡ records = omega arith in
      omega (arith, rises f first k left, ap (end_of f first) all, w.ends)

  pub record_end : end_of f first (k + 1) ≤ length f
  record_end =
      let left = records - (k + 1) in
      let all : k + 1 + left ≡ records = omega arith in
      omega (arith, rises f first (k + 1) left, ap (end_of f first) all, w.ends)

pub first_inside : (f : Bytes) (first records : ℕ) → Walkable f first records → first ≤ length f
unfolding end_of
first_inside f first records w =
    let here : 0 + records ≡ records = omega arith in
    omega (arith, rises f first 0 records, ap (end_of f first) here, w.ends)

-- ---- The headers

pub head_more : (f : Bytes) (i : ℕ) → head_end f (i + 1) ≡ head_end f i + (2 + value (take 2 (drop (head_end f i) f)))
unfolding head_end
head_more f i = ap (head_end f) (add-one i)

pub head_rises : (f : Bytes) (i m : ℕ) → head_end f i + 2 * m ≤ head_end f (i + m)
unfolding head_end
head_rises f i zero = let here : i + 0 ≡ i = omega arith in omega (arith, ap (head_end f) here)
head_rises f i (suc m) = let next : i + suc m ≡ suc (i + m) = omega arith in omega (arith, head_rises f i m, ap (head_end f) next)

pub heads_more : (f : Bytes) (t : List ℕ) (i : ℕ)
    → heads_kept f t (i + 1) ≡ heads_kept f t i ++ kept_part (bit_of t i) (take (2 + value (take 2 (drop (head_end f i) f))) (drop (head_end f i) f))
unfolding heads_kept
heads_more f t i = ap (heads_kept f t) (add-one i)

pub part_short : (set : ℕ) (X : Bytes) → length (kept_part set X) ≤ length X
part_short set X = go (eqb set 1)
  where
    go : (b : Bool) → length (if b then X else []) ≤ length X
    go true = omega arith
    go false = omega arith

-- ---- The records

pub records_more : (f : Bytes) (t dropped : List ℕ) (first i : ℕ)
    → records_kept f t dropped first (i + 1)
    ≡ records_kept f t dropped first i ++ record_part (has dropped i) (bits_below t (number_of f first i)) (take (end_of f first (i + 1) - (end_of f first i + 2)) (drop (end_of f first i + 2) f))
unfolding records_kept
records_more f t dropped first i =
    ap (records_kept f t dropped first) (add-one i)
    ∙ ap
    (λ (m : ℕ). records_kept f t dropped first i ++ record_part (has dropped i) (bits_below t (number_of f first i)) (take (end_of f first m - (end_of f first i + 2)) (drop (end_of f first i + 2) f)))
    (sym (add-one i))

pub record_short : (c : Bool) (n : ℕ) (X : Bytes) → length (record_part c n X) ≤ 2 + length X
record_short true n X = omega arith
record_short false n X = omega (arith, length-append (digits 256 2 n) X, length_digits 256 2 n)

-- a mended number, and the rest of the record right after it
module _ (out one two : Bytes) (to from end n number : ℕ) (left : to ≤ from) (long : from + 7 ≤ end) (room : end ≤ length out) (counted : n ≡ number)
    (put : one ≡ placed to (digits 256 2 n) out) (moved : two ≡ placed (to + 2) (take (end - (from + 2)) (drop (from + 2) one)) one) where
  abbrev body : Bytes
  body = take (end - (from + 2)) (drop (from + 2) out)

  body_long : length body ≡ end - (from + 2)
  body_long = length-take-le (end - (from + 2)) (drop (from + 2) out) (omega (arith, length-drop (from + 2) out))

  pub kept_put : two ≡ placed to (digits 256 2 number ++ body) out
  kept_put =
      let d = digits 256 2 n in
      let d_long : length d ≡ 2 = length_digits 256 2 n in
      let same : drop (from + 2) one ≡ drop (from + 2) out =
      ap (drop (from + 2)) put ∙ placed_past to d out (from + 2) (omega (arith, d_long)) (omega (arith, d_long)) in
      moved
      ∙ (λ i. placed (to + sym d_long i) (take (end - (from + 2)) (same i)) (put i))
      ∙ placed_then to d body out (omega (arith, d_long, body_long))
      ∙ ap (λ (m : ℕ). placed to (digits 256 2 m ++ body) out) counted

  pub kept_long : to + (end - from) ≡ to + length (digits 256 2 number ++ body)
  kept_long = omega (arith, length-append (digits 256 2 number) body, length_digits 256 2 number, body_long)
