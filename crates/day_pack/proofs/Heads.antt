-- A turn of the walk that packs the headers.
use mathlib.Core.List.{List, ◌++◌, append_assoc, append-nil}
use mathlib.Core.Path.{◌≡◌, refl, ap, sym, ◌∙◌}
use Prim.Native.Nat.{ℕ, ◌+◌, ◌-◌, ◌≤◌, ◌<◌}
use native.Mathlib.Omega.{arith}
use lib.ListN.{length, take, drop, length-append, length-drop}
use lib.Seq.{length-take-le}
use Rattle.paper.specs.Strings.{Bytes}
use Rattle.paper.specs.DayFile.{value}
use Rattle.laws.specs.Placing.{placed}
use Rattle.day_pack.specs.Bits.{bit_of}
use Rattle.day_pack.specs.Kept.{kept_part, head_end, heads_kept, Packed}
use Rattle.day_pack.proofs.Packs.{packed_start, packed_more, packed_as}
use Rattle.day_pack.proofs.Turns.{head_more, head_rises, heads_more, part_short}

-- the kept ones of the first i headers stand one after the other behind the count, and those to come are as they were
pub record HeadsPacked (out₀ : Bytes) (table : List ℕ) (i from to : ℕ) (out : Bytes) : Type 0 where
  pub here : from ≡ head_end out₀ i
  pub after : to ≡ 4 + length (heads_kept out₀ table i)
  pub packed : Packed out₀ (take 4 out₀ ++ heads_kept out₀ table i) from out

count_room : (out : Bytes) (headers : ℕ) → head_end out headers ≤ length out → 4 ≤ length out
unfolding head_end
count_room out headers p = let here : 0 + headers ≡ headers = omega arith in omega (arith, head_rises out 0 headers, ap (head_end out) here)

pub heads_first : (out : Bytes) (table : List ℕ) (headers : ℕ) → head_end out headers ≤ length out → HeadsPacked out table 0 4 4 out
unfolding head_end heads_kept
heads_first out table headers p =
    record { here = refl; after = refl; packed = packed_as (sym (append-nil (take 4 out))) refl (packed_start out 4 4 (omega arith) (count_room out headers p)) }

module _ {out₀ : Bytes} {table : List ℕ} {i from to : ℕ} {out : Bytes} (p : HeadsPacked out₀ table i from to out) (headers : ℕ) (inside : i < headers)
    (room : head_end out₀ headers ≤ length out₀) where
  -- the header and its length
  abbrev size : ℕ
  size = 2 + value (take 2 (drop (head_end out₀ i) out₀))

  abbrev own : Bytes
  own = take size (drop (head_end out₀ i) out₀)

  next_inside : head_end out₀ (i + 1) ≤ length out₀
  next_inside =
      let left = headers - (i + 1) in
      let all : i + 1 + left ≡ headers = omega arith in
      omega (arith, head_rises out₀ (i + 1) left, ap (head_end out₀) all, room)

  size_inside : head_end out₀ i + size ≤ length out₀
  size_inside = omega (arith, next_inside, head_more out₀ i)

  read_same : drop from out ≡ drop (head_end out₀ i) out₀
  read_same = p.packed.rest ∙ ap (λ (n : ℕ). drop n out₀) p.here

  written_long : length (take 4 out₀ ++ heads_kept out₀ table i) ≡ to
  written_long = omega (arith, length-append (take 4 out₀) (heads_kept out₀ table i), length-take-le 4 out₀ (count_room out₀ headers room), p.after)

  pub head_there : from + 2 ≤ length out
  head_there = omega (arith, size_inside, p.here, p.packed.long)

  module _ (n : ℕ) (read : n ≡ value (take 2 (drop from out))) where
    size_is : 2 + n ≡ size
    size_is = ap (λ (k : ℕ). 2 + k) (read ∙ ap (λ (X : Bytes). value (take 2 X)) read_same)

    pub head_moves : (to ≤ from) × (from + (2 + n) ≤ length out)
    head_moves = (omega (arith, p.packed.behind, written_long), omega (arith, size_inside, size_is, p.here, p.packed.long))

    pub heads_next : (set to' : ℕ) (out' : Bytes) → set ≡ bit_of table i → to' ≡ to + length (kept_part set (take (2 + n) (drop from out)))
        → out' ≡ placed to (kept_part set (take (2 + n) (drop from out))) out → HeadsPacked out₀ table (i + 1) (from + (2 + n)) to' out'
    heads_next set to' out' bit e q =
        let part : kept_part set (take (2 + n) (drop from out)) ≡ kept_part (bit_of table i) own = λ j. kept_part (bit j) (take (size_is j) (read_same j)) in
        let kept = kept_part (bit_of table i) own in
        let next : from + (2 + n) ≡ head_end out₀ (i + 1) = omega (arith, p.here, size_is, head_more out₀ i) in
        let more = heads_more out₀ table i in
        let short : length kept ≤ size =
        omega (arith, part_short (bit_of table i) own, length-take-le size (drop (head_end out₀ i) out₀) (omega (arith, size_inside, length-drop (head_end out₀ i) out₀))) in
        record {
          here = next;
          after = e ∙ omega (arith, ap length part, p.after, ap length more, length-append (heads_kept out₀ table i) kept);
          packed =
              packed_as (append_assoc (take 4 out₀) (heads_kept out₀ table i) kept ∙ ap (λ (X : Bytes). take 4 out₀ ++ X) (sym more)) refl
              (packed_more p.packed to (sym written_long) kept (from + (2 + n)) (omega arith)
              (omega (arith, short, p.packed.behind, written_long, size_is)) (omega (arith, next, next_inside)) out'
              (q ∙ ap (λ (X : Bytes). placed to X out) part));
        }

pub heads_all : {out₀ : Bytes} {table : List ℕ} {i from to : ℕ} {out : Bytes} → HeadsPacked out₀ table i from to out → (headers : ℕ) → i ≡ headers
    → (to ≡ 4 + length (heads_kept out₀ table headers)) × Packed out₀ (take 4 out₀ ++ heads_kept out₀ table headers) (head_end out₀ headers) out
heads_all {out₀} {table} p headers all = (
  p.after ∙ ap (λ (n : ℕ). 4 + length (heads_kept out₀ table n)) all,
  packed_as (ap (λ (n : ℕ). take 4 out₀ ++ heads_kept out₀ table n) all) (p.here ∙ ap (head_end out₀) all) p.packed,
)
