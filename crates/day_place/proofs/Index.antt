-- The places put one after the other behind the records that they are of.
use mathlib.Core.List.{[], ◌++◌}
use mathlib.Core.Path.{◌≡◌, refl, ap, sym, ◌∙◌}
use Prim.Native.Nat.{ℕ, ◌+◌, ◌*◌, ◌-◌, ◌≤◌, ◌<◌}
use native.Mathlib.Omega.{arith}
use lib.ListN.{length, take}
use Rattle.paper.specs.Strings.{Bytes, digits}
use Rattle.paper.specs.DayFile.{write_places}
use Rattle.laws.proofs.BitStrings.{length_digits}
use Rattle.laws.proofs.DayWritten.{places_long}
use Rattle.laws.specs.Placing.{placed}
use Rattle.laws.proofs.Placed.{placed_then}
use Rattle.day_steps.specs.Walks.{entry_at}
use Rattle.day_place.specs.Walked.{end_of, places_of}
use Rattle.day_place.proofs.Moved.{placed_none, placed_before, placed_front}
use Rattle.day_place.proofs.Walk.{rises, end_more, places_more, places_count, write_more}

written_long : (f : Bytes) (first n : ℕ) → length (write_places (places_of f first n)) ≡ 4 * n
written_long f first n = places_long (places_of f first n) ∙ ap (λ (m : ℕ). 4 * m) (places_count f first n)

pub no_places : (f out : Bytes) (first at : ℕ) → out ≡ placed at (write_places (places_of f first 0)) out
unfolding write_places places_of
no_places f out first at = placed_none at [] out refl

-- a record that is still to come stands before the place after all of them
pub before_the_end : (f : Bytes) (first records at i : ℕ) → end_of f first records ≡ at → i < records → end_of f first i + 7 ≤ at
before_the_end f first records at i ends p =
    let left = records - i in
    let all : i + left ≡ records = omega arith in
    omega (arith, rises f first i left, ap (end_of f first) all, ends)

module _ (out₀ : Bytes) (first at i : ℕ) (room : at + 4 + 4 * (i + 1) ≤ length out₀) where
  abbrev f : Bytes
  f = take at out₀

  pub one_place_more : (out next : Bytes) (place : ℕ) → place ≡ end_of f first i → out ≡ placed (at + 4) (write_places (places_of f first i)) out₀
      → next ≡ placed (at + 4 + 4 * i) (digits 256 4 place) out → next ≡ placed (at + 4) (write_places (places_of f first (i + 1))) out₀
  one_place_more out next place e so put =
      let w = write_places (places_of f first i) in
      let here : at + 4 + 4 * i ≡ at + 4 + length w = omega (arith, written_long f first i) in
      let more : w ++ digits 256 4 place ≡ write_places (places_of f first (i + 1)) =
      ap (λ (n : ℕ). w ++ digits 256 4 n) e ∙ sym (ap write_places (places_more f first i) ∙ write_more (places_of f first i) (end_of f first i)) in
      put
      ∙ (λ j. placed (here j) (digits 256 4 place) (so j))
      ∙ placed_then (at + 4) w (digits 256 4 place) out₀ (omega (arith, written_long f first i, length_digits 256 4 place))
      ∙ ap (λ (v : Bytes). placed (at + 4) v out₀) more

  -- and the walk goes on over the records, which stand as they stood
  pub one_step_more : (next : Bytes) (place : ℕ) → place ≡ end_of f first i → next ≡ placed (at + 4) (write_places (places_of f first (i + 1))) out₀
      → (entry_at (take at next) place).end ≡ end_of f first (i + 1)
  one_step_more next place e so =
      let same : take at next ≡ f = ap (take at) so ∙ placed_before (at + 4) (write_places (places_of f first (i + 1))) out₀ at (omega arith) (omega arith) in
      (λ j. (entry_at (same j) (e j)).end) ∙ sym (end_more f first i)

-- the count right before the places
pub counted_in_front : (out₀ : Bytes) (first records at : ℕ) → at + 4 + 4 * records ≤ length out₀
    → placed at (digits 256 4 records) (placed (at + 4) (write_places (places_of (take at out₀) first records)) out₀)
    ≡ placed at (digits 256 4 records ++ write_places (places_of (take at out₀) first records)) out₀
counted_in_front out₀ first records at room =
    let count = digits 256 4 records in
    let places = write_places (places_of (take at out₀) first records) in
    let four : length count ≡ 4 = length_digits 256 4 records in
    ap (λ (n : ℕ). placed at count (placed (at + n) places out₀)) (sym four)
    ∙ placed_front at count places out₀ (omega (arith, four, written_long (take at out₀) first records))
