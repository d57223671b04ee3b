-- `halves::halves_of` meets its contract: the string is put over the front of zeros, and its halves are parts of that.
use mathlib.Core.List.{List, ◌++◌}
use mathlib.Core.Path.{◌≡◌, refl, ap, ap₂, ◌∙◌}
use Prim.Native.Nat.{ℕ, ◌-◌}
use native.Mathlib.Nat.{zero-add}
use native.Mathlib.Omega.{arith}
use borrow.Author.Rules.{rules}
use lib.ListN.{length, drop, replicate}
use Rattle.paper.specs.Strings.{Bytes, Digits, ◌and◌}
use Rattle.laws.proofs.Digits.{below_of}
use Rattle.columns.specs.Columns.{columns_of}
use Rattle.columns.proofs.Conversions.{made, block_of_block}
use Rattle.halves.proofs.ColumnBits.{and_block}
use Rattle.halves.proofs.PackedHalves.{over_zeros, front_block, part_block, left_half, right_half}
use Rattle.halves.proofs.halves_of.Statement.{statement}
use Rattle.halves.proofs.halves_of.Tie as tie

-- from the second part to the copy, and from there to what is known of s
abbrev copied : tie.After-part-second → tie.After-copy
copied c = c.before.before.before.before.before

abbrev known : tie.After-copy → tie.After-shared_slice_known-1
known c = c.before.before

module _ (c : tie.After-copy) where
  abbrev s : Bytes
  s = (known c).args.s.now

  abbrev n : ℕ
  n = length s

  s_bytes : Digits 8 n s
  s_bytes = record { len = refl; low = below_of 256 s (λ i h. omega (arith, (known c).shared_slice_known-1.given i)) }

  over : c.copy.new.s ≡ s ++ replicate (32 - n) 0
  over =
      let zeros : List ℕ = replicate 32 0 in
      over_zeros n (omega arith) s _ (c.copy.ensures ∙ ap (λ (k : ℕ). s ++ drop k zeros) (zero-add n))

returns : tie.Need-returns
returns c =
    let at-and = c.before in
    let at_a = at-and.before in
    let second = at_a.before in
    let first = second.before.before in
    let k = copied second in
    let a = (known k).args in
    let few = (known k).requires.0 in
    let left = part_block (n k) few (s_bytes k) (over k) 0 (omega arith) in
    let right = part_block (n k) few (s_bytes k) (over k) (n k) (omega arith) in
    let bits = made (front_block (n k) (omega arith)) (known k).requires.1 in
    ap₂ (λ (X Y : Bytes). record { L = X; R = Y })
    (made (and_block (block_of_block at_a.of_block-a.result) (block_of_block a.bits)) at-and.and-l.ensures
    ∙ ap₂ ◌and◌ (made left (at_a.of_block-a.ensures ∙ ap columns_of first.part-first.ensures)) bits
    ∙ left_half (n k) few (s_bytes k) (over k))
    (made right (c.of_block-r.ensures ∙ ap columns_of second.part-second.ensures) ∙ right_half (n k) few (s_bytes k) (over k))

pub halves_of_spec : {M : Type 1} → statement M
halves_of_spec =
    tie.close
    (tie.spec
    (λ c. search rules)
    (λ c κs. search rules)
    (λ c. search rules)
    (λ c κs. search rules)
    (λ c. search rules)
    (λ c κs. search rules)
    (λ c κs. search rules)
    (λ c κs. search rules)
    (λ c κs. search rules)
    returns)
