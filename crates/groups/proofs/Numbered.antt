-- The masks of a group are those of lines 406 and 408 for its numbers.
use mathlib.Core.List.{List}
use mathlib.Core.Path.{◌≡◌, ap, ap₂, ◌∙◌}
use Prim.Native.Nat.{ℕ, ◌+◌, ◌-◌, ◌/◌, ◌%◌, ◌≤◌}
use native.Mathlib.Omega.{arith}
use Rattle.paper.specs.Strings.{◌⊕◌}
use Rattle.paper.specs.Section7.{two_to, ◌·◌}
use Rattle.laws.proofs.KeyBlocks.{times_block, two_to_block}
use Rattle.columns.specs.Columns.{columns_of}
use Rattle.columns.proofs.Conversions.{made}
use Rattle.multiples.proofs.Kept.{kept}
use Rattle.tbc.specs.declared.Base.{Base}
use Rattle.tbc.specs.Meaning.{base, OfJ}
use Rattle.tbc.proofs.Keys.{base_bytes}
use Rattle.groups.specs.Groups.{mask_from}
use Rattle.groups.proofs.Powers.{two_to_more}

pub mask_is : (k : Base) (m : List ℕ) → OfJ k m → (b i : ℕ) (power : List ℕ) → 1 ≤ b → power ≡ columns_of (two_to ((b - 1) / 8) (base k).L)
    → mask_from m b power i ≡ ((b + i) % 8) · (base k).J ⊕ two_to ((b + i - 1) / 8) (base k).L
mask_is k m of b i power h e =
    let n : ℕ = (b + i) % 8 in
    let J = (base k).J in
    let L = (base k).L in
    let up : (b + i - 1) / 8 - (b - 1) / 8 + (b - 1) / 8 ≡ (b + i - 1) / 8 = omega arith in
    ap₂ ◌⊕◌
    (made (times_block n (base_bytes k).J) (kept J m of n (omega arith)))
    (ap (two_to ((b + i - 1) / 8 - (b - 1) / 8)) (made (two_to_block ((b - 1) / 8) (base_bytes k).L) e)
    ∙ two_to_more ((b + i - 1) / 8 - (b - 1) / 8) ((b - 1) / 8) L
    ∙ ap (λ (d : ℕ). two_to d L) up)
