-- The parts of a base are blocks, whatever its words are; and a base that is made of blocks has these.
use mathlib.Core.List.{List}
use mathlib.Core.Path.{◌≡◌, ap, sym, ◌∙◌}
use Prim.Native.Nat.{ℕ}
use lib.ListN.{length, get_or}
use mir.Syntax.{w32}
use mir.Val.{Fits}
use Rattle.paper.specs.Figure6 as figure6
use Rattle.laws.proofs.Digits.{below_of}
use Rattle.laws.proofs.KeyBlocks.{KeyBytes}
use Rattle.columns.specs.Columns.{columns_of, block_of}
use Rattle.columns.proofs.Conversions.{columns_block, block_columns}
use Rattle.sub_bytes.specs.Planes.{crossed, crossed_bytes}
use Rattle.sub_bytes.proofs.States.{crossed_bytes_lem, uncrossed_block}
use Rattle.aes.proofs.Blocks.{crossed_block}
use Rattle.tbc.specs.declared.Base.{Base}
use Rattle.tbc.specs.Meaning.{base, base_of}

pub base_bytes : (k : Base) → KeyBytes (base k)
base_bytes k = record { I = crossed_block k.i; J = crossed_block k.j; L = crossed_block k.l }

pub base_base_of : (K : figure6.Key) → KeyBytes K → base (base_of K) ≡ K
base_base_of K bytes =
    let I = crossed_bytes_lem (columns_of K.I) ∙ columns_block bytes.I in
    let J = crossed_bytes_lem (columns_of K.J) ∙ columns_block bytes.J in
    let L = crossed_bytes_lem (columns_of K.L) ∙ columns_block bytes.L in
    λ i. record { I = I i; J = J i; L = L i }

-- words that were crossed back are the columns of their block
pub uncrossed_columns : (w r : List ℕ) → length r ≡ 4 → ((j : ℕ) → Fits w32 (get_or r j 0)) → r ≡ crossed w → r ≡ columns_of (crossed_bytes w)
uncrossed_columns w r long words e =
    sym (block_columns (record { len = long; low = below_of 4294967296 r (λ j h. (words j).fits) }))
    ∙ ap columns_of (ap block_of e ∙ uncrossed_block w)
