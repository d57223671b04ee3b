-- What a function is told of a parameter that is a key: its parts are blocks. And what it takes out of a key fits together.
use mathlib.Core.List.{List}
use mathlib.Core.Path.{◌≡◌, ap, sym, ◌∙◌}
use Prim.Native.Nat.{ℕ, ◌*◌, ◌%◌}
use native.Mathlib.Omega.{arith}
use mir.Val.{Val}
use denote.Laws.{Is}
use denote.Struct.Declared.{row}
use Rattle.paper.specs.Section7.{◌·◌}
use Rattle.paper.specs.Figure6 as figure6
use Rattle.laws.proofs.KeyBlocks.{KeyBytes}
use Rattle.block.proofs.Arrays.{array_bytes}
use Rattle.columns.specs.Columns.{columns_of}
use Rattle.multiples.specs.Eight.{multiples, four_at}
use Rattle.multiples.proofs.Kept.{kept}
use Rattle.tbc.specs.declared.Base.{Base}
use Rattle.tbc.specs.Meaning.{base, base_of, OfJ}
use Rattle.tbc.proofs.Keys.{base_base_of}
use Rattle.key.specs.declared.Key.{Key}
use Rattle.key.specs.Meaning.{blocks, Kept}
use Rattle.key.specs.contracts.Key as key

pub key_bytes : (k : Key) (vs : List Val) → Is (row key.the_type) k vs → KeyBytes (blocks k)
key_bytes k vs p =
    let g = p.1.1 in
    record {
      I = array_bytes 16 _ _ g.0;
      J = array_bytes 16 _ _ g.1.0;
      L = array_bytes 16 _ _ g.1.1.0;
    }

-- a base that was taken out of k has its blocks
pub has_blocks : (k : Key) (vs : List Val) → Is (row key.the_type) k vs → (b : Base) → b ≡ base_of (blocks k) → base b ≡ blocks k
has_blocks k vs p b e = ap base e ∙ base_base_of (blocks k) (key_bytes k vs p)

-- the multiples of J that were taken out of k are those of its base b
pub of_j : (k : Key) (b : Base) (m : List ℕ) → base b ≡ blocks k → m ≡ multiples k.j → OfJ b m
of_j k b m e h = h ∙ ap (λ (K : figure6.Key). multiples K.J) (sym e)

-- every key is kept
pub all_kept : (k : Key) → Kept k
all_kept k = record { I2 = k.twice_i; J2 = k.twice_j; Ls = k.of_l; Js = k.of_j; Rows = k.of_8j }

-- a kept multiple of 8·J
pub row_low : (k : Key) (n : ℕ) → four_at k.rows (4 * (n % 8)) ≡ columns_of ((n % 8) · (8 · k.j))
row_low k n = kept (8 · k.j) k.rows k.of_8j (n % 8) (omega arith)

pub row_read : (k : Key) (n : ℕ) → n % 8 ≡ n → four_at k.rows (4 * (n % 8)) ≡ columns_of (n · (8 · k.j))
row_read k n e = row_low k n ∙ ap (λ (m : ℕ). columns_of (m · (8 · k.j))) e
