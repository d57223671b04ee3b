-- What the key record stands for in Figure 6.
use Rattle.std.specs.Prelude.{◌≡◌}
use Rattle.paper.specs.Section7.{◌·◌}
use Rattle.paper.specs.Figure6 as figure6
use Rattle.columns.specs.Columns.{columns_of}
use Rattle.multiples.specs.Eight.{multiples}
use Rattle.key.specs.declared.Key.{Key}

-- the three blocks of a key record
abbrev pub blocks : Key → figure6.Key
blocks k = record { I = k.i; J = k.j; L = k.l }

-- each block that the record keeps is its multiple of I, J or L: those that request E7 names, and those that Figure 6 reads
pub record Kept (k : Key) : Type 0 where
  pub I2 : k.i2 ≡ columns_of (2 · k.i)
  pub J2 : k.j2 ≡ columns_of (2 · k.j)
  pub Ls : k.ls ≡ multiples k.l
  pub Js : k.js ≡ multiples k.j
  pub Rows : k.rows ≡ multiples (8 · k.j)
