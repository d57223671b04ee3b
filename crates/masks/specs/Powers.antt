-- The powers of L, from one number to the next.
use Rattle.std.specs.Prelude.{List, ℕ, ◌%◌, eqb, if◌then◌else◌}
use Rattle.paper.specs.Section7.{double}
use Rattle.columns.specs.Columns.{columns_of, block_of}

-- the power that follows the power for b
abbrev pub next_power : ℕ → List ℕ → List ℕ
next_power b power = if eqb (b % 8) 0 then columns_of (double (block_of power)) else power
