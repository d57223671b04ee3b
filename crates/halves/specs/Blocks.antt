-- The halves of a string on blocks: a half of n half-bytes is the block that has them at its front and zeros behind them.
use Rattle.std.specs.Prelude.{List, ◌++◌, ℕ, ◌-◌, ◌*◌, ◌/◌, ◌^◌, leb, length, take, replicate, if◌then◌else◌}
use Rattle.std.specs.Int.Bits.{bit_xor}
use Rattle.paper.specs.Strings.{Bytes}
use Rattle.paper.specs.Figure5 as figure5
use Rattle.columns.specs.Columns.{block_of}
use Rattle.halves.specs.HalfBytes.{half_bytes, whole_bytes}
use Rattle.halves.specs.declared.Halves.{Halves}

-- the block of at most 32 half-bytes
unfoldable pub packed : List ℕ → Bytes
packed X = whole_bytes (X ++ replicate (32 - length X) 0)

-- the bits of n half-bytes
unfoldable pub front : ℕ → Bytes
front n = packed (replicate n 15)

-- the column whose first h half-bytes are ones
abbrev pub front_column : ℕ → ℕ
front_column h = if leb 8 h then 4294967295 else bit_xor 4294967295 (4294967295 / 2 ^ (4 * h))

-- L and R as blocks, of columns and of half-bytes, and their first n half-bytes
abbrev pub blocks_of : Halves → figure5.Halves
blocks_of s = record { L = block_of s.l; R = block_of s.r }

abbrev pub packed_both : figure5.Halves → figure5.Halves
packed_both s = record { L = packed s.L; R = packed s.R }

abbrev pub firsts : ℕ → figure5.Halves → figure5.Halves
firsts n s = record { L = take n (half_bytes s.L); R = take n (half_bytes s.R) }
