-- Lines 216 and 217 of Figure 5 on bytes: the 1 bit of R10*, and the `if`.
use Rattle.std.specs.Prelude.{[], ◌∷◌, ◌++◌, ℕ, ◌*◌, ltb, length, replicate, if◌then◌else◌}
use Rattle.paper.specs.Strings.{Bytes, ◌⊕◌, ◌or◌, ◌and◌, zero_fill, pad10*}
use Rattle.paper.specs.Figure6.{row, BlockFunction}
use Rattle.halves.specs.Blocks.{packed}

-- the 1 bit of R10*, for n half-bytes R: the 1 bit and three zeros are the half-byte 8
unfoldable pub mark : ℕ → Bytes
mark n = packed (replicate n 0 ++ 8 ∷ [])

-- 217, its `if`, on bytes
unfoldable pub last_bytes : BlockFunction → Bytes → Bytes → Bytes
last_bytes E Δ C = if ltb (8 * length C) 128 then C ⊕ (E (row 0) 3 (Δ ⊕ (zero_fill 16 C or pad10* [])) and pad10* []) else C
