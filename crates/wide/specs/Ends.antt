-- Lines 230 and 239 of Figure 5: what becomes of the last two blocks.
use Rattle.std.specs.Prelude.{ℕ, take, drop}
use Rattle.paper.specs.Strings.{Bytes, ◌⊕◌}
use Rattle.paper.specs.Figure6.{minus1, row, BlockFunction}

-- 230: S_x and S_y, of M_x M_y, which is T, and the sum X
module _ (E : BlockFunction) (Δ : Bytes) (x : ℕ) (X T : Bytes) where
  unfoldable pub sx_of : Bytes
  sx_of = take 16 T ⊕ Δ ⊕ X ⊕ E (row 0) x (take 16 (drop 16 T))

  unfoldable pub sy_of : Bytes
  sy_of = take 16 (drop 16 T) ⊕ E minus1 x sx_of

-- 239: C_y and C_x, of S_x, S_y and the sum Y
module _ (E : BlockFunction) (Δ : Bytes) (y : ℕ) (Y Sx Sy : Bytes) where
  unfoldable pub cy_of : Bytes
  cy_of = Sx ⊕ E minus1 y Sy

  unfoldable pub cx_of : Bytes
  cx_of = Sy ⊕ Δ ⊕ Y ⊕ E (row 0) y cy_of
