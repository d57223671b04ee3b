-- Lines 227 to 229 and 234 to 238 of Figure 5 for the part t of u and v, which has less than 32 bytes.
use Rattle.std.specs.Prelude.{[], eqb, leb, length, if◌then◌else◌}
use Rattle.paper.specs.Strings.{Bytes, ◌⊕◌}
use Rattle.paper.specs.Figure6.{minus1, BlockFunction}
use Rattle.laws.proofs.CoreParts.{u_of, v_of}
use Rattle.laws.proofs.CoreBlocks.{uv_added}

-- 227 to 229, and 234 to 238: what u and v add to a sum
unfoldable pub with_uv : BlockFunction → Bytes → Bytes → Bytes
with_uv E s t = uv_added E (length t) s (u_of (length t) t) (v_of (length t) t)

-- 234 to 238: C_u and C_v, by the sum S
unfoldable pub u_masked : BlockFunction → Bytes → Bytes → Bytes
u_masked E S t = if eqb (length t) 0 then [] else u_of (length t) t ⊕ E minus1 4 S

unfoldable pub v_masked : BlockFunction → Bytes → Bytes → Bytes
v_masked E S t = if leb (length t) 15 then [] else v_of (length t) t ⊕ E minus1 5 S
