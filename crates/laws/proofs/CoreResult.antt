-- Line 240: what AEZ-core returns has as many bytes as the string, and its parts are the C of lines 233 to 239.
use mathlib.Core.Bool.{Bool, true, false}
use mathlib.Core.List.{[], ◌++◌, append_assoc, append-nil}
use mathlib.Core.Path.{◌≡◌, refl, ap, sym, ◌∙◌}
use Prim.Native.Nat.{ℕ, ◌+◌, ◌*◌, ◌≤◌}
use native.Mathlib.Omega.{arith}
use lib.Dec.{leb}
use lib.ListN.{length, take, drop}
use lib.Seq.{take_at, drop_at, drop-drop}
use Rattle.std.specs.Prelude.{if◌then◌else◌}
use Rattle.paper.specs.Strings.{Bytes, Digits, Block, join}
use Rattle.paper.specs.Figure6.{BlockFunction}
use Rattle.paper.specs.Figure5.{pairs, rest, Mᵢ, M'ᵢ, Muv, Mx, My, Mu, Mv, C'ᵢ, Cᵢ, Cu, Cv, Cy, Cx, core}
use Rattle.laws.proofs.BlockFunction.{GivesBlocks}
use Rattle.laws.proofs.Digits.{append_digits, as_digits}
use Rattle.laws.proofs.Joins.{UpTo, join_digits}
use Rattle.laws.proofs.CoreParts.{u_of, v_of, cut, pairs_of}
use Rattle.laws.proofs.CoreBlocks.{Cᵢ_block, C'ᵢ_block, Cu_bytes, Cv_at, Cx_block, Cy_block, pair_bytes, uv_bytes}

module _
    (E : BlockFunction) (E_block : GivesBlocks E)
    (Δ : Bytes) (Δ-block : Block Δ) (x y : ℕ) (M : Bytes) (long : 32 ≤ length M) (p : Digits 8 (length M) M) where
  abbrev m : ℕ
  m = pairs (length M)

  abbrev d : ℕ
  d = rest (length M)

  abbrev C : Bytes
  C = core E Δ x y M

  abbrev pair : ℕ → Bytes
  pair i = Cᵢ E Δ x y M i ++ C'ᵢ E Δ x y M i

  abbrev uv : Bytes
  uv = Cu E Δ x y M ++ Cv E Δ x y M

  abbrev xy : Bytes
  xy = Cx E Δ x y M ++ Cy E Δ x y M

  pub pairs_long : Digits 8 (32 * m) (join m pair)
  pairs_long = join_digits m pair (pair_bytes E E_block Δ Δ-block x y M long p)

  uv_long : Digits 8 d uv
  uv_long = uv_bytes E E_block Δ Δ-block x y M long p

  x_long : Block (Cx E Δ x y M)
  x_long = Cx_block E E_block Δ Δ-block x y M long p

  y_long : Block (Cy E Δ x y M)
  y_long = Cy_block E E_block Δ Δ-block x y M long p

  pub split : C ≡ join m pair ++ (uv ++ xy)
  unfolding core
  split = simp append_assoc

  pub core_bytes : Digits 8 (length M) C
  core_bytes = rw split (as_digits (omega (arith, cut (length M) long)) (append_digits pairs_long (append_digits uv_long (append_digits x_long y_long))))

  pub same_length : length C ≡ length M
  same_length = core_bytes.len

  pairs_are : UpTo m (λ i. (Mᵢ C i ≡ Cᵢ E Δ x y M i) × (M'ᵢ C i ≡ C'ᵢ E Δ x y M i))
  pairs_are =
      pairs_of m (Cᵢ E Δ x y M) (C'ᵢ E Δ x y M) C (uv ++ xy) (Cᵢ_block E E_block Δ Δ-block x y M long p) (C'ᵢ_block E E_block Δ Δ-block x y M long p) split

  pub core_Mᵢ : UpTo m (λ i. Mᵢ C i ≡ Cᵢ E Δ x y M i)
  core_Mᵢ i a b = (pairs_are i a b).0

  pub core_M'ᵢ : UpTo m (λ i. M'ᵢ C i ≡ C'ᵢ E Δ x y M i)
  core_M'ᵢ i a b = (pairs_are i a b).1

  -- what follows the pairs, and what follows u and v
  tail : drop (32 * m) C ≡ uv ++ xy
  tail = ap (drop (32 * m)) split ∙ drop_at (join m pair) (uv ++ xy) (32 * m) pairs_long.len

  ends : drop (32 * m + d) C ≡ xy
  ends = sym (drop-drop d (32 * m) C) ∙ ap (drop d) tail ∙ drop_at uv xy d uv_long.len

  core_Muv : Muv C ≡ uv
  core_Muv = ap (λ (n : ℕ). take (rest n) (drop (32 * pairs n) C)) same_length ∙ ap (take d) tail ∙ take_at uv xy d uv_long.len

  pub core_Mx : Mx C ≡ Cx E Δ x y M
  core_Mx =
      ap (λ (n : ℕ). take 16 (drop (32 * pairs n + rest n) C)) same_length
      ∙ ap (take 16) ends
      ∙ take_at (Cx E Δ x y M) (Cy E Δ x y M) 16 x_long.len

  pub core_My : My C ≡ Cy E Δ x y M
  core_My =
      ap (λ (n : ℕ). drop (32 * pairs n + rest n + 16) C) same_length
      ∙ sym (drop-drop 16 (32 * m + d) C)
      ∙ ap (drop 16) ends
      ∙ drop_at (Cx E Δ x y M) (Cy E Δ x y M) 16 x_long.len

  -- u and v of C_u C_v are C_u and C_v
  pub u_is : u_of d uv ≡ Cu E Δ x y M
  u_is = go (leb d 15) refl
    where
      go : (b : Bool) → leb d 15 ≡ b → (if b then uv else take 16 uv) ≡ Cu E Δ x y M
      go true e = ap (λ (l : Bytes). Cu E Δ x y M ++ l) (Cv_at E E_block Δ Δ-block x y M long p true e) ∙ append-nil (Cu E Δ x y M)
      go false e = take_at (Cu E Δ x y M) (Cv E Δ x y M) 16 (Cu_bytes E E_block Δ Δ-block x y M long p false e).len

  pub v_is : v_of d uv ≡ Cv E Δ x y M
  v_is = go (leb d 15) refl
    where
      go : (b : Bool) → leb d 15 ≡ b → (if b then [] else drop 16 uv) ≡ Cv E Δ x y M
      go true e = sym (Cv_at E E_block Δ Δ-block x y M long p true e)
      go false e = drop_at (Cu E Δ x y M) (Cv E Δ x y M) 16 (Cu_bytes E E_block Δ Δ-block x y M long p false e).len

  pub core_Mu : Mu C ≡ Cu E Δ x y M
  core_Mu = (λ i. u_of (rest (same_length i)) (core_Muv i)) ∙ u_is

  pub core_Mv : Mv C ≡ Cv E Δ x y M
  core_Mv = (λ i. v_of (rest (same_length i)) (core_Muv i)) ∙ v_is
