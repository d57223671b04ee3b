-- `halves::put_joined` meets its contract: R and L are put over the front of zeros, one after the other, and their bytes into s.
use mathlib.Core.List.{List, ◌++◌}
use mathlib.Core.Path.{◌≡◌, ap, ap₂, sym, ◌∙◌}
use Prim.Native.Nat.{ℕ, ◌+◌, ◌≤◌}
use native.Mathlib.Omega.{arith}
use borrow.Author.Rules.{rules}
use lib.ListN.{length, take, length-append}
use lib.Seq.{length-take-le, take_at}
use Rattle.columns.specs.Columns.{block_of}
use Rattle.halves.specs.HalfBytes.{half_bytes, whole_bytes}
use Rattle.halves.proofs.put_joined.Statement.{statement}
use Rattle.halves.proofs.put_joined.Tie as tie

-- P has R in front, and Q is P with L after R
one_after_other :
    (n : ℕ) (R L P Q Y Z : List ℕ) → length R ≡ n → length L ≡ n → P ≡ R ++ Y → Q ≡ take n P ++ L ++ Z → take (n + n) Q ≡ R ++ L
one_after_other n R L P Q Y Z r l p q =
    ap (take (n + n)) (q ∙ ap (λ (X : List ℕ). X ++ L ++ Z) (ap (take n) p ∙ take_at R Y n r))
    ∙ take_at (R ++ L) Z (n + n) (length-append R L ∙ ap₂ ◌+◌ r l)

-- from the half-bytes to the blocks, and from there to the start
abbrev to_blocks : tie.After-unpack-l → tie.After-to_block-block_l
to_blocks c = c.before.before

abbrev start : tie.After-to_block-block_l → tie.Start
start c = c.before.before.before.before.before

module _ (c : tie.After-unpack-l) where
  abbrev n : ℕ
  n = length (start (to_blocks c)).args.s.now

  abbrev R : List ℕ
  R = take n c.unpack-r.result

  abbrev L : List ℕ
  L = take n c.unpack-l.result

  few : n ≤ 32
  few = omega (arith, (start (to_blocks c)).requires)

  R_long : length R ≡ n
  R_long = let full : length c.unpack-r.result ≡ 32 = search rules in length-take-le n c.unpack-r.result (omega arith)

  L_long : length L ≡ n
  L_long = let full : length c.unpack-l.result ≡ 32 = search rules in length-take-le n c.unpack-l.result (omega arith)

  -- they are those of the halves
  R_is : R ≡ take n (half_bytes (block_of (start (to_blocks c)).args.t.r))
  R_is = ap (take n) (c.unpack-r.ensures ∙ ap half_bytes (to_blocks c).to_block-block_r.ensures)

  L_is : L ≡ take n (half_bytes (block_of (start (to_blocks c)).args.t.l))
  L_is = ap (take n) (c.unpack-l.ensures ∙ ap half_bytes (to_blocks c).to_block-block_l.ensures)

-- from each call to the place before it
abbrev ready : tie.After-r-1 → tie.After-unpack-l
ready c = c.before.before

abbrev first : tie.After-l-1 → tie.After-copy
first c = c.before.before.before

abbrev second : tie.After-h-5-1 → tie.After-copy-2
second c = c.before.before.before

abbrev ready_2 : tie.After-l-1 → tie.After-unpack-l
ready_2 c = ready (first c).before

abbrev ready_3 : tie.After-copy-2 → tie.After-unpack-l
ready_3 c = ready_2 c.before

-- what is lent to put_bytes
abbrev H : tie.After-copy-2 → List ℕ
H c = take (n (ready_3 c) + n (ready_3 c)) c.copy-2.new.s

both : (c : tie.After-copy-2) → H c ≡ R (ready_3 c) ++ L (ready_3 c)
both c =
    let s = ready_3 c in
    let f = first c.before in
    one_after_other (n s) (R s) (L s) f.copy.new.s c.copy-2.new.s _ _ (R_long s) (L_long s) f.copy.ensures c.copy-2.ensures

both_long : (c : tie.After-copy-2) → length (H c) ≡ n (ready_3 c) + n (ready_3 c)
both_long c =
    let s = ready_3 c in
    ap length (both c) ∙ length-append (R s) (L s) ∙ ap₂ ◌+◌ (R_long s) (L_long s)

slice_bounds-copy-end-2 : tie.Need-slice_bounds-copy-end-2
slice_bounds-copy-end-2 c = sym (R_long (ready c))

copy-requires : tie.Need-copy-requires
copy-requires c κs = omega (arith, R_long (ready c))

slice_bounds-copy-end-4 : tie.Need-slice_bounds-copy-end-4
slice_bounds-copy-end-4 c = sym (L_long (ready_2 c))

copy-requires-2 : tie.Need-copy-requires-2
copy-requires-2 c κs = omega (arith, L_long (ready_2 c), few (ready_2 c), (first c).copy.auto.s)

slice_bounds-put_bytes-end : tie.Need-slice_bounds-put_bytes-end
slice_bounds-put_bytes-end c = sym (both_long (second c))

put_bytes-requires : tie.Need-put_bytes-requires
put_bytes-requires c κs = both_long (second c)

returns : tie.Need-returns
returns c =
    let at_put = c.before.before in
    let at_copy = second at_put.before in
    let s = ready_3 at_copy in
    at_put.put_bytes.ensures ∙ ap whole_bytes (both at_copy ∙ ap₂ ◌++◌ (R_is s) (L_is s))

pub put_joined_spec : {M : Type 1} → statement M
put_joined_spec =
    tie.close
    (tie.spec
    (λ c κs. search rules)
    (λ c κs. search rules)
    (λ c κs. search rules)
    (λ c κs. search rules)
    (λ c. search rules)
    (λ c. search rules)
    slice_bounds-copy-end-2
    copy-requires
    (λ c. search rules)
    (λ c. search rules)
    slice_bounds-copy-end-4
    copy-requires-2
    (λ c. search rules)
    (λ c. search rules)
    slice_bounds-put_bytes-end
    put_bytes-requires
    (λ c. search rules)
    returns)
