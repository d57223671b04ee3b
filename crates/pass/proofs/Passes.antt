-- A pass over the pairs of M: F i replaces the i-th pair, and what G i gives for it is summed.
use mathlib.Core.List.{◌++◌}
use mathlib.Core.Path.{◌≡◌, refl, ap, ap₂, sym, ◌∙◌}
use Prim.Native.Nat.{ℕ, ◌+◌, ◌-◌, ◌*◌, ◌/◌, ◌≤◌, ◌<◌}
use native.Mathlib.Omega.{arith}
use lib.ListN.{length, take, drop, length-drop}
use lib.Seq.{length-take-le, take-take, take-add, drop_at, drop-drop}
use Rattle.paper.specs.Strings.{Bytes, ◌⊕◌, sum, join}
use Rattle.paper.specs.Section7.{zeros}
use Rattle.paper.specs.Figure5.{pairs}
use Rattle.laws.proofs.Joins.{UpTo, join_ext, sum_ext, sum_plus}
use Rattle.pass.specs.Pairs.{pair_at, pair_sum, paired, part_sum, part_paired}
use Rattle.pass.proofs.Replaced.{Replaced, replaced_none, replaced_after, replaced_more}

-- the pairs before the b-th are done
pub record Passed (F G : ℕ → Bytes → Bytes) (M total s : Bytes) (at b : ℕ) : Type 0 where
  pub from1 : 1 ≤ b
  pub within : at + 32 ≤ length M
  pub replaced : Replaced (λ i. F i (pair_at M i)) M s at (b - 1)
  pub summed : total ≡ sum (b - 1) (λ i. G i (pair_at M i))

-- the entries from d on of the first d + m
drop_take : (d m : ℕ) (l : Bytes) → d ≤ length l → drop d (take (d + m) l) ≡ take m (drop d l)
drop_take d m l h = ap (drop d) (take-add d m l) ∙ drop_at (take d l) (take m (drop d l)) d (length-take-le d l h)

-- the i-th pair of the n pairs after the first a
pair_in : (M : Bytes) (a n : ℕ) → 32 * (a + n) ≤ length M → UpTo n (λ i. pair_at (take (32 * n) (drop (32 * a) M)) i ≡ pair_at M (a + i))
pair_in M a n h i lo hi =
    let l : Bytes = drop (32 * a) M in
    let d : ℕ = 32 * (i - 1) in
    let m : ℕ = 32 * n - d in
    let cut : 32 * n ≡ d + m = omega arith in
    let there : 32 * a + d ≡ 32 * (a + i - 1) = omega arith in
    ap (λ (k : ℕ). take 32 (drop d (take k l))) cut
    ∙ ap (take 32) (drop_take d m l (omega (arith, length-drop (32 * a) M)))
    ∙ take-take 32 m (drop d l) (omega arith)
    ∙ ap (take 32) (drop-drop d (32 * a) M ∙ ap (λ (k : ℕ). drop k M) there)

module _ (F G : ℕ → Bytes → Bytes) (M : Bytes) where
  pub begun : 32 ≤ length M → Passed F G M zeros M 0 1
  unfolding sum
  begun h = record { from1 = omega arith; within = omega arith; replaced = replaced_none (λ i. F i (pair_at M i)) M; summed = refl }

  -- n pairs from the b-th on, which were lent, came back as ys
  pub passed_more : (total s : Bytes) (at b n size : ℕ) (x ys more : Bytes) → Passed F G M total s at b → size ≡ 32 * n → at + size + 32 ≤ length s
      → x ≡ part_sum G b (take size (drop at s)) → ys ≡ part_paired F b (take size (drop at s)) → length ys ≡ size → more ≡ total ⊕ x
      → Passed F G M more (take at s ++ (ys ++ drop size (drop at s))) (at + 32 * n) (b + n)
  passed_more total s at b n size x ys more p e h g f k m =
      let r = p.replaced in
      let a : ℕ = b - 1 in
      let lent : take size (drop at s) ≡ take (32 * n) (drop (32 * a) M) =
      ap₂ take e (replaced_after (λ i. F i (pair_at M i)) M s at a r ∙ ap (λ (k : ℕ). drop k M) r.place) in
      let Q : Bytes = take (32 * n) (drop (32 * a) M) in
      let fits : 32 * (a + n) ≤ length M = omega (arith, r.place, r.same) in
      let count : length Q / 32 ≡ n = omega (arith, length-take-le (32 * n) (drop (32 * a) M) (omega (arith, length-drop (32 * a) M))) in
      let next : a + n ≡ b + n - 1 = omega (arith, p.from1) in
      let new : ys ≡ join n (λ i. F (a + i) (pair_at M (a + i))) =
      f ∙ ap (part_paired F b) lent ∙ ap (λ (k : ℕ). join k (λ i. F (a + i) (pair_at Q i))) count
      ∙ join_ext n (λ i. F (a + i) (pair_at Q i)) (λ i. F (a + i) (pair_at M (a + i))) (λ i lo hi. ap (F (a + i)) (pair_in M a n fits i lo hi)) in
      let added : x ≡ sum n (λ i. G (a + i) (pair_at M (a + i))) =
      g ∙ ap (part_sum G b) lent ∙ ap (λ (k : ℕ). sum k (λ i. G (a + i) (pair_at Q i))) count
      ∙ sum_ext n (λ i. G (a + i) (pair_at Q i)) (λ i. G (a + i) (pair_at M (a + i))) (λ i lo hi. ap (G (a + i)) (pair_in M a n fits i lo hi)) in
      let done = replaced_more (λ i. F i (pair_at M i)) M s at a n size ys r e (omega arith) new k in
      record {
        from1 = omega (arith, p.from1);
        within = omega (arith, r.same);
        replaced = rw (sym next) done;
        summed = m ∙ ap₂ ◌⊕◌ p.summed added ∙ sym (sum_plus a n (λ i. G i (pair_at M i))) ∙ ap (λ (k : ℕ). sum k (λ i. G i (pair_at M i))) next;
      }

  -- less than two pairs of blocks are left
  pub passed_all : (total s : Bytes) (at b : ℕ) → Passed F G M total s at b → length s - at < 64 → (total ≡ pair_sum G M) × (s ≡ paired F M)
  passed_all total s at b p h =
      let r = p.replaced in
      let done : b - 1 ≡ pairs (length M) = omega (arith, r.same, r.place, p.within, p.from1) in
      let end : at ≡ 32 * pairs (length M) = r.place ∙ ap (λ (n : ℕ). 32 * n) done in
      (p.summed ∙ ap (λ (n : ℕ). sum n (λ i. G i (pair_at M i))) done, r.there ∙ ap₂ (λ (n a : ℕ). join n (λ i. F i (pair_at M i)) ++ drop a M) done end)
