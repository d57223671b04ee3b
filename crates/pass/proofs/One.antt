-- A part of one pair.
use mathlib.Core.Path.{◌≡◌, ap, ap₂, sym, ◌∙◌}
use Prim.Native.Nat.{ℕ, ◌+◌, ◌-◌, ◌/◌, ◌≤◌}
use native.Mathlib.Omega.{arith}
use lib.ListN.{length}
use lib.Seq.{take_all}
use Rattle.paper.specs.Strings.{Bytes, ◌⊕◌, sum, join}
use Rattle.paper.specs.Section7.{zeros}
use Rattle.laws.proofs.Strings.{⊕_comm, ⊕_zeros}
use Rattle.pass.specs.Pairs.{pair_at, part_sum, part_paired}

module _ (f : ℕ → Bytes → Bytes) (b : ℕ) (P : Bytes) (long : length P ≡ 32) (from1 : 1 ≤ b) (x : Bytes) (is : x ≡ f b P) where
  only : x ≡ f (b - 1 + 1) (pair_at P 1)
  only =
      let number : b ≡ b - 1 + 1 = omega arith in
      is ∙ ap₂ f number (sym (take_all 32 P (omega arith)))

  count : 1 ≡ length P / 32
  count = omega arith

  pub one_summed : length x ≤ 16 → x ≡ part_sum f b P
  unfolding sum
  one_summed h =
      sym (⊕_zeros 16 x h) ∙ ⊕_comm x zeros ∙ ap (λ (l : Bytes). zeros ⊕ l) only ∙ ap (λ (n : ℕ). sum n (λ i. f (b - 1 + i) (pair_at P i))) count

  pub one_joined : x ≡ part_paired f b P
  unfolding join
  one_joined = only ∙ ap (λ (n : ℕ). join n (λ i. f (b - 1 + i) (pair_at P i))) count
