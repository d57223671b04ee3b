-- A string whose pairs are replaced from the first on, some at a time.
use mathlib.Core.List.{◌++◌, append_assoc, append-nil}
use mathlib.Core.Path.{◌≡◌, refl, ap, ap₂, sym, ◌∙◌}
use Prim.Native.Nat.{ℕ, ◌+◌, ◌*◌, ◌≤◌}
use native.Mathlib.Omega.{arith}
use lib.ListN.{length, take, drop, length-append, length-drop, drop_of_length-le}
use lib.Seq.{take_at, drop_at, drop-drop}
use Rattle.paper.specs.Strings.{Bytes, join}
use Rattle.laws.proofs.Joins.{join_plus}

-- the first n pairs of M became f 1 to f n, and the rest is as it was
pub record Replaced (f : ℕ → Bytes) (M s : Bytes) (at n : ℕ) : Type 0 where
  pub place : at ≡ 32 * n
  pub long : length (join n f) ≡ at
  pub there : s ≡ join n f ++ drop at M
  pub same : length s ≡ length M

module _ (f : ℕ → Bytes) (M : Bytes) where
  pub replaced_none : Replaced f M M 0 0
  unfolding join
  replaced_none = record { place = refl; long = refl; there = refl; same = refl }

  pub replaced_after : (s : Bytes) (at n : ℕ) → Replaced f M s at n → drop at s ≡ drop at M
  replaced_after s at n p = ap (drop at) p.there ∙ drop_at (join n f) (drop at M) at p.long

  -- the next k pairs, which were lent, came back as ys
  pub replaced_more : (s : Bytes) (at n k size : ℕ) (ys : Bytes) → Replaced f M s at n → size ≡ 32 * k → at + size ≤ length s
      → ys ≡ join k (λ i. f (n + i)) → length ys ≡ size → Replaced f M (take at s ++ (ys ++ drop size (drop at s))) (at + 32 * k) (n + k)
  replaced_more s at n k size ys p e h g l =
      let J : Bytes = join n f in
      let front : take at s ≡ J = ap (take at) p.there ∙ take_at J (drop at M) at p.long in
      let last : drop size (drop at s) ≡ drop (at + 32 * k) M = ap₂ drop e (replaced_after s at n p) ∙ drop-drop (32 * k) at M in
      let joined : J ++ ys ≡ join (n + k) f = ap (λ (l : Bytes). J ++ l) g ∙ sym (join_plus n k f) in
      let all : take at s ++ (ys ++ drop size (drop at s)) ≡ join (n + k) f ++ drop (at + 32 * k) M =
      ap₂ (λ (u v : Bytes). u ++ (ys ++ v)) front last ∙ sym (append_assoc J ys (drop (at + 32 * k) M)) ∙ ap (λ (l : Bytes). l ++ drop (at + 32 * k) M) joined in
      let long : length (join (n + k) f) ≡ at + 32 * k = sym (ap length joined) ∙ length-append J ys ∙ omega (arith, p.long) in
      record {
        place = omega (arith, p.place);
        long = long;
        there = all;
        same = ap length all ∙ length-append (join (n + k) f) (drop (at + 32 * k) M) ∙ omega (arith, length-drop (at + 32 * k) M, p.same);
      }

  -- the pair after the first n
  pub replaced_one : (s : Bytes) (n size : ℕ) (ys : Bytes) → Replaced f M s (32 * n) n → size ≡ 32 → 32 * n + size ≤ length s → ys ≡ f (n + 1) → length ys ≡ size
      → Replaced f M (take (32 * n) s ++ (ys ++ drop size (drop (32 * n) s))) (32 * (n + 1)) (n + 1)
  unfolding join
  replaced_one s n size ys p e h g l =
      let next : 32 * n + 32 * 1 ≡ 32 * (n + 1) = omega arith in
      rw (sym next) (replaced_more s (32 * n) n 1 size ys p e h g l)

  -- no pair is left
  pub replaced_all : (s : Bytes) (at n : ℕ) → Replaced f M s at n → length M ≤ at → s ≡ join n f
  replaced_all s at n p h =
      p.there ∙ ap (λ (l : Bytes). join n f ++ l) (drop_of_length-le M {i = at} h) ∙ append-nil (join n f)
