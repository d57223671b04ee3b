-- What u and v add to a sum, and what masks make of them, by their length: none, at most 15 bytes, or more.
use mathlib.Core.List.{[], ◌++◌, append-nil}
use mathlib.Core.Path.{◌≡◌, ap, ap₂, sym, ◌∙◌}
use Prim.Native.Nat.{ℕ, ◌-◌, ◌≤◌, ◌<◌}
use native.Mathlib.Omega.{arith}
use borrow.Author.Tests.{eq-eqb, ne_eqb, le-leb, lt-leb}
use lib.ListN.{length, take, drop, length-drop, drop_of_length-le}
use lib.Seq.{take_all, take_at, drop_at}
use Rattle.paper.specs.Strings.{Bytes, ◌⊕◌, pad10*}
use Rattle.paper.specs.Figure6.{minus1, row, BlockFunction}
use Rattle.laws.proofs.Tables.{no_entries}
use Rattle.wide.specs.Uv.{with_uv, u_masked, v_masked}

-- 227 to 229
module _ (E : BlockFunction) (s t : Bytes) where
  pub with_none : length t ≡ 0 → s ≡ with_uv E s t
  unfolding with_uv
  with_none h = rw (eq-eqb (length t) 0 h)

  pub with_short : (length t ≡ 0 → ⊥) → length t ≤ 15 → (short r : Bytes) → short ≡ pad10* t → r ≡ s ⊕ E (row 0) 4 short → r ≡ with_uv E s t
  unfolding with_uv
  with_short h g short r p q = rw (ne_eqb (length t) 0 h, le-leb (length t) 15 g) (q ∙ ap (λ (l : Bytes). s ⊕ E (row 0) 4 l) p)

  pub with_both : 15 < length t → (u more v r : Bytes) → u ≡ take 16 t → more ≡ s ⊕ E (row 0) 4 u
      → v ≡ pad10* (take (length t - 16) (drop 16 t)) → r ≡ more ⊕ E (row 0) 5 v → r ≡ with_uv E s t
  unfolding with_uv
  with_both g u more v r p q f h =
      let all : take (length t - 16) (drop 16 t) ≡ drop 16 t = take_all (length t - 16) (drop 16 t) (simp length-drop (omega arith)) in
      rw (ne_eqb (length t) 0 (λ h. omega arith), lt-leb (length t) 15 g)
      (h ∙ ap₂ (λ (k l : Bytes). k ⊕ E (row 0) 5 l) (q ∙ ap (λ (l : Bytes). s ⊕ E (row 0) 4 l) p) (f ∙ ap pad10* all))

-- 234 to 238, where e and f are the masks of u and v
module _ (E : BlockFunction) (S t : Bytes) where
  pub masked_none : length t ≡ 0 → t ≡ u_masked E S t ++ v_masked E S t
  unfolding u_masked v_masked
  masked_none h = rw (eq-eqb (length t) 0 h, le-leb (length t) 15 (omega arith)) (no_entries t h)

  pub masked_short : (length t ≡ 0 → ⊥) → length t ≤ 15 → (e r : Bytes) → e ≡ E minus1 4 S → r ≡ t ⊕ e → r ≡ u_masked E S t ++ v_masked E S t
  unfolding u_masked v_masked
  masked_short h g e r p q =
      rw (ne_eqb (length t) 0 h, le-leb (length t) 15 g) (q ∙ ap (λ (l : Bytes). t ⊕ l) p ∙ sym (append-nil (t ⊕ E minus1 4 S)))

  -- the first 16 bytes come back as ys, and then the other n as zs
  pub masked_both : 15 < length t → (n : ℕ) (e f ys zs : Bytes) → n ≡ length t - 16 → e ≡ E minus1 4 S → f ≡ E minus1 5 S → length ys ≡ 16
      → ys ≡ take 16 t ⊕ e → zs ≡ take n (drop 16 (ys ++ drop 16 t)) ⊕ f
      → take 16 (ys ++ drop 16 t) ++ (zs ++ drop n (drop 16 (ys ++ drop 16 t))) ≡ u_masked E S t ++ v_masked E S t
  unfolding u_masked v_masked
  masked_both g n e f ys zs k he hf long p q =
      let back : drop 16 (ys ++ drop 16 t) ≡ drop 16 t = drop_at ys (drop 16 t) 16 long in
      let left : length (drop 16 t) ≤ n = omega (arith, length-drop 16 t) in
      let none : drop n (drop 16 (ys ++ drop 16 t)) ≡ [] = ap (drop n) back ∙ drop_of_length-le (drop 16 t) {i = n} left in
      let u : take 16 (ys ++ drop 16 t) ≡ take 16 t ⊕ E minus1 4 S = take_at ys (drop 16 t) 16 long ∙ p ∙ ap (λ (l : Bytes). take 16 t ⊕ l) he in
      let v : zs ≡ drop 16 t ⊕ E minus1 5 S = q ∙ ap₂ ◌⊕◌ (ap (take n) back ∙ take_all n (drop 16 t) left) hf in
      rw (ne_eqb (length t) 0 (λ h. omega arith), lt-leb (length t) 15 g)
      (ap₂ ◌++◌ u (ap (λ (l : Bytes). zs ++ l) none ∙ append-nil zs ∙ v))
