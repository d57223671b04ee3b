-- Lines 221 to 225: a string of 32 bytes or more in its parts, and back.
use mathlib.Core.Bool.{Bool, true, false}
use mathlib.Core.List.{[], ◌++◌, append_assoc, append-nil}
use mathlib.Core.Path.{◌≡◌, refl, ap, ap₂, sym, ◌∙◌}
use Prim.Native.Nat.{ℕ, zero, suc, ◌+◌, ◌-◌, ◌*◌, ◌≤◌}
use native.Mathlib.Omega.{arith}
use borrow.Author.Tests.{leb-false}
use lib.Dec.{leb}
use lib.ListN.{length, take, drop, length-append, take-append-drop}
use lib.Seq.{take_at, drop_at, take-take, take-add, drop-drop}
use Rattle.std.specs.Prelude.{if◌then◌else◌}
use Rattle.paper.specs.Strings.{Bytes, Digits, Block, join}
use Rattle.paper.specs.Figure5.{pairs, rest, Mᵢ, M'ᵢ, Muv, Mx, My, Mu, Mv}
use Rattle.laws.proofs.Digits.{take_digits, drop_digits, zero_digits, as_digits}
use Rattle.laws.proofs.Joins.{UpTo, join_at}

-- 32 bytes a pair, the rest, and two blocks
pub cut : (n : ℕ) → 32 ≤ n → 32 * pairs n + rest n + 32 ≡ n
cut n h = omega arith

-- u and v of a part of d bytes
abbrev pub u_of : ℕ → Bytes → Bytes
u_of d t = if leb d 15 then t else take 16 t

abbrev pub v_of : ℕ → Bytes → Bytes
v_of d t = if leb d 15 then [] else drop 16 t

-- two blocks that stand after each other
two_blocks : (l a b : Bytes) → length a ≡ 16 → length b ≡ 16 → take 32 l ≡ a ++ b → (take 16 l ≡ a) × (take 16 (drop 16 l) ≡ b)
two_blocks l a b p q e =
    let front : take 16 l ≡ a = sym (take-take 16 32 l (omega arith)) ∙ ap (take 16) e ∙ take_at a b 16 p in
    let both : take 16 l ++ take 16 (drop 16 l) ≡ a ++ b = sym (take-add 16 16 l) ∙ e in
    (front, sym (drop_at (take 16 l) (take 16 (drop 16 l)) 16 (ap length front ∙ p)) ∙ ap (drop 16) both ∙ drop_at a b 16 p)

-- the pairs of a string that begins with m pairs of blocks are these
pub pairs_of : (m : ℕ) (f g : ℕ → Bytes) (N R : Bytes) → UpTo m (λ i. Block (f i)) → UpTo m (λ i. Block (g i))
    → N ≡ join m (λ i. f i ++ g i) ++ R → UpTo m (λ i. (Mᵢ N i ≡ f i) × (M'ᵢ N i ≡ g i))
pairs_of m f g N R p q e i a b =
    let pair : take 32 (drop (32 * (i - 1)) N) ≡ f i ++ g i =
    ap (λ (l : Bytes). take 32 (drop (32 * (i - 1)) l)) e
    ∙ join_at 32 m i (λ j. f j ++ g j) R (λ j c d. length-append (f j) (g j) ∙ omega (arith, (p j c d).len, (q j c d).len)) a b in
    let both = two_blocks (drop (32 * (i - 1)) N) (f i) (g i) (p i a b).len (q i a b).len pair in
    (both.0, ap (take 16) (sym (drop-drop 16 (32 * (i - 1)) N)) ∙ both.1)

-- a part of n bytes
part : {n : ℕ} {X : Bytes} (a k : ℕ) → a + k ≤ n → Digits 8 n X → Digits 8 k (take k (drop a X))
part a k h p = take_digits k (omega arith) (drop_digits a p)

module _ (M : Bytes) (long : 32 ≤ length M) (p : Digits 8 (length M) M) where
  abbrev m : ℕ
  m = pairs (length M)

  abbrev d : ℕ
  d = rest (length M)

  whole : 32 * m + d + 32 ≡ length M
  whole = cut (length M) long

  pub Mᵢ_block : UpTo m (λ i. Block (Mᵢ M i))
  Mᵢ_block i a b = part (32 * (i - 1)) 16 (omega (arith, whole)) p

  pub M'ᵢ_block : UpTo m (λ i. Block (M'ᵢ M i))
  M'ᵢ_block i a b = part (32 * (i - 1) + 16) 16 (omega (arith, whole)) p

  Muv_bytes : Digits 8 d (Muv M)
  Muv_bytes = part (32 * m) d (omega (arith, whole)) p

  pub Mx_block : Block (Mx M)
  Mx_block = part (32 * m + d) 16 (omega (arith, whole)) p

  pub My_block : Block (My M)
  My_block = as_digits (omega (arith, whole)) (drop_digits (32 * m + d + 16) p)

  -- u is all of M_uv, or its first block
  pub Mu_bytes : (b : Bool) → leb d 15 ≡ b → Digits 8 (if b then d else 16) (Mu M)
  Mu_bytes true e = rw e Muv_bytes
  Mu_bytes false e = rw e (take_digits 16 (omega (arith, leb-false d 15 e)) Muv_bytes)

  pub Mv_bytes : (b : Bool) → leb d 15 ≡ b → Digits 8 (if b then 0 else d - 16) (Mv M)
  Mv_bytes true e = rw e (zero_digits 8 0)
  Mv_bytes false e = rw e (drop_digits 16 Muv_bytes)

  -- u and v are M_uv
  pub Mu_Mv : (b : Bool) → leb d 15 ≡ b → Mu M ++ Mv M ≡ Muv M
  Mu_Mv true e = rw e (append-nil (Muv M))
  Mu_Mv false e = rw e (take-append-drop 16 (Muv M))

  -- the pairs are the first 32 m bytes
  pairs_joined : (k : ℕ) → join k (λ i. Mᵢ M i ++ M'ᵢ M i) ≡ take (32 * k) M
  unfolding join
  pairs_joined zero = refl
  pairs_joined (suc k) =
      let at : 32 * (suc k - 1) ≡ 32 * k = omega arith in
      let next : 32 * k + 32 ≡ 32 * suc k = omega arith in
      ap₂ (λ (l : Bytes) (a : ℕ). l ++ (take 16 (drop a M) ++ take 16 (drop (a + 16) M))) (pairs_joined k) at
      ∙ ap (λ (l : Bytes). take (32 * k) M ++ (take 16 (drop (32 * k) M) ++ take 16 l)) (sym (drop-drop 16 (32 * k) M))
      ∙ ap (λ (l : Bytes). take (32 * k) M ++ l) (sym (take-add 16 16 (drop (32 * k) M)))
      ∙ sym (take-add (32 * k) 32 M)
      ∙ ap (λ (n : ℕ). take n M) next

  -- and all parts joined are the string
  pub parts_joined : join m (λ i. Mᵢ M i ++ M'ᵢ M i) ++ Muv M ++ Mx M ++ My M ≡ M
  parts_joined =
      let R : Bytes = drop (32 * m) M in
      ap (λ (l : Bytes). l ++ Muv M ++ Mx M ++ My M) (pairs_joined m)
      ∙ (λ i. take (32 * m) M ++ take d R ++ take 16 (sym (drop-drop d (32 * m) M) i) ++ (sym (drop-drop 16 (32 * m + d) M) ∙ ap (drop 16) (sym (drop-drop d (32 * m) M))) i)
      ∙ append_assoc (take (32 * m) M ++ take d R) (take 16 (drop d R)) (drop 16 (drop d R))
      ∙ ap (λ (l : Bytes). (take (32 * m) M ++ take d R) ++ l) (take-append-drop 16 (drop d R))
      ∙ append_assoc (take (32 * m) M) (take d R) (drop d R)
      ∙ ap (λ (l : Bytes). take (32 * m) M ++ l) (take-append-drop d R)
      ∙ take-append-drop (32 * m) M
