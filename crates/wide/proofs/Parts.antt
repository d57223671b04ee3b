-- A string of three parts, and what is left of it where its second or its third part was lent and came back changed.
use mathlib.Core.List.{[], ◌++◌, append_assoc, append-nil}
use mathlib.Core.Path.{◌≡◌, ap, ap₂, sym, ◌∙◌}
use Prim.Native.Nat.{ℕ, ◌+◌, ◌≤◌}
use native.Mathlib.Omega.{arith}
use lib.ListN.{length, take, drop, length-append, length-drop, take-append-drop, drop_of_length-le}
use lib.Seq.{length-take-le, take_at, drop_at, drop-drop}
use Rattle.paper.specs.Strings.{Bytes}

module _ (A B C s : Bytes) (e : s ≡ A ++ (B ++ C)) (a b : ℕ) (la : length A ≡ a) (lb : length B ≡ b) where
  after : drop a s ≡ B ++ C
  after = ap (drop a) e ∙ drop_at A (B ++ C) a la

  -- the second part, of k = b entries
  pub second : (k : ℕ) → k ≡ b → take k (drop a s) ≡ B
  second k h = ap₂ take h after ∙ take_at B C b lb

  pub third : drop (a + b) s ≡ C
  third = sym (drop-drop b a s) ∙ ap (drop b) after ∙ drop_at B C b lb

  pub put_second : (k : ℕ) (ys : Bytes) → k ≡ b → take a s ++ (ys ++ drop k (drop a s)) ≡ A ++ (ys ++ C)
  put_second k ys h =
      ap₂ (λ (u v : Bytes). u ++ (ys ++ v)) (ap (take a) e ∙ take_at A (B ++ C) a la) (ap₂ drop h after ∙ drop_at B C b lb)

  pub put_third : (k : ℕ) (zs : Bytes) → length C ≤ k → take (a + b) s ++ (zs ++ drop k (drop (a + b) s)) ≡ A ++ (B ++ zs)
  put_third k zs h =
      let front : take (a + b) s ≡ A ++ B = ap (take (a + b)) (e ∙ sym (append_assoc A B C)) ∙ take_at (A ++ B) C (a + b) (length-append A B ∙ ap₂ ◌+◌ la lb) in
      let none : drop k (drop (a + b) s) ≡ [] = ap (drop k) third ∙ drop_of_length-le C {i = k} h in
      ap₂ (λ (u v : Bytes). u ++ (zs ++ v)) front none ∙ ap (λ (l : Bytes). (A ++ B) ++ l) (append-nil zs) ∙ append_assoc A B zs

-- a part that came back as long as it was leaves the string as long as it was
pub put_length : (s ys : Bytes) (a k : ℕ) → a ≤ length s → length ys ≡ length (take k (drop a s)) → length (take a s ++ (ys ++ drop k (drop a s))) ≡ length s
put_length s ys a k h e =
    length-append (take a s) (ys ++ drop k (drop a s))
    ∙ omega (arith, length-append ys (drop k (drop a s)), length-take-le a s h, sym (length-append (take k (drop a s)) (drop k (drop a s))) ∙ ap length (take-append-drop k (drop a s)), length-drop a s)
