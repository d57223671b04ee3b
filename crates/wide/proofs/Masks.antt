-- A string xored in place with the front of another, byte by byte.
use mathlib.Core.List.{◌∷◌, ◌++◌}
use mathlib.Core.Path.{◌≡◌, ap, sym, ◌∙◌}
use Prim.Native.Nat.{ℕ, suc, ◌+◌, ◌≤◌, ◌<◌}
use native.Mathlib.Omega.{arith}
use lib.Bits.{bit_xor}
use lib.ListN.{length, take, drop, get_or, set}
use lib.Seq.{get_or_at, drop-cons, length-take-le}
use Rattle.paper.specs.Strings.{Bytes, ◌⊕◌}
use Rattle.laws.proofs.Fronts.{over_more}
use Rattle.laws.proofs.Strings.{⊕_length, get_or_⊕}

-- one byte more
pub one_more : (s e r : Bytes) (i : ℕ) → i < length s → length s ≤ length e → r ≡ take i (s ⊕ e) ++ drop i s
    → set r i (bit_xor (get_or r i 0) (get_or e i 0)) ≡ take (i + 1) (s ⊕ e) ++ drop (i + 1) s
one_more s e r i h g f =
    let y : Bytes = s ⊕ e in
    let long : length y ≡ length s = ⊕_length s e g in
    let split : r ≡ take i y ++ get_or s i 0 ∷ drop (suc i) s = f ∙ ap (λ (l : Bytes). take i y ++ l) (drop-cons s i 0 h) in
    let byte : bit_xor (get_or r i 0) (get_or e i 0) ≡ get_or y i 0 =
    ap (λ (n : ℕ). bit_xor n (get_or e i 0)) (ap (λ (l : Bytes). get_or l i 0) split ∙ get_or_at (take i y) (get_or s i 0) (drop (suc i) s) 0 i (length-take-le i y (omega arith)))
    ∙ sym (get_or_⊕ s e i h (omega arith)) in
    over_more s y r i (bit_xor (get_or r i 0) (get_or e i 0)) h (omega arith) byte f
