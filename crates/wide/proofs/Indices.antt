-- x and y of the two ways are at most 7, and E at such a pair is E at its indices.
use mathlib.Core.Path.{◌≡◌, ap, subst⁻¹, ◌∙◌}
use Prim.Native.Nat.{◌≤◌}
use native.Mathlib.Omega.{arith}
use Rattle.paper.specs.Strings.{Bytes, ◌⊕◌}
use Rattle.paper.specs.Figure6.{Key, E}
use Rattle.pairs.specs.Meaning.{row_of, Plain}
use Rattle.pairs.specs.declared.Pair.{Pair}
use Rattle.wide.specs.Ways.{first_of, second_of, end_pairs}
use Rattle.wide.specs.declared.EndPairs.{EndPairs}
use Rattle.wide.specs.declared.Way.{Way}
use Rattle.wide.specs.declared.Way.TheVariants.{Encipher, Decipher}

pub first_small : (way : Way) → first_of way ≤ 7
first_small Encipher = omega arith
first_small Decipher = omega arith

pub second_small : (way : Way) → second_of way ≤ 7
second_small Encipher = omega arith
second_small Decipher = omega arith

-- the pair p of those of a way
module _ (way : Way) (i : EndPairs) (e : i ≡ end_pairs way) (p : EndPairs → Pair) where
  pub plain_of : Plain (row_of (p (end_pairs way))) (p (end_pairs way)).number → Plain (row_of (p i)) (p i).number
  plain_of h = subst⁻¹ (λ (i : EndPairs). Plain (row_of (p i)) (p i).number) e h

  pub added_of : (K : Key) (r a X : Bytes) → r ≡ a ⊕ E K (row_of (p i)) (p i).number X → r ≡ a ⊕ E K (row_of (p (end_pairs way))) (p (end_pairs way)).number X
  added_of K r a X f = f ∙ ap (λ (i : EndPairs). a ⊕ E K (row_of (p i)) (p i).number X) e
