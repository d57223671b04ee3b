-- The multiples, each by section 7's rules from those before it.
use Rattle.std.proofs.Common.{◌≡◌, ℕ, List, [], ◌∷◌, ◌++◌, ◌+◌, ◌/◌, ◌%◌, ◌≤◌, refl, ap, sym, ◌∙◌, arith, rules}
use mir.Syntax.{w32}
use Rattle.paper.specs.Strings.{Bytes, Block, join, ◌⊕◌}
use Rattle.paper.specs.Section7.{double, ◌·◌}
use Rattle.laws.proofs.KeyBlocks.{times_block}
use Rattle.laws.proofs.Multiples.{times_zero, times_one, times_even, times_odd}
use Rattle.block.proofs.Arrays.{array_digits}
use Rattle.columns.specs.Columns.{columns_of, block_of}
use Rattle.columns.proofs.Conversions.{block_columns, block_of_block, sum_of, double_of}
use Rattle.multiples.specs.Eight.{multiples}
use Rattle.multiples.proofs.multiples.Goals as goal

module _ (X : Bytes) (p : Block X) where
  none : 0 ∷ 0 ∷ 0 ∷ 0 ∷ [] ≡ columns_of (0 · X)
  none = ap columns_of (sym (times_zero X))

  -- 2·((n / 2)·X) is n·X, n being even
  even : (n : ℕ) → 1 ≤ n → n % 2 ≡ 0 → (half r : List ℕ) → half ≡ columns_of ((n / 2) · X) → r ≡ columns_of (double (block_of half)) → r ≡ columns_of (n · X)
  even n h g half r e f = double_of (times_block (n / 2) p) e f ∙ ap columns_of (sym (times_even n X h g))

  -- n·X ⊕ X is (n + 1)·X
  odd : (n : ℕ) → 1 ≤ n → n % 2 ≡ 0 → (this one r : List ℕ) → this ≡ columns_of (n · X) → one ≡ columns_of X → r ≡ columns_of (block_of this ⊕ block_of one) → r ≡ columns_of ((n + 1) · X)
  odd n h g this one r e f j =
      let same : n / 2 ≡ (n + 1) / 2 = omega (arith, g) in
      sum_of (times_block n p) p e f j
      ∙ ap (λ (Y : Bytes). columns_of (Y ⊕ X)) (times_even n X h g ∙ ap (λ (k : ℕ). double (k · X)) same)
      ∙ ap columns_of (sym (times_odd (n + 1) X (λ z. omega (arith, g))))

  -- eight blocks of columns, one after the other
  all : (a b c d e f g : List ℕ) → a ≡ columns_of (1 · X) → b ≡ columns_of (2 · X) → c ≡ columns_of (3 · X) → d ≡ columns_of (4 · X)
      → e ≡ columns_of (5 · X) → f ≡ columns_of (6 · X) → g ≡ columns_of (7 · X)
      → (0 ∷ 0 ∷ 0 ∷ 0 ∷ []) ++ (a ++ (b ++ (c ++ (d ++ (e ++ (f ++ (g ++ []))))))) ≡ multiples X
  unfolding multiples join
  all a b c d e f g p1 p2 p3 p4 p5 p6 p7 = λ i. none i ++ (p1 i ++ (p2 i ++ (p3 i ++ (p4 i ++ (p5 i ++ (p6 i ++ (p7 i ++ [])))))))

pub returns : goal.returns
returns c =
    let x = c.args.x in
    let X = block_of x in
    let p = block_of_block x in
    let is : x ≡ columns_of X = sym (block_columns (array_digits w32 4 _ _ c.well_formed.0)) in
    let one : x ≡ columns_of (1 · X) = is ∙ ap columns_of (sym (times_one X p)) in
    let two_is = even X p 2 (omega arith) refl x c.double-two.result one c.double-two.ensures in
    let three-is = odd X p 2 (omega arith) refl c.double-two.result x c.xor-three.result two_is is c.xor-three.ensures in
    let four_is = even X p 4 (omega arith) refl c.double-two.result c.double-four.result two_is c.double-four.ensures in
    let five-is = odd X p 4 (omega arith) refl c.double-four.result x c.xor-five.result four_is is c.xor-five.ensures in
    let six-is = even X p 6 (omega arith) refl c.xor-three.result c.double-six.result three-is c.double-six.ensures in
    let seven_is = odd X p 6 (omega arith) refl c.double-six.result x c.xor-seven.result six-is is c.xor-seven.ensures in
    let joined : c.unwrap.result ≡ c.as_flattened.result.now = search rules in
    joined ∙ c.as_flattened.ensures.value ∙ all X p x _ _ _ _ _ _ one two_is three-is four_is five-is six-is seven_is
