-- The S-box as sums and products of bits: J. Boyar and R. Peralta, "A new combinational logic minimization technique with applications to
-- cryptology" (2010), with its names and in its order: 115 gates, of which four turn their sum over.
-- x0 is the highest bit of the byte and x7 the lowest, and so are s0 and s7 of the result. Each part takes what it reads by number.
-- The gates are those of any type: of words, each bit by itself, and of single bits.
use Rattle.std.specs.Prelude.{List, [], ◌∷◌, ℕ, get_or}
use Rattle.std.specs.Int.Bits.{bit_xor, bit_and}

module _ {A : Type 0} (◌⊕◌ ◌⊗◌ : A → A → A) where
  infixl 66 ◌⊕◌
  infixl 70 ◌⊗◌
  -- the sums of bits of the byte q, whose bit i is q i: x7, which is read again as it stands, and y1 to y21
  abbrev pub sums : (ℕ → A) → List A
  sums q =
      let x0 = q 7 in
      let x1 = q 6 in
      let x2 = q 5 in
      let x3 = q 4 in
      let x4 = q 3 in
      let x5 = q 2 in
      let x6 = q 1 in
      let x7 = q 0 in
      let y14 = x3 ⊕ x5 in
      let y13 = x0 ⊕ x6 in
      let y9 = x0 ⊕ x3 in
      let y8 = x0 ⊕ x5 in
      let t0 = x1 ⊕ x2 in
      let y1 = t0 ⊕ x7 in
      let y4 = y1 ⊕ x3 in
      let y12 = y13 ⊕ y14 in
      let y2 = y1 ⊕ x0 in
      let y5 = y1 ⊕ x6 in
      let y3 = y5 ⊕ y8 in
      let t1 = x4 ⊕ y12 in
      let y15 = t1 ⊕ x5 in
      let y20 = t1 ⊕ x1 in
      let y6 = y15 ⊕ x7 in
      let y10 = y15 ⊕ t0 in
      let y11 = y20 ⊕ y9 in
      let y7 = x7 ⊕ y11 in
      let y17 = y10 ⊕ y11 in
      let y19 = y10 ⊕ y8 in
      let y16 = t0 ⊕ y11 in
      let y21 = y13 ⊕ y16 in
      let y18 = x0 ⊕ y16 in
      x7 ∷ y1 ∷ y2 ∷ y3 ∷ y4 ∷ y5 ∷ y6 ∷ y7 ∷ y8 ∷ y9 ∷ y10
      ∷ y11 ∷ y12 ∷ y13 ∷ y14 ∷ y15 ∷ y16 ∷ y17 ∷ y18 ∷ y19 ∷ y20 ∷ y21 ∷ []

  -- t21 to t24, the element of the field of 16 that is to be inverted
  abbrev pub norm : (ℕ → A) → List A
  norm y =
      let t2 = y 12 ⊗ y 15 in
      let t3 = y 3 ⊗ y 6 in
      let t4 = t3 ⊕ t2 in
      let t5 = y 4 ⊗ y 0 in
      let t6 = t5 ⊕ t2 in
      let t7 = y 13 ⊗ y 16 in
      let t8 = y 5 ⊗ y 1 in
      let t9 = t8 ⊕ t7 in
      let t10 = y 2 ⊗ y 7 in
      let t11 = t10 ⊕ t7 in
      let t12 = y 9 ⊗ y 11 in
      let t13 = y 14 ⊗ y 17 in
      let t14 = t13 ⊕ t12 in
      let t15 = y 8 ⊗ y 10 in
      let t16 = t15 ⊕ t12 in
      let t17 = t4 ⊕ t14 in
      let t18 = t6 ⊕ t16 in
      let t19 = t9 ⊕ t14 in
      let t20 = t11 ⊕ t16 in
      (t17 ⊕ y 20) ∷ (t18 ⊕ y 19) ∷ (t19 ⊕ y 21) ∷ (t20 ⊕ y 18) ∷ []

  -- its inverse: t29, t33, t37 and t40
  abbrev pub inverse16 : (ℕ → A) → List A
  inverse16 t =
      let t21 = t 0 in
      let t22 = t 1 in
      let t23 = t 2 in
      let t24 = t 3 in
      let t25 = t21 ⊕ t22 in
      let t26 = t21 ⊗ t23 in
      let t27 = t24 ⊕ t26 in
      let t28 = t25 ⊗ t27 in
      let t29 = t28 ⊕ t22 in
      let t30 = t23 ⊕ t24 in
      let t31 = t22 ⊕ t26 in
      let t32 = t31 ⊗ t30 in
      let t33 = t32 ⊕ t24 in
      let t34 = t23 ⊕ t33 in
      let t35 = t27 ⊕ t33 in
      let t36 = t24 ⊗ t35 in
      let t37 = t36 ⊕ t34 in
      let t38 = t27 ⊕ t36 in
      let t39 = t29 ⊗ t38 in
      let t40 = t25 ⊕ t39 in
      t29 ∷ t33 ∷ t37 ∷ t40 ∷ []

  -- z0 to z17: the inverse by the sums
  abbrev pub products : (ℕ → A) → (ℕ → A) → List A
  products y t =
      let t29 = t 0 in
      let t33 = t 1 in
      let t37 = t 2 in
      let t40 = t 3 in
      let t41 = t40 ⊕ t37 in
      let t42 = t29 ⊕ t33 in
      let t43 = t29 ⊕ t40 in
      let t44 = t33 ⊕ t37 in
      let t45 = t42 ⊕ t41 in
      (t44 ⊗ y 15) ∷ (t37 ⊗ y 6) ∷ (t33 ⊗ y 0) ∷ (t43 ⊗ y 16) ∷ (t40 ⊗ y 1) ∷ (t29 ⊗ y 7)
      ∷ (t42 ⊗ y 11) ∷ (t45 ⊗ y 17) ∷ (t41 ⊗ y 10) ∷ (t44 ⊗ y 12) ∷ (t37 ⊗ y 3) ∷ (t33 ⊗ y 4)
      ∷ (t43 ⊗ y 13) ∷ (t40 ⊗ y 5) ∷ (t29 ⊗ y 2) ∷ (t42 ⊗ y 9) ∷ (t45 ⊗ y 14) ∷ (t41 ⊗ y 8) ∷ []

  -- s7 to s0, the lowest bit first, with the affine step. Its constant 63 has a 1 in s1, s2, s6 and s7
  abbrev pub outputs : A → (ℕ → A) → List A
  outputs ones z =
      let t46 = z 15 ⊕ z 16 in
      let t47 = z 10 ⊕ z 11 in
      let t48 = z 5 ⊕ z 13 in
      let t49 = z 9 ⊕ z 10 in
      let t50 = z 2 ⊕ z 12 in
      let t51 = z 2 ⊕ z 5 in
      let t52 = z 7 ⊕ z 8 in
      let t53 = z 0 ⊕ z 3 in
      let t54 = z 6 ⊕ z 7 in
      let t55 = z 16 ⊕ z 17 in
      let t56 = z 12 ⊕ t48 in
      let t57 = t50 ⊕ t53 in
      let t58 = z 4 ⊕ t46 in
      let t59 = z 3 ⊕ t54 in
      let t60 = t46 ⊕ t57 in
      let t61 = z 14 ⊕ t57 in
      let t62 = t52 ⊕ t58 in
      let t63 = t49 ⊕ t58 in
      let t64 = z 4 ⊕ t59 in
      let t65 = t61 ⊕ t62 in
      let t66 = z 1 ⊕ t63 in
      let s0 = t59 ⊕ t63 in
      let s6 = t56 ⊕ t62 ⊕ ones in
      let s7 = t48 ⊕ t60 ⊕ ones in
      let t67 = t64 ⊕ t65 in
      let s3 = t53 ⊕ t66 in
      let s4 = t51 ⊕ t66 in
      let s5 = t47 ⊕ t65 in
      let s1 = t64 ⊕ s3 ⊕ ones in
      let s2 = t55 ⊕ t67 ⊕ ones in
      s7 ∷ s6 ∷ s5 ∷ s4 ∷ s3 ∷ s2 ∷ s1 ∷ s0 ∷ []

-- the words of a list by number
abbrev pub entry : List ℕ → ℕ → ℕ
entry l i = get_or l i 0

-- the whole circuit on words, of which `ones` has a 1 wherever a byte stands
unfoldable pub circuit : ℕ → List ℕ → List ℕ
circuit ones q =
    let y = sums bit_xor bit_and (entry q) in
    let t = inverse16 bit_xor bit_and (entry (norm bit_xor bit_and (entry y))) in
    outputs bit_xor bit_and ones (entry (products bit_xor bit_and (entry y) (entry t)))
