-- Numbers put into an output in decimal, from the last digit to the first, and the fields of the line one after the other.
use mathlib.Core.List.{[], ◌∷◌, ◌++◌, append_assoc, append-nil}
use mathlib.Core.Path.{◌≡◌, refl, ap, sym, ◌∙◌}
use Prim.Native.Nat.{ℕ, ◌+◌, ◌-◌, ◌/◌, ◌%◌, ◌≤◌, ◌<◌}
use native.Mathlib.Numerals.{add-one}
use native.Mathlib.Omega.{arith}
use lib.ListN.{length, take, drop, set, length-append, length-drop, take-append-drop}
use lib.Seq.{length-take-le, take-set-lt, take-suc-set, set-append_left, sets-eq}
use Rattle.paper.specs.Strings.{Bytes}
use Rattle.paper.specs.Ledger as paper
use Rattle.paper.specs.Ledger.{decimal, line_of}
use Rattle.laws.proofs.Decimals.{decimal_digit, decimal_more, decimal_some}
use Rattle.laws.specs.Placing.{placed}
use Rattle.laws.proofs.Placed.{placed_then, Begun, begun_more}
use Rattle.line.specs.Fields.{decimal_then}

-- ---- One byte more in front of what was put

placed_none : (at : ℕ) (out : Bytes) → placed at [] out ≡ out
placed_none at out =
    let none_more : at + 0 ≡ at = omega arith in
    (λ i. append-nil (take at out) i ++ drop (none_more i) out) ∙ take-append-drop at out

set_front : (p d : ℕ) (tail out : Bytes) → p + 1 + length tail ≤ length out → set (placed (p + 1) tail out) p d ≡ placed p (d ∷ tail) out
set_front p d tail out fits =
    let front = take (p + 1) out in
    let rest = drop (p + 1 + length tail) out in
    let long : length front ≡ p + 1 = length-take-le (p + 1) out (omega arith) in
    let one : set front p d ≡ take p out ++ d ∷ [] =
    sym (take-set-lt (p + 1) out p d (omega arith)) ∙ ap (λ (k : ℕ). take k (set out p d)) (add-one p) ∙ take-suc-set out p d (omega arith) in
    let all : p + 1 + length tail ≡ p + length (d ∷ tail) = omega arith in
    set-append_left (front ++ tail) rest p d (omega (arith, length-append front tail, long))
    ∙ ap (λ (X : Bytes). X ++ rest) (set-append_left front tail p d (omega (arith, long)) ∙ ap (λ (X : Bytes). X ++ tail) one ∙ append_assoc (take p out) (d ∷ []) tail)
    ∙ ap (λ (k : ℕ). take p out ++ (d ∷ tail) ++ drop k out) all

-- ---- The digits of n: those that are left, and those that were put

pub record Putting (n left at place : ℕ) (out last : Bytes) : Type 0 where
  pub tail : Bytes
  pub digits : decimal n ≡ decimal left ++ tail
  pub here : place + 1 ≡ at + length (decimal left)
  pub there : last ≡ placed (place + 1) tail out

pub begun : (n at place : ℕ) (out : Bytes) → place + 1 ≡ at + length (decimal n) → Putting n n at place out out
begun n at place out e = record { tail = []; digits = sym (append-nil (decimal n)); here = e; there = sym (placed_none (place + 1) out) }

module _ (n left at place : ℕ) (out last : Bytes) (fits : at + length (decimal n) ≤ length out) (p : Putting n left at place out last) where
  pub in_out : place + 1 + length p.tail ≤ length out
  in_out = omega (arith, ap length p.digits, length-append (decimal left) p.tail, p.here)

  pub same_room : length last ≡ length out
  same_room =
      let front = take (place + 1) out in
      omega
      (arith, ap length p.there, length-append (front ++ p.tail) (drop (place + 1 + length p.tail) out), length-append front p.tail, length-take-le (place + 1) out (omega (arith, in_out)), length-drop (place + 1 + length p.tail) out, in_out)

  pub not_first : 10 ≤ left → 1 ≤ place
  not_first q =
      omega (arith, p.here, ap length (decimal_more left q), length-append (decimal (left / 10)) ((48 + left % 10) ∷ []), decimal_some (left / 10))

  pub one_more : 10 ≤ left → Putting n (left / 10) at (place - 1) out (set last place (48 + left % 10))
  one_more q =
      let d = 48 + left % 10 in
      let back : place ≡ place - 1 + 1 = omega (arith, not_first q) in
      record {
        tail = d ∷ p.tail;
        digits = p.digits ∙ ap (λ (X : Bytes). X ++ p.tail) (decimal_more left q) ∙ append_assoc (decimal (left / 10)) (d ∷ []) p.tail;
        here =
            omega (arith, not_first q, p.here, ap length (decimal_more left q), length-append (decimal (left / 10)) (d ∷ []));
        there = ap (λ (X : Bytes). set X place d) p.there ∙ set_front place d p.tail out in_out ∙ ap (λ (k : ℕ). placed k (d ∷ p.tail) out) back;
      }

  -- the first digit
  pub first_digit : left < 10 → set last place (48 + left) ≡ placed at (decimal n) out
  first_digit q =
      let d = 48 + left in
      let one = decimal_digit left q in
      let first : place ≡ at = omega (arith, p.here, ap length one) in
      let all : d ∷ p.tail ≡ decimal n = sym (p.digits ∙ ap (λ (X : Bytes). X ++ p.tail) one) in
      ap (λ (X : Bytes). set X place d) p.there ∙ set_front place d p.tail out in_out ∙ (λ i. placed (first i) (all i) out)

-- ---- A number and a byte after it

pub then_byte : (n after at : ℕ) (out : Bytes) → at + length (decimal_then n after) ≤ length out
    → set (placed at (decimal n) out) (at + length (decimal n)) after ≡ placed at (decimal_then n after) out
then_byte n after at out fits =
    let end = at + length (decimal n) in
    let X = placed at (decimal n) out in
    let long : end + 1 ≤ length out = omega (arith, length-append (decimal n) (after ∷ [])) in
    let front = take at out in
    let room : length X ≡ length out =
    omega
    (arith, length-append (front ++ decimal n) (drop end out), length-append front (decimal n), length-take-le at out (omega arith), length-drop end out, long) in
    sets-eq (after ∷ []) X end (omega (arith, room, long)) ∙ placed_then at (decimal n) (after ∷ []) out (omega arith)

-- the place after both
pub field_end : (n after at : ℕ) {end : ℕ} → end ≡ at + length (decimal_then n after) → end ≡ at + length (decimal n) + 1
field_end n after at e = omega (arith, e, length-append (decimal n) (after ∷ []))

-- ---- The line by its fields

abbrev pub fields : paper.Report → Bytes
fields r =
    decimal_then r.read 0x20 ++ decimal_then r.refused 0x20 ++ decimal_then r.sum 0x20 ++ decimal_then r.longest 0x20
    ++ decimal_then r.over 0x2f ++ decimal_then r.under 0x0a

-- a byte at the end of one part goes in front of the next
glue : (L : Bytes) (x : ℕ) (X : Bytes) (y : ℕ) → (L ++ x ∷ []) ++ (X ++ y ∷ []) ≡ (L ++ x ∷ X) ++ y ∷ []
glue L x X y = append_assoc L (x ∷ []) (X ++ y ∷ []) ∙ sym (append_assoc L (x ∷ X) (y ∷ []))

pub line_is : (r : paper.Report) → fields r ≡ line_of r
unfolding line_of
line_is r =
    let a = decimal r.read in
    let b = decimal r.refused in
    let c = decimal r.sum in
    let d = decimal r.longest in
    let e = decimal r.over in
    let f = decimal r.under in
    ap (λ (X : Bytes). X ++ decimal_then r.sum 0x20 ++ decimal_then r.longest 0x20 ++ decimal_then r.over 0x2f ++ decimal_then r.under 0x0a) (glue a 0x20 b 0x20)
    ∙ ap (λ (X : Bytes). X ++ decimal_then r.longest 0x20 ++ decimal_then r.over 0x2f ++ decimal_then r.under 0x0a) (glue (a ++ 0x20 ∷ b) 0x20 c 0x20)
    ∙ ap (λ (X : Bytes). X ++ decimal_then r.over 0x2f ++ decimal_then r.under 0x0a) (glue (a ++ 0x20 ∷ b ++ 0x20 ∷ c) 0x20 d 0x20)
    ∙ ap (λ (X : Bytes). X ++ decimal_then r.under 0x0a) (glue (a ++ 0x20 ∷ b ++ 0x20 ∷ c ++ 0x20 ∷ d) 0x20 e 0x2f)
    ∙ glue (a ++ 0x20 ∷ b ++ 0x20 ∷ c ++ 0x20 ∷ d ++ 0x20 ∷ e) 0x2f f 0x0a

pub line_long : (r : paper.Report)
    → length (line_of r) ≡ length (decimal r.read) + length (decimal r.refused) + length (decimal r.sum) + length (decimal r.longest) + length (decimal r.over) + length (decimal r.under) + 6
unfolding line_of
line_long r = simp length-append (omega arith)

module _ (r : paper.Report) where
  abbrev f1 : Bytes
  f1 = decimal_then r.read 0x20

  abbrev f2 : Bytes
  f2 = decimal_then r.refused 0x20

  abbrev f3 : Bytes
  f3 = decimal_then r.sum 0x20

  abbrev f4 : Bytes
  f4 = decimal_then r.longest 0x20

  abbrev f5 : Bytes
  f5 = decimal_then r.over 0x2f

  abbrev f6 : Bytes
  f6 = decimal_then r.under 0x0a

  fields_long : length (line_of r) ≡ length f1 + length f2 + length f3 + length f4 + length f5 + length f6
  fields_long =
      omega
      (arith, ap length (line_is r), length-append (f1 ++ f2 ++ f3 ++ f4 ++ f5) f6, length-append (f1 ++ f2 ++ f3 ++ f4) f5, length-append (f1 ++ f2 ++ f3) f4, length-append (f1 ++ f2) f3, length-append f1 f2)

  -- six fields, each at the place after the one before it, are the line
  pub together : (out o1 o2 o3 o4 o5 o6 : Bytes) (p1 p2 p3 p4 p5 : ℕ) → length (line_of r) ≤ length out
      → o1 ≡ placed 0 f1 out → p1 ≡ 0 + length f1
      → o2 ≡ placed p1 f2 o1 → p2 ≡ p1 + length f2
      → o3 ≡ placed p2 f3 o2 → p3 ≡ p2 + length f3
      → o4 ≡ placed p3 f4 o3 → p4 ≡ p3 + length f4
      → o5 ≡ placed p4 f5 o4 → p5 ≡ p4 + length f5
      → o6 ≡ placed p5 f6 o5
      → o6 ≡ placed 0 (line_of r) out
  together out o1 o2 o3 o4 o5 o6 p1 p2 p3 p4 p5 fits a1 b1 a2 b2 a3 b3 a4 b4 a5 b5 a6 =
      let first : Begun f1 out o1 p1 = record { there = a1; past = omega (arith, b1) } in
      let second = begun_more f2 o2 p2 first a2 b2 (omega (arith, fields_long)) in
      let third = begun_more f3 o3 p3 second a3 b3 (omega (arith, fields_long)) in
      let fourth = begun_more f4 o4 p4 third a4 b4 (omega (arith, fields_long)) in
      let fifth = begun_more f5 o5 p5 fourth a5 b5 (omega (arith, fields_long)) in
      let last = begun_more f6 o6 (p5 + length f6) fifth a6 refl (omega (arith, fields_long)) in
      last.there ∙ ap (λ (w : Bytes). placed 0 w out) (line_is r)
