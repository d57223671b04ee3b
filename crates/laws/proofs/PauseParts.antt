-- THE PAUSE. A text is a pause under a mark exactly where it is written of parts that fit, and one way at most; its microseconds are those of
-- the parts. No text is a pause under two marks with different values. A pause has at most 16 bytes and 999,999,999,999,000 microseconds.
use mathlib.Core.Bool.{Bool, true, false}
use mathlib.Core.List.{[], ◌∷◌, ◌++◌}
use mathlib.Core.Option.{Option, none, some}
use mathlib.Core.Path.{◌≡◌, refl, ap, ap₂, sym, subst, ◌∙◌}
use Prim.Native.Nat.{ℕ, zero, suc, ◌-◌, ◌*◌, ◌≤◌, ◌<◌}
use native.Mathlib.Nat.{mul-le-mul_left, pow-le-pow_right}
use native.Mathlib.Omega.{arith}
use borrow.Author.Tests.{leb-true, leb-false, eqb-true, eqb-false}
use lib.Dec.{eqb, leb}
use lib.ListN.{length, get_or, take, drop, replicate, length-append, length-replicate, take-append-drop}
use lib.Seq.{length-take-le, take-append_seam, drop-append_seam}
use Rattle.paper.specs.Strings.{Bytes, same}
use Rattle.paper.specs.Pause.{comma, point, is_digit, digits_first, thousandths, unit_of, times, after_whole, after_mark, read_pause}
use Rattle.laws.proofs.PauseSteps.{AllDigits, digits_end, digits_front, digits_within, digits_then, decimal_below, whole_reads, no_whole, long_whole, marked, unmarked, fraction_reads, no_fraction, long_fraction, Unit_is, is_ms, is_s, is_neither, unit_is, no_unit}

-- ---- The parts of a pause

pub data TimeUnit : Type 0 where
  milliseconds : TimeUnit
  seconds : TimeUnit

pub record Parts : Type 0 where
  pub whole : Bytes
  pub fraction : Bytes
  pub unit : TimeUnit

-- 1 to 9 digits, and 0 to 3 digits
pub record Fit (p : Parts) : Type 0 where
  pub whole_digits : AllDigits p.whole
  pub least : 1 ≤ length p.whole
  pub most : length p.whole ≤ 9
  pub fraction_digits : AllDigits p.fraction
  pub few : length p.fraction ≤ 3

abbrev pub unit_text : TimeUnit → Bytes
unit_text milliseconds = 0x20 ∷ 0x6d ∷ 0x73 ∷ []
unit_text seconds = 0x20 ∷ 0x73 ∷ []

-- the microseconds in a thousandth of a unit
abbrev pub in_thousandth : TimeUnit → ℕ
in_thousandth milliseconds = 1
in_thousandth seconds = 1000

-- the mark and the fraction, and nothing where there is no fraction
abbrev pub marked_fraction : ℕ → Bytes → Bytes
marked_fraction mark [] = []
marked_fraction mark (d ∷ f) = mark ∷ d ∷ f

abbrev pub text_of : ℕ → Parts → Bytes
text_of mark p = p.whole ++ (marked_fraction mark p.fraction ++ unit_text p.unit)

abbrev pub microseconds_of : Parts → ℕ
microseconds_of p = thousandths p.whole p.fraction * in_thousandth p.unit

-- a mark is no digit, no space, and not 0
pub record Mark (mark : ℕ) : Type 0 where
  pub no_digit : is_digit mark ≡ false
  pub no_space : mark ≡ 0x20 → ⊥
  pub no_zero : mark ≡ 0 → ⊥

pub comma_mark : Mark comma
comma_mark = record { no_digit = refl; no_space = λ e. omega arith; no_zero = λ e. omega arith }

pub point_mark : Mark point
point_mark = record { no_digit = refl; no_space = λ e. omega arith; no_zero = λ e. omega arith }

-- ---- What is written of parts that fit

unit_reads : (u : TimeUnit) → unit_of (unit_text u) ≡ some (in_thousandth u)
unfolding unit_of same
unit_reads milliseconds = refl
unit_reads seconds = refl

unit_first : (u : TimeUnit) → get_or (unit_text u) 0 0 ≡ 0x20
unit_first milliseconds = refl
unit_first seconds = refl

unit_ends : (u : TimeUnit) → digits_first (unit_text u) ≡ 0
unit_ends milliseconds = digits_end 0x20 (0x6d ∷ 0x73 ∷ []) refl
unit_ends seconds = digits_end 0x20 (0x73 ∷ []) refl

tail_ends : (mark : ℕ) → Mark mark → (f : Bytes) (u : TimeUnit) → digits_first (marked_fraction mark f ++ unit_text u) ≡ 0
tail_ends mark m [] u = unit_ends u
tail_ends mark m (d ∷ f) u = digits_end mark (d ∷ f ++ unit_text u) m.no_digit

-- by the whole digits
written_goes : (mark other : ℕ) → Mark other → (p : Parts) → Fit p
    → read_pause mark (text_of other p) ≡ after_whole mark p.whole (marked_fraction other p.fraction ++ unit_text p.unit)
written_goes mark other m p fit =
    let rest = marked_fraction other p.fraction ++ unit_text p.unit in
    whole_reads mark (p.whole ++ rest) (length p.whole) (sym (digits_then p.whole rest fit.whole_digits (tail_ends other m p.fraction p.unit))) fit.least fit.most
    ∙ ap₂ (λ (w r : Bytes). after_whole mark w r) (take-append_seam p.whole rest) (drop-append_seam p.whole rest)

-- without a fraction, under any mark
plain_goes : (mark : ℕ) → Mark mark → (w : Bytes) (u : TimeUnit) → after_whole mark w (unit_text u) ≡ some (thousandths w [] * in_thousandth u)
plain_goes mark m w u =
    unmarked mark w (unit_text u) (λ e. m.no_space (sym e ∙ unit_first u)) ∙ ap (times (thousandths w [])) (unit_reads u)

marked_goes : (mark : ℕ) → Mark mark → (w : Bytes) (d : ℕ) (f : Bytes) (u : TimeUnit) → AllDigits (d ∷ f) → length (d ∷ f) ≤ 3
    → after_whole mark w (mark ∷ d ∷ f ++ unit_text u) ≡ some (thousandths w (d ∷ f) * in_thousandth u)
marked_goes mark m w d f u digits few =
    marked mark w (mark ∷ d ∷ f ++ unit_text u) refl
    ∙ fraction_reads w (d ∷ f ++ unit_text u) (length (d ∷ f)) (sym (digits_then (d ∷ f) (unit_text u) digits (unit_ends u))) (omega arith) few
    ∙ (λ i. times (thousandths w (take-append_seam (d ∷ f) (unit_text u) i)) (unit_of (drop-append_seam (d ∷ f) (unit_text u) i)))
    ∙ ap (times (thousandths w (d ∷ f))) (unit_reads u)

-- it reads as the microseconds of the parts
pub parts_read : (mark : ℕ) → Mark mark → (p : Parts) → Fit p → read_pause mark (text_of mark p) ≡ some (microseconds_of p)
parts_read mark m p fit = written_goes mark mark m p fit ∙ go p.fraction fit.fraction_digits fit.few
  where
    go : (f : Bytes) → AllDigits f → length f ≤ 3 → after_whole mark p.whole (marked_fraction mark f ++ unit_text p.unit) ≡ some (thousandths p.whole f * in_thousandth p.unit)
    go [] digits few = plain_goes mark m p.whole p.unit
    go (d ∷ f) digits few = marked_goes mark m p.whole d f p.unit digits few

-- ---- What reads is written of parts that fit

pub record Read_as (mark : ℕ) (text : Bytes) (n : ℕ) : Type 0 where
  pub parts : Parts
  pub fit : Fit parts
  pub text_is : text_of mark parts ≡ text
  pub value_is : microseconds_of parts ≡ n

abbrev IfRead : ℕ → Bytes → Option ℕ → Type 0
IfRead mark text none = Unit {0}
IfRead mark text (some n) = Read_as mark text n

-- with a whole number and a fraction that fit, by the unit
by_unit : (mark : ℕ) (text w f X : Bytes) → AllDigits w → 1 ≤ length w → length w ≤ 9 → AllDigits f → length f ≤ 3
    → w ++ (marked_fraction mark f ++ X) ≡ text → IfRead mark text (times (thousandths w f) (unit_of X))
by_unit mark text w f X wd least most fd few is = go (unit_is X)
  where
    with_unit : (u : TimeUnit) → X ≡ unit_text u → Read_as mark text (thousandths w f * in_thousandth u)
    with_unit u e = record {
      parts = record { whole = w; fraction = f; unit = u };
      fit = record { whole_digits = wd; least = least; most = most; fraction_digits = fd; few = few };
      text_is = ap (λ (Y : Bytes). w ++ (marked_fraction mark f ++ Y)) (sym e) ∙ is;
      value_is = refl;
    }

    go : Unit_is X → IfRead mark text (times (thousandths w f) (unit_of X))
    go (is_ms e r) = subst (λ (o : Option ℕ). IfRead mark text (times (thousandths w f) o)) (sym r) (with_unit milliseconds e)
    go (is_s e r) = subst (λ (o : Option ℕ). IfRead mark text (times (thousandths w f) o)) (sym r) (with_unit seconds e)
    go (is_neither r) = subst (λ (o : Option ℕ). IfRead mark text (times (thousandths w f) o)) (sym r) tt

-- a first byte that is not 0 stands in front
first_byte : (X : Bytes) (b : ℕ) → (b ≡ 0 → ⊥) → get_or X 0 0 ≡ b → X ≡ b ∷ drop 1 X
first_byte [] b p e = absurd (p (sym e))
first_byte (x ∷ X) b p e = ap (λ (y : ℕ). y ∷ X) e

-- 1 to 3 digits make a fraction
some_fraction : (mark : ℕ) (f X : Bytes) → 1 ≤ length f → marked_fraction mark f ++ X ≡ mark ∷ (f ++ X)
some_fraction mark [] X p = absurd (omega arith)
some_fraction mark (d ∷ f) X p = refl

module _ (mark : ℕ) (m : Mark mark) (text : Bytes) where
  abbrev n : ℕ
  n = digits_first text

  abbrev w : Bytes
  w = take n text

  abbrev X : Bytes
  X = drop n text

  module _ (least : 1 ≤ n) (most : n ≤ 9) where
    w_long : length w ≡ n
    w_long = length-take-le n text (digits_within text)

    after_mark_lem : (k : ℕ) → k ≡ digits_first (drop 1 X) → get_or X 0 0 ≡ mark → (a b : Bool) → leb 1 k ≡ a → leb k 3 ≡ b → IfRead mark text (after_mark w (drop 1 X))
    after_mark_lem k e first true true p q =
        let Y = drop 1 X in
        let f = take k Y in
        let long : length f ≡ k = length-take-le k Y (omega (arith, digits_within Y)) in
        let split : marked_fraction mark f ++ drop k Y ≡ X =
        some_fraction mark f (drop k Y) (omega (arith, long, leb-true 1 k p)) ∙ ap (λ (Z : Bytes). mark ∷ Z) (take-append-drop k Y) ∙ sym (first_byte X mark m.no_zero first) in
        subst (IfRead mark text) (sym (fraction_reads w Y k e (leb-true 1 k p) (leb-true k 3 q)))
        (by_unit mark text w f (drop k Y) (digits_front text) (omega (arith, w_long)) (omega (arith, w_long))
        (subst (λ (j : ℕ). AllDigits (take j Y)) (sym e) (digits_front Y)) (omega (arith, long, leb-true k 3 q))
        (ap (λ (Z : Bytes). w ++ Z) split ∙ take-append-drop n text))
    after_mark_lem k e first false b p q = subst (IfRead mark text) (sym (no_fraction w (drop 1 X) k e (leb-false 1 k p))) tt
    after_mark_lem k e first true false p q = subst (IfRead mark text) (sym (long_fraction w (drop 1 X) k e (leb-false k 3 q))) tt

    after_whole_lem : (t : Bool) → eqb (get_or X 0 0) mark ≡ t → IfRead mark text (after_whole mark w X)
    after_whole_lem true e =
        let first = eqb-true (get_or X 0 0) mark e in
        subst (IfRead mark text) (sym (marked mark w X first))
        (after_mark_lem (digits_first (drop 1 X)) refl first (leb 1 (digits_first (drop 1 X))) (leb (digits_first (drop 1 X)) 3) refl refl)
    after_whole_lem false e =
        subst (IfRead mark text) (sym (unmarked mark w X (eqb-false (get_or X 0 0) mark e)))
        (by_unit mark text w [] X (digits_front text) (omega (arith, w_long)) (omega (arith, w_long)) tt (omega arith) (take-append-drop n text))

  if_read : IfRead mark text (read_pause mark text)
  if_read = go (leb 1 n) (leb n 9) refl refl
    where
      go : (a b : Bool) → leb 1 n ≡ a → leb n 9 ≡ b → IfRead mark text (read_pause mark text)
      go true true p q =
          subst (IfRead mark text) (sym (whole_reads mark text n refl (leb-true 1 n p) (leb-true n 9 q)))
          (after_whole_lem (leb-true 1 n p) (leb-true n 9 q) (eqb (get_or X 0 0) mark) refl)
      go false b p q = subst (IfRead mark text) (sym (no_whole mark text n refl (leb-false 1 n p))) tt
      go true false p q = subst (IfRead mark text) (sym (long_whole mark text n refl (leb-false n 9 q))) tt

  pub read_parts : (k : ℕ) → read_pause mark text ≡ some k → Read_as mark text k
  read_parts k e = subst (IfRead mark text) e if_read

-- ---- One way at most

-- digits, and then what starts with none, come apart one way
apart : (X Y A B : Bytes) → AllDigits X → AllDigits A → digits_first Y ≡ 0 → digits_first B ≡ 0 → X ++ Y ≡ A ++ B → (X ≡ A) × (Y ≡ B)
apart X Y A B p q r s e =
    let long : length X ≡ length A = sym (digits_then X Y p r) ∙ ap digits_first e ∙ digits_then A B q s in (
      sym (take-append_seam X Y) ∙ (λ i. take (long i) (e i)) ∙ take-append_seam A B,
      sym (drop-append_seam X Y) ∙ (λ i. drop (long i) (e i)) ∙ drop-append_seam A B,
    )

one_unit : (u v : TimeUnit) → unit_text u ≡ unit_text v → u ≡ v
one_unit milliseconds milliseconds e = refl
one_unit seconds seconds e = refl
one_unit milliseconds seconds e = absurd (omega (arith, ap length e))
one_unit seconds milliseconds e = absurd (omega (arith, ap length e))

one_tail : (mark : ℕ) → Mark mark → (f g : Bytes) (u v : TimeUnit) → AllDigits f → AllDigits g
    → marked_fraction mark f ++ unit_text u ≡ marked_fraction mark g ++ unit_text v → (f ≡ g) × (u ≡ v)
one_tail mark m [] [] u v p q e = (refl, one_unit u v e)
one_tail mark m [] (d ∷ g) u v p q e = absurd (m.no_space (sym (sym (unit_first u) ∙ ap (λ (X : Bytes). get_or X 0 0) e)))
one_tail mark m (d ∷ f) [] u v p q e = absurd (m.no_space (ap (λ (X : Bytes). get_or X 0 0) e ∙ unit_first v))
one_tail mark m (d ∷ f) (b ∷ g) u v p q e =
    let split = apart (d ∷ f) (unit_text u) (b ∷ g) (unit_text v) p q (unit_ends u) (unit_ends v) (ap (drop 1) e) in
    (split.0, one_unit u v split.1)

-- under one mark a text is written of one whole, one fraction and one unit at most
pub one_way : (mark : ℕ) → Mark mark → (p q : Parts) → Fit p → Fit q → text_of mark p ≡ text_of mark q → p ≡ q
one_way mark m p q a b e =
    let split =
    apart p.whole (marked_fraction mark p.fraction ++ unit_text p.unit) q.whole (marked_fraction mark q.fraction ++ unit_text q.unit) a.whole_digits b.whole_digits
    (tail_ends mark m p.fraction p.unit) (tail_ends mark m q.fraction q.unit) e in
    let rest = one_tail mark m p.fraction q.fraction p.unit q.unit a.fraction_digits b.fraction_digits split.1 in
    λ i. record { whole = split.0 i; fraction = rest.0 i; unit = rest.1 i }

-- ---- Two marks

module _ (a b : ℕ) (ma : Mark a) (mb : Mark b) (differ : a ≡ b → ⊥) where
  -- a text with one mark is no pause under the other
  pub with_mark : (p : Parts) → Fit p → 1 ≤ length p.fraction → read_pause b (text_of a p) ≡ none
  with_mark p fit some-digits = written_goes b a ma p fit ∙ go p.fraction some-digits
    where
      go : (f : Bytes) → 1 ≤ length f → after_whole b p.whole (marked_fraction a f ++ unit_text p.unit) ≡ none
      go [] q = absurd (omega arith)
      go (d ∷ f) q =
          unmarked b p.whole (a ∷ d ∷ f ++ unit_text p.unit) differ
          ∙ ap (times (thousandths p.whole [])) (no_unit (a ∷ d ∷ f ++ unit_text p.unit) ma.no_space)

  -- one without a mark is the same under both
  pub without_mark : (p : Parts) → Fit p → p.fraction ≡ [] → read_pause b (text_of a p) ≡ read_pause a (text_of a p)
  without_mark p fit e =
      written_goes b a ma p fit
      ∙ ap (λ (f : Bytes). after_whole b p.whole (marked_fraction a f ++ unit_text p.unit)) e
      ∙ plain_goes b mb p.whole p.unit
      ∙ sym (plain_goes a ma p.whole p.unit)
      ∙ sym (ap (λ (f : Bytes). after_whole a p.whole (marked_fraction a f ++ unit_text p.unit)) e)
      ∙ sym (written_goes a a ma p fit)

  -- no text is a pause under both with different values
  pub never_two_values : (text : Bytes) (m n : ℕ) → read_pause a text ≡ some m → read_pause b text ≡ some n → m ≡ n
  never_two_values text m n p q =
      let r = read_parts a ma text m p in
      go r.parts.fraction r.parts refl r.fit r.text_is
    where
      go : (f : Bytes) (p' : Parts) → p'.fraction ≡ f → Fit p' → text_of a p' ≡ text → m ≡ n
      go [] p' e fit is =
          let both : some m ≡ some n = sym p ∙ ap (read_pause a) (sym is) ∙ sym (without_mark p' fit e) ∙ ap (read_pause b) is ∙ q in
          cc
      go (d ∷ f) p' e fit is =
          let none_here : none ≡ some n = sym (with_mark p' fit (omega (arith, ap length e))) ∙ ap (read_pause b) is ∙ q in
          cc

-- ---- Bounds

digits_append : (X Y : Bytes) → AllDigits X → AllDigits Y → AllDigits (X ++ Y)
digits_append [] Y p q = q
digits_append (b ∷ X) Y p q = (p.0, digits_append X Y p.1 q)

zeros_digits : (n : ℕ) → AllDigits (replicate n 0x30)
zeros_digits zero = tt
zeros_digits (suc n) = (refl, zeros_digits n)

thousandths_below : (p : Parts) → Fit p → thousandths p.whole p.fraction < 1000000000000
unfolding thousandths
thousandths_below p fit =
    let w = p.whole in
    let f = p.fraction in
    let z : Bytes = replicate (3 - length f) 0x30 in
    let long : length (w ++ f ++ z) ≤ 12 = omega (arith, length-append (w ++ f) z, length-append w f, length-replicate {A = ℕ} (3 - length f) 0x30, fit.most, fit.few) in
    let all = digits_append (w ++ f) z (digits_append w f fit.whole_digits fit.fraction_digits) (zeros_digits (3 - length f)) in
    omega (arith, decimal_below 0 (w ++ f ++ z) all, mul-le-mul_left 1 (pow-le-pow_right {n = 10} (omega arith) long))

unit_length : (u : TimeUnit) → length (unit_text u) ≤ 3
unit_length milliseconds = omega arith
unit_length seconds = omega arith

fraction_length : (mark : ℕ) (f : Bytes) → length f ≤ 3 → length (marked_fraction mark f) ≤ 4
fraction_length mark [] p = omega arith
fraction_length mark (d ∷ f) p = omega arith

module _ (mark : ℕ) (m : Mark mark) (text : Bytes) (n : ℕ) (reads : read_pause mark text ≡ some n) where
  pub most_microseconds_lem : n ≤ 999999999999000
  most_microseconds_lem = let r = read_parts mark m text n reads in go r.parts.unit r.parts refl r.fit r.value_is
    where
      go : (u : TimeUnit) (p : Parts) → p.unit ≡ u → Fit p → microseconds_of p ≡ n → n ≤ 999999999999000
      go milliseconds p e fit is = omega (arith, is, ap (λ (v : TimeUnit). thousandths p.whole p.fraction * in_thousandth v) e, thousandths_below p fit)
      go seconds p e fit is = omega (arith, is, ap (λ (v : TimeUnit). thousandths p.whole p.fraction * in_thousandth v) e, thousandths_below p fit)

  pub most_bytes : length text ≤ 16
  most_bytes =
      let r = read_parts mark m text n reads in
      let p = r.parts in
      let f = marked_fraction mark p.fraction in
      let u = unit_text p.unit in
      omega
      (arith, ap length r.text_is, length-append p.whole (f ++ u), length-append f u, r.fit.most, fraction_length mark p.fraction r.fit.few, unit_length p.unit)
