-- The loops over 32 words in place: after i turns the words whose turn was among these are new, and the others old. What a turn does is
-- computed for each.
use mathlib.Core.List.{List}
use mathlib.Core.Path.{◌≡◌, refl, ap, sym, ◌∙◌}
use Prim.Native.Nat.{ℕ, zero, suc, ◌+◌, ◌*◌, ◌/◌, ◌%◌, ◌<◌}
use native.Mathlib.Omega.{arith}
use lib.Dec.{ltb}
use native.Mathlib.Numerals.{add-one}
use lib.ListN.{length, get_or, set}
use Rattle.std.specs.Prelude.{if◌then◌else◌}
use Rattle.paper.specs.Strings.{tab}
use Rattle.laws.proofs.Tables.{tab_entries}
use Rattle.levels.specs.Levels.{leveled, near, far}

-- word k has its turn after `turn k` others
abbrev after : (ℕ → ℕ) → List ℕ → List ℕ → ℕ → List ℕ
after turn new old i = tab 32 (λ k. get_or (if ltb (turn k) i then new else old) k 0)

-- the words v with the first p of y stored, each in its place
abbrev pub with_first : List ℕ → (ℕ → ℕ) → List ℕ → ℕ → List ℕ
with_first v place y zero = v
with_first v place y (suc p) = set (with_first v place y p) (place p) (get_or y p 0)

pub first_more : (v y : List ℕ) (place : ℕ → ℕ) (p : ℕ) → set (with_first v place y p) (place p) (get_or y p 0) ≡ with_first v place y (p + 1)
first_more v y place p = ap (with_first v place y) (sym (add-one p))

-- ---- four neighbours in a turn

unfoldable pub near_after : List ℕ → ℕ → List ℕ
near_after w i = after (λ k. k / 4) (near 32 w) w i

pub near_none : (w : List ℕ) → length w ≡ 32 → w ≡ near_after w 0
unfolding near_after
near_none w long = tab_entries 32 w long

pub near_all : (w : List ℕ) → near_after w 8 ≡ near 32 w
unfolding near_after leveled
near_all w = refl

-- the four words of turn i, and where they stand
abbrev pub four : List ℕ → ℕ → List ℕ
four v i = tab 4 (λ p. get_or v (4 * i + p) 0)

abbrev pub four_place : ℕ → ℕ → ℕ
four_place i p = 4 * i + p

near_turn : (w : List ℕ) (i : ℕ) → i < 8 → with_first (near_after w i) (four_place i) (near 4 (four (near_after w i) i)) 4 ≡ near_after w (i + 1)
unfolding near_after leveled
near_turn w zero h = refl
near_turn w (suc zero) h = refl
near_turn w (suc (suc zero)) h = refl
near_turn w (suc (suc (suc zero))) h = refl
near_turn w (suc (suc (suc (suc zero)))) h = refl
near_turn w (suc (suc (suc (suc (suc zero))))) h = refl
near_turn w (suc (suc (suc (suc (suc (suc zero)))))) h = refl
near_turn w (suc (suc (suc (suc (suc (suc (suc zero))))))) h = refl
near_turn w (suc (suc (suc (suc (suc (suc (suc (suc i)))))))) h = absurd (omega arith)

pub near_more : (w v x y : List ℕ) (i : ℕ) → i < 8 → v ≡ near_after w i → x ≡ four v i → y ≡ near 4 x → with_first v (four_place i) y 4 ≡ near_after w (i + 1)
near_more w v x y i h is-v is_x is_y =
    ap (λ (z : List ℕ). with_first v (four_place i) z 4) (is_y ∙ ap (near 4) is_x)
    ∙ ap (λ (u : List ℕ). with_first u (four_place i) (near 4 (four u i)) 4) is-v
    ∙ near_turn w i h

-- ---- eight words that stand 4 apart in a turn

unfoldable pub far_after : List ℕ → ℕ → List ℕ
far_after w i = after (λ k. k % 4) (far 32 4 w) w i

pub far_none : (w : List ℕ) → length w ≡ 32 → w ≡ far_after w 0
unfolding far_after
far_none w long = tab_entries 32 w long

pub far_all : (w : List ℕ) → far_after w 4 ≡ far 32 4 w
unfolding far_after leveled
far_all w = refl

-- the eight words of turn i, and where they stand
abbrev pub eight : List ℕ → ℕ → List ℕ
eight v i = tab 8 (λ p. get_or v (i + 4 * p) 0)

abbrev pub eight_place : ℕ → ℕ → ℕ
eight_place i p = i + 4 * p

far_turn : (w : List ℕ) (i : ℕ) → i < 4 → with_first (far_after w i) (eight_place i) (far 8 1 (eight (far_after w i) i)) 8 ≡ far_after w (i + 1)
unfolding far_after leveled
far_turn w zero h = refl
far_turn w (suc zero) h = refl
far_turn w (suc (suc zero)) h = refl
far_turn w (suc (suc (suc zero))) h = refl
far_turn w (suc (suc (suc (suc i)))) h = absurd (omega arith)

pub far_more : (w v x y : List ℕ) (i : ℕ) → i < 4 → v ≡ far_after w i → x ≡ eight v i → y ≡ far 8 1 x → with_first v (eight_place i) y 8 ≡ far_after w (i + 1)
far_more w v x y i h is-v is_x is_y =
    ap (λ (z : List ℕ). with_first v (eight_place i) z 8) (is_y ∙ ap (far 8 1) is_x)
    ∙ ap (λ (u : List ℕ). with_first u (eight_place i) (far 8 1 (eight u i)) 8) is-v
    ∙ far_turn w i h
