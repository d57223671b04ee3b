-- `sixteen::shift_and_mix`: the rows turned and mixed.
use Rattle.std.proofs.Common.{◌≡◌, ℕ, List, map, get_or, Fits, w64, ap, ◌∙◌, rules}
use Rattle.planes.specs.Planes.{plane_block, up_to}
use Rattle.rows.specs.Rows.{turned_row, mixed_row}
use Rattle.sixteen.specs.Groups.{of_rows}
use Rattle.sixteen.proofs.Steps.{mixed_group, shifted_mixed}
use Rattle.sixteen.proofs.shift_and_mix.Goals as goal

pub returns : goal.returns
returns c =
    let q = c.args.q in
    let a = c.row-a.ensures in
    let b = c.turned-b.ensures ∙ ap (λ (l : List ℕ). turned_row l 16) c.row.ensures in
    let d = c.turned-c.ensures ∙ ap (λ (l : List ℕ). turned_row l 32) c.row-2.ensures in
    let e = c.turned-d.ensures ∙ ap (λ (l : List ℕ). turned_row l 48) c.row-3.ensures in
    let m0 = c.mixed.ensures ∙ (λ i. mixed_row (a i) (b i) (d i) (e i)) in
    let m1 = c.mixed-2.ensures ∙ (λ i. mixed_row (b i) (d i) (e i) (a i)) in
    let m2 = c.mixed-3.ensures ∙ (λ i. mixed_row (d i) (e i) (a i) (b i)) in
    let m3 = c.mixed-4.ensures ∙ (λ i. mixed_row (e i) (a i) (b i) (d i)) in
    let all : c.of_rows.result ≡ mixed_group q = c.of_rows.ensures ∙ (λ i. of_rows (m0 i) (m1 i) (m2 i) (m3 i)) in
    let fits : (i : ℕ) → Fits w64 (get_or q i 0) = search rules in
    ap (λ (r : List ℕ). map (plane_block r) (up_to 16)) all ∙ shifted_mixed q (λ i. (fits i).fits)
