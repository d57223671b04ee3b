-- Byte i has the half-bytes at 2i and 2i + 1 of those that are cut out.
use Rattle.std.proofs.Common.{◌≡◌, ℕ, ◌+◌, ◌*◌, ◌≤◌, ◌<◌, List, length, take, drop, get_or, refl, sym, ap₂, ◌∙◌, rules, arith}
use Rattle.std.proofs.Math.ListN.{length-drop}
use lib.Seq.{length-take-le, get_or-take, get_or-drop}
use Rattle.paper.specs.Strings.{tab}
use Rattle.laws.proofs.Made.{made_tab}
use Rattle.laws.proofs.Tables.{tab_entries}
use Rattle.laws.proofs.WordBits.{tab_same}
use Rattle.halves.specs.HalfBytes.{half_bytes, byte_of, whole_bytes}
use Rattle.halves.proofs.ByteHalves.{length_half_bytes, whole_bytes_digits, whole_bytes_at}
use Rattle.halves.proofs.part.Goals as goal

-- 32 half-bytes of H from a place on
abbrev cut : ℕ → List ℕ → List ℕ
cut at H = take 32 (drop at H)

module _ (at : ℕ) (H : List ℕ) (in-H : at + 32 ≤ length H) where
  cut_long : length (cut at H) ≡ 32
  cut_long = length-take-le 32 (drop at H) (omega (arith, length-drop at H))

  byte_at_lem : (i : ℕ) → i < 16 → byte_of (get_or H (at + 2 * i) 0) (get_or H (at + (2 * i + 1)) 0) ≡ get_or (whole_bytes (cut at H)) i 0
  byte_at_lem i h =
      sym
      (whole_bytes_at (cut at H) i (omega (arith, cut_long))
      ∙ ap₂ byte_of
      (get_or-take 32 (drop at H) (2 * i) 0 (omega arith) ∙ get_or-drop at H (2 * i) 0)
      (get_or-take 32 (drop at H) (2 * i + 1) 0 (omega arith) ∙ get_or-drop at H (2 * i + 1) 0))

  bytes_tab : tab 16 (λ i. byte_of (get_or H (at + 2 * i) 0) (get_or H (at + (2 * i + 1)) 0)) ≡ whole_bytes (cut at H)
  bytes_tab =
      tab_same 0 16 (λ i. byte_of (get_or H (at + 2 * i) 0) (get_or H (at + (2 * i + 1)) 0)) (λ i. get_or (whole_bytes (cut at H)) i 0)
      (λ i h. byte_at_lem i (omega arith))
      ∙ sym (tab_entries 16 (whole_bytes (cut at H)) (whole_bytes_digits 16 (cut at H) cut_long).len)

pub returns : goal.returns
returns c =
    let s = c.args.s.now in
    let at = c.args.at in
    let H = half_bytes s in
    let reach : at + 32 ≤ length H = omega (arith, length_half_bytes s) in
    made_tab (λ f. (f.0.now ≡ s) × (f.1.now ≡ at)) (λ i. byte_of (get_or H (at + 2 * i) 0) (get_or H (at + (2 * i + 1)) 0)) (λ f t i y h k called. (search rules, search rules)) (refl {a = s}, refl {a = at}) c.from_fn.ensures.items
    ∙ bytes_tab at H reach
