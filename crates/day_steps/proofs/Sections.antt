-- A walk over the headers: what the definition reads is the headers passed, and what it reads of the rest.
use mathlib.Core.List.{List, [], ◌∷◌, ◌++◌, append_assoc}
use mathlib.Core.Option.{Option, none, some}
use Rattle.std.specs.Prelude.{Some, None}
use mathlib.Core.Path.{◌≡◌, refl, ap, sym, ◌∙◌}
use Prim.Native.Nat.{ℕ, suc, ◌-◌, ◌≤◌, ◌<◌}
use native.Mathlib.Omega.{arith}
use lib.ListN.{take, drop}
use Rattle.paper.specs.Strings.{Bytes}
use Rattle.paper.specs.DayFile.{before, read_headers}
use Rattle.header.specs.declared.Place.{Place}
use Rattle.day_steps.specs.Walks.{HeaderStep}

-- the headers passed, in front of what is read of the rest
abbrev pub ahead : List Bytes → Option (List Bytes × Bytes) → Option (List Bytes × Bytes)
ahead ps none = none
ahead ps (some (hs, rest)) = some (ps ++ hs, rest)

ahead_one : (ps : List Bytes) (h : Bytes) (o : Option (List Bytes × Bytes)) → ahead ps (before h o) ≡ ahead (ps ++ h ∷ []) o
ahead_one ps h none = refl
ahead_one ps h (some (hs, rest)) = ap (λ (l : List Bytes). some (l, rest)) (sym (append_assoc ps (h ∷ []) hs))

-- where headers are left, their count is one more than another
pub one_left : (left : ℕ) → 0 < left → left ≡ suc (left - 1)
one_left left p = omega arith

module _ (f : Bytes) (left at : ℕ) (some_left : 0 < left) (ps : List Bytes) where
  -- a header that reads
  pub headers_turn : (p : Place) → HeaderStep (Some p) f at
      → ahead ps (read_headers left (drop at f)) ≡ ahead (ps ++ take (p.end - p.start) (drop p.start f) ∷ []) (read_headers (left - 1) (drop p.end f))
  headers_turn p s =
      ap (λ (n : ℕ). ahead ps (read_headers n (drop at f))) (one_left left some_left)
      ∙ ap (ahead ps) (s.2 (left - 1))
      ∙ ahead_one ps (take (p.end - p.start) (drop p.start f)) (read_headers (left - 1) (drop p.end f))

  -- one that does not
  pub headers_stop : HeaderStep None f at → ahead ps (read_headers left (drop at f)) ≡ none
  headers_stop s = ap (λ (n : ℕ). ahead ps (read_headers n (drop at f))) (one_left left some_left) ∙ ap (ahead ps) (s (left - 1))

-- after the last header
pub headers_last : (f : Bytes) (left at : ℕ) (ps : List Bytes) → left ≤ 0 → ahead ps (read_headers left (drop at f)) ≡ some (ps ++ [], drop at f)
unfolding read_headers
headers_last f left at ps p = let last : left ≡ 0 = omega arith in ap (λ (n : ℕ). ahead ps (read_headers n (drop at f))) last
