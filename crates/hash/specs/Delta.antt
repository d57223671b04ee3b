-- Δ of a stretch in bits and of what a header reads as.
use Rattle.std.specs.Prelude.{List, ◌∷◌, ℕ}
use Rattle.std.proofs.Math.Option.{Option, none, some}
use Rattle.paper.specs.Strings.{Bytes, number}
use Rattle.paper.specs.Section7.{zeros}
use Rattle.paper.specs.Figure6.{BlockFunction, AEZ_hash}

abbrev pub delta_of : BlockFunction → ℕ → Option (List Bytes) → Bytes
delta_of f τ none = zeros
delta_of f τ (some strings) = AEZ_hash f (number τ ∷ strings)
