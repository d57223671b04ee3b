-- Bytes on bit planes: plane j is a word that has bit j of each byte.
use Rattle.std.specs.Prelude.{List, ℕ, get_or}
use Rattle.paper.specs.Strings.{tab}
use Rattle.paper.specs.Fips197.{bit}
use Rattle.laws.proofs.WordBits.{number}

-- the byte in lane k: its bit j is bit k of plane j
unfoldable pub lane : List ℕ → ℕ → ℕ
lane q k = number (tab 8 (λ j. bit (get_or q j 0) k))
