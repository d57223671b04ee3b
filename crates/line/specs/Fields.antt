-- A field of a report's line.
use Rattle.std.specs.Prelude.{[], ◌∷◌, ◌++◌, ℕ}
use Rattle.paper.specs.Strings.{Bytes}
use Rattle.paper.specs.Ledger.{decimal}

-- a number in decimal, and a byte after it
abbrev pub decimal_then : ℕ → ℕ → Bytes
decimal_then n after = decimal n ++ after ∷ []
