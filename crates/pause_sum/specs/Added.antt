-- What a pause adds to the totals.
use Rattle.std.specs.Prelude.{ℕ, ◌+◌, max, Option, None, Some}
use Rattle.mean.specs.declared.Totals.{Totals}

-- the totals with one more
abbrev pub added_to : Totals → Option ℕ → Totals
added_to t None = record t { refused = t.refused + 1 }
added_to t (Some n) = record t { read = t.read + 1; sum = t.sum + n; longest = max t.longest n }
