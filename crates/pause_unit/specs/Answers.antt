-- What the functions on the text of a pause answer, by what the definitions give.
use Rattle.std.proofs.Math.Option as maybe
use Rattle.std.specs.Prelude.{ℕ, Option, None, Some}

-- the number that a definition gives, if it gives one
abbrev pub read_as : maybe.Option ℕ → Option ℕ
read_as maybe.none = None
read_as (maybe.some n) = Some n
