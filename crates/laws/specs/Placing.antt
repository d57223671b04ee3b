-- What a part of a buffer is replaced by, as contracts say it.
use Rattle.std.specs.Prelude.{List, ◌++◌, ℕ, ◌+◌, length, take, drop}

-- out with w at a place, and every other entry as it was
abbrev pub placed : ℕ → List ℕ → List ℕ → List ℕ
placed at w out = take at out ++ w ++ drop (at + length w) out
