-- What an append settles before it writes.
use Rattle.std.specs.Prelude.{ℕ, ◌+◌, ltb, length, if◌then◌else◌}
use Rattle.paper.specs.Strings.{Bytes}
use Rattle.paper.specs.DayFile.{longest_file}

-- the length of a file, or 65,537 where it is longer than a file may be
abbrev pub capped : ℕ → ℕ
capped n = if ltb longest_file n then 65537 else n

-- the bytes that a new header takes, where there are so many headers
abbrev pub taken : ℕ → Bytes → ℕ → ℕ
taken number header headers = if ltb number headers then 0 else 2 + length header
