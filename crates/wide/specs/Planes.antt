-- The keys on planes of a string.
use Rattle.std.specs.Prelude.{List, ℕ, ltb, replicate, if◌then◌else◌}
use Rattle.paper.specs.Figure6.{Key}
use Rattle.groups.specs.Groups.{keys_of}

-- the keys on planes where a string of n bytes has pairs for a group, and zeros where it has not
abbrev pub keys_for : ℕ → Key → List (List ℕ)
keys_for n K = if ltb n 160 then replicate 4 (replicate 32 0) else keys_of K
