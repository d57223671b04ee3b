-- Lists of records that are within the layout of a day file.
use Rattle.std.specs.Prelude.{Bool, ◌&&◌, List, ℕ, eqb, length}
use Rattle.paper.specs.Strings.{Bytes}
use Rattle.paper.specs.DayFile.{present, records_of}

-- the three lists are of one length, and the records within the layout
abbrev pub records_right : ℕ → List ℕ → List ℕ → List ℕ → Bytes → Bool
records_right headers hs ts ns X = eqb (length hs) (length ns) && eqb (length ts) (length ns) && present (records_of headers hs ts ns X)
