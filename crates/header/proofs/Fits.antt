-- A header reads just where its strings are counted.
use mathlib.Core.Bool.{true, false}
use Rattle.std.specs.Prelude.{Ok, Err}
use mathlib.Core.Path.{◌≡◌, refl}
use Prim.Native.Nat.{ℕ}
use Rattle.paper.specs.Document01.{Read, as_strings, bad_entry, reading, strings_of, read_header}
use Rattle.paper.specs.Strings.{Bytes}
use Rattle.paper.specs.DayFile.{header_fits, present}
use Rattle.answer.specs.declared.BadEntry.{BadEntry}
use Rattle.header.specs.Places.{read_as}

reads : (r : Read) (n : ℕ) → Ok n ≡ read_as r → present (strings_of r) ≡ true
reads (bad_entry j) n e = cc
reads (as_strings ss) n e = refl

bad : (r : Read) (k : BadEntry) → Err k ≡ read_as r → present (strings_of r) ≡ false
bad (bad_entry j) k e = refl
bad (as_strings ss) k e = cc

pub reads_fits : (h : Bytes) (n : ℕ) → Ok n ≡ read_as (reading h) → header_fits h ≡ true
unfolding read_header
reads_fits h = reads (reading h)

pub bad_fits : (h : Bytes) (k : BadEntry) → Err k ≡ read_as (reading h) → header_fits h ≡ false
unfolding read_header
bad_fits h = bad (reading h)
