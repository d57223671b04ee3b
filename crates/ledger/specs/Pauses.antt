-- What the functions of the ledger answer, by the definitions.
use Rattle.std.specs.Prelude.{List, [], ℕ, eqb, get_or, if◌then◌else◌, Option, None, Some}
use Rattle.std.proofs.Math.Option as maybe
use Rattle.paper.specs.Strings.{Bytes}
use Rattle.paper.specs.DayFile.{Day}
use Rattle.paper.specs.Pause.{Pause, no_pause}
use Rattle.paper.specs.Ledger.{pauses_of, read_count, refused_count, sum_of, longest_of}
use Rattle.mean.specs.declared.Totals.{Totals}

-- a pause that was read, and any refusal
abbrev pub taken_as : Pause → Option ℕ
taken_as p = if eqb p.number 0 then Some p.microseconds else None

-- the pauses of a file: none where it does not read
abbrev pub pauses_in : Bytes → maybe.Option Day → List Pause
pauses_in key maybe.none = []
pauses_in key (maybe.some day) = pauses_of key day

-- the pause of record k
abbrev pub pause_at : Bytes → maybe.Option Day → ℕ → Pause
pause_at key o k = get_or (pauses_in key o) k (no_pause 9)

abbrev pub totals_of : List Pause → Totals
totals_of ps = record { read = read_count ps; refused = refused_count ps; sum = sum_of ps; longest = longest_of ps }
