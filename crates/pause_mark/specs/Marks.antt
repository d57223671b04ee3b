-- What is answered for a header, by its locale.
use Rattle.std.specs.Prelude.{ℕ, Result, Err}
use Rattle.std.specs.Option.{ok_or}
use Rattle.std.proofs.Math.Option.{Option}
use Rattle.paper.specs.Document01.{Read, as_strings, bad_entry}
use Rattle.paper.specs.Pause.{header_mark}
use Rattle.answer.specs.declared.Refusal.{Refusal}
use Rattle.answer.specs.declared.Refusal.TheVariants.{BadHeader, NoLocale}
use Rattle.pause_unit.specs.Answers.{read_as}

-- the locale, then the mark
abbrev pub known_as : Option ℕ → Result ℕ Refusal
known_as mark = ok_or (read_as mark) NoLocale

-- the header, then the locale
abbrev pub mark_as : Read → Result ℕ Refusal
mark_as (bad_entry k) = Err (BadHeader (record { 0 = k }))
mark_as (as_strings strings) = known_as (header_mark strings)
