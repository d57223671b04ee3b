-- What is answered for a text under a header, as the definition has it.
use Rattle.std.specs.Prelude.{ℕ, Result}
use Rattle.paper.specs.Pause.{Pause}
use Rattle.answer.specs.declared.Refusal.{Refusal}
use Rattle.answer.specs.Outcomes.{number_in, size_in}

-- the number, and the microseconds, or 0 beside a refusal
abbrev pub field_of : Result ℕ Refusal → Pause
field_of r = record { number = number_in r; microseconds = size_in r }
