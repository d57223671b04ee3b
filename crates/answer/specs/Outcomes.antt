-- What an answer stands for in document 01: the length of what was written, or a refusal.
use Rattle.std.specs.Prelude.{ℕ, Result, Ok, Err}
use Rattle.paper.specs.Strings.{Bytes}
use Rattle.paper.specs.Document01.{Outcome, OutcomeAt}
use Rattle.answer.specs.declared.Refusal.{Refusal}
use Rattle.answer.specs.declared.Refusal.TheVariants.{KeyLength, LongStretch, BadHeader, TooLong, ShortSealed, NoRoom, DoesNotOpen, LongItem, NoRecord, NoLocale, NoPause, BadList}

-- the number of a refusal
abbrev pub number_of : Refusal → ℕ
number_of KeyLength = 1
number_of LongStretch = 2
number_of (BadHeader bad) = 3
number_of TooLong = 4
number_of ShortSealed = 5
number_of NoRoom = 6
number_of DoesNotOpen = 7
number_of LongItem = 8
number_of NoRecord = 9
number_of NoLocale = 15
number_of NoPause = 16
number_of BadList = 17

-- beside 3 the number of the header's bad entry, and beside every other 0
abbrev pub place_of : Refusal → ℕ
place_of KeyLength = 0
place_of LongStretch = 0
place_of (BadHeader bad) = bad.0
place_of TooLong = 0
place_of ShortSealed = 0
place_of NoRoom = 0
place_of DoesNotOpen = 0
place_of LongItem = 0
place_of NoRecord = 0
place_of NoLocale = 0
place_of NoPause = 0
place_of BadList = 0

-- the number of an answer: 0 where nothing is refused
abbrev pub number_in : {A : Type 0} → Result A Refusal → ℕ
number_in (Ok n) = 0
number_in (Err r) = number_of r

abbrev pub place_in : {A : Type 0} → Result A Refusal → ℕ
place_in (Ok n) = 0
place_in (Err r) = place_of r

-- the length of an answer: 0 beside a refusal
abbrev pub size_in : Result ℕ Refusal → ℕ
size_in (Ok n) = n
size_in (Err r) = 0

abbrev pub outcome : Result ℕ Refusal → Bytes → Outcome
outcome r out = record { number = number_in r; size = size_in r; output = out }

-- an answer in numbers, and beside 3 the number of the header's bad entry
pub record AnswerAt : Type 0 where
  pub number : ℕ
  pub length : ℕ
  pub place : ℕ

abbrev pub answer_at : Result ℕ Refusal → AnswerAt
answer_at r = record { number = number_in r; length = size_in r; place = place_in r }

abbrev pub outcome_of : AnswerAt → Bytes → OutcomeAt
outcome_of r out = record { number = r.number; place = r.place; size = r.length; output = out }

abbrev pub outcome_at : Result ℕ Refusal → Bytes → OutcomeAt
outcome_at r out = outcome_of (answer_at r) out
