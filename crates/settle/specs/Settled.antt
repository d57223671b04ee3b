-- Answers 1 to 6 of document 01, by the lengths that they ask about: the first test that holds, or 0.
use Rattle.std.specs.Prelude.{Result, not, ℕ, ◌+◌, eqb, ltb, length, if◌then◌else◌}
use Rattle.paper.specs.Strings.{Bytes}
use Rattle.paper.specs.Document01.{Read, as_strings, bad_entry, reading, longest_sealed, longest_stretch}
use Rattle.answer.specs.declared.Refusal.{Refusal}
use Rattle.answer.specs.Outcomes.{number_in, place_in}

-- what the tests settle: a number, and beside it that of the header's bad entry
pub record Settled : Type 0 where
  pub number : ℕ
  pub at : ℕ

-- what an answer settles
abbrev pub settled_by : {A : Type 0} → Result A Refusal → Settled
settled_by r = record { number = number_in r; at = place_in r }

abbrev pub refusal : ℕ → ℕ → Settled
refusal n k = record { number = n; at = k }

-- 3, where a header does not read
abbrev pub unread : Read → Settled
unread (bad_entry k) = refusal 3 k
unread (as_strings strings) = refusal 0 0

-- 1, 2, 3
unfoldable pub settled_common : Bytes → Bytes → ℕ → Settled
settled_common key header stretch =
    if not (eqb (length key) 48) then refusal 1 0 else if ltb longest_stretch stretch then refusal 2 0 else unread (reading header)

-- the first of two whose number is not 0
abbrev pub first : Settled → Settled → Settled
first m n = if eqb m.number 0 then n else m

-- 1, 2, 3, 4, 6, for a text and an output of so many bytes
unfoldable pub settled_sealing : Bytes → Bytes → ℕ → ℕ → ℕ → Settled
settled_sealing key header stretch text room =
    first (settled_common key header stretch)
    (if ltb longest_sealed (text + stretch) then refusal 4 0 else if ltb room (text + stretch) then refusal 6 0 else refusal 0 0)

-- 1 to 6, for a sealed string and an output of so many bytes
unfoldable pub settled_opening : Bytes → Bytes → ℕ → ℕ → ℕ → Settled
settled_opening key header stretch sealed room =
    first (settled_common key header stretch)
    (if ltb longest_sealed sealed then refusal 4 0 else if ltb sealed stretch then refusal 5 0 else if ltb room sealed then refusal 6 0 else refusal 0 0)
