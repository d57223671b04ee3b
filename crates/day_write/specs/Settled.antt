-- What the writer of a day file settles, by the lists that it is handed.
use Rattle.std.proofs.Math.Option.{Option, none, some}
use Rattle.std.specs.Prelude.{ℕ, Result, Ok, Err, ◌+◌, ◌*◌, ltb, length, if◌then◌else◌}
use Rattle.paper.specs.DayFile.{Day, write_day, longest_file}
use Rattle.answer.specs.declared.Refusal.{Refusal}
use Rattle.answer.specs.declared.Refusal.TheVariants.{TooLong, NoRoom, NoRecord}

-- the file's length: three counts, two bytes for each header, and eleven for each record, four of them in the index
abbrev pub size_of : ℕ → ℕ → ℕ → ℕ → ℕ
size_of headers headerBytes records sealed = 12 + 2 * headers + headerBytes + 11 * records + sealed

-- the answer for a room of so many bytes: the file's length, or why it is refused
abbrev pub settled_for : Option Day → ℕ → Result ℕ Refusal
settled_for none room = Err NoRecord
settled_for (some day) room =
    if ltb longest_file (length (write_day day)) then Err TooLong
    else if ltb room (length (write_day day)) then Err NoRoom
    else Ok (length (write_day day))
