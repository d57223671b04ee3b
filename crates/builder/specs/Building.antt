-- What the builder of the log header answers.
use Rattle.std.specs.Prelude.{Bool, ◌||◌, ℕ, Result, Ok, Err, ltb, length, if◌then◌else◌}
use Rattle.paper.specs.Strings.{Bytes}
use Rattle.paper.specs.Document01.{longest_string, log_header}
use Rattle.answer.specs.declared.Refusal.{Refusal}
use Rattle.answer.specs.declared.Refusal.TheVariants.{NoRoom, LongItem}

-- an item is longer than a string may be
abbrev pub too_long : Bytes → Bytes → Bytes → Bytes → Bool
too_long nonce host collector locale =
    ltb longest_string (length nonce) || ltb longest_string (length host) || ltb longest_string (length collector) || ltb longest_string (length locale)

-- the answer for an output of so many bytes: the header's length, or 8, then 6
unfoldable pub settled_as : Bytes → Bytes → Bytes → Bytes → ℕ → Result ℕ Refusal
settled_as nonce host collector locale bytes =
    let size = length (log_header nonce host collector locale) in
    if too_long nonce host collector locale then Err LongItem else if ltb bytes size then Err NoRoom else Ok size
