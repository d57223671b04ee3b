-- Request E12, the pause: the locale of a header and its decimal mark, which text is a pause, and how many microseconds it is.
-- Bytes are ASCII: 30 to 39 are the digits, 2c is the comma, 2e the point, 20 the space.
use Rattle.std.specs.Prelude.{Bool, ◌&&◌, List, [], ◌∷◌, ◌++◌, ℕ, suc, ◌+◌, ◌-◌, ◌*◌, eqb, leb, length, get_or, take, drop, replicate, if◌then◌else◌}
use Rattle.std.proofs.Math.Option.{Option, none, some}
use Rattle.paper.specs.Strings.{Bytes, same}
use Rattle.paper.specs.Document01.{read_header}

-- ---- The decimal mark

abbrev pub comma : ℕ
comma = 0x2c

abbrev pub point : ℕ
point = 0x2e

-- a locale and its mark
pub record Locale : Type 0 where
  pub name : Bytes
  pub mark : ℕ

-- comma for de, fr and it; point for en
abbrev pub locales : List Locale
locales =
    record { name = 0x64 ∷ 0x65 ∷ []; mark = comma }
    ∷ record { name = 0x66 ∷ 0x72 ∷ []; mark = comma }
    ∷ record { name = 0x69 ∷ 0x74 ∷ []; mark = comma }
    ∷ record { name = 0x65 ∷ 0x6e ∷ []; mark = point }
    ∷ []

-- none for a locale that is not in the table
abbrev pub mark_in : List Locale → Bytes → Option ℕ
mark_in [] name = none
mark_in (l ∷ ls) name = if same name l.name then some l.mark else mark_in ls name

unfoldable pub mark_of : Bytes → Option ℕ
mark_of name = mark_in locales name

-- the locale is the fourth of exactly four items, as E2 writes them: nonce, host, collector, locale
unfoldable pub header_mark : List Bytes → Option ℕ
header_mark [] = none
header_mark (nonce ∷ []) = none
header_mark (nonce ∷ host ∷ []) = none
header_mark (nonce ∷ host ∷ collector ∷ []) = none
header_mark (nonce ∷ host ∷ collector ∷ locale ∷ []) = mark_of locale
header_mark (nonce ∷ host ∷ collector ∷ locale ∷ s ∷ ss) = none

-- ---- The text

abbrev pub is_digit : ℕ → Bool
is_digit b = leb 0x30 b && leb b 0x39

-- how many digits a text starts with
unfoldable pub digits_first : Bytes → ℕ
digits_first [] = 0
digits_first (b ∷ X) = if is_digit b then suc (digits_first X) else 0

-- the number that n and then some digits represent
unfoldable pub decimal_after : ℕ → Bytes → ℕ
decimal_after n [] = n
decimal_after n (d ∷ X) = decimal_after (n * 10 + (d - 0x30)) X

-- a whole number and a fraction in thousandths: the fraction is filled with zeros on the right to three digits
unfoldable pub thousandths : Bytes → Bytes → ℕ
thousandths whole fraction = decimal_after 0 (whole ++ fraction ++ replicate (3 - length fraction) 0x30)

-- one space, then ms or s, and nothing after it: the microseconds in a thousandth of the unit
unfoldable pub unit_of : Bytes → Option ℕ
unit_of X =
    if same X (0x20 ∷ 0x6d ∷ 0x73 ∷ []) then some 1
    else if same X (0x20 ∷ 0x73 ∷ []) then some 1000
    else none

abbrev pub times : ℕ → Option ℕ → Option ℕ
times n none = none
times n (some m) = some (n * m)

-- what follows the mark: 1 to 3 digits and the unit
unfoldable pub after_mark : Bytes → Bytes → Option ℕ
after_mark whole X =
    let n = digits_first X in
    if leb 1 n && leb n 3 then times (thousandths whole (take n X)) (unit_of (drop n X)) else none

-- what follows the whole number: at most one mark, and the unit
unfoldable pub after_whole : ℕ → Bytes → Bytes → Option ℕ
after_whole mark whole X = if eqb (get_or X 0 0) mark then after_mark whole (drop 1 X) else times (thousandths whole []) (unit_of X)

-- the microseconds of a text under a mark: 1 to 9 digits, and what follows them. None where the text is no pause
unfoldable pub read_pause : ℕ → Bytes → Option ℕ
read_pause mark text =
    let n = digits_first text in
    if leb 1 n && leb n 9 then after_whole mark (take n text) (drop n text) else none

-- ---- What is answered

pub record Pause : Type 0 where
  pub number : ℕ
  pub microseconds : ℕ

abbrev pub no_pause : ℕ → Pause
no_pause n = record { number = n; microseconds = 0 }

-- 16, 0
abbrev pub pause_read : Option ℕ → Pause
pause_read none = no_pause 16
pause_read (some n) = record { number = 0; microseconds = n }

-- 15, then the text
abbrev pub pause_under : Option ℕ → Bytes → Pause
pause_under none text = no_pause 15
pause_under (some mark) text = pause_read (read_pause mark text)

-- 3, then the locale
abbrev pub pause_with : Option (List Bytes) → Bytes → Pause
pause_with none text = no_pause 3
pause_with (some strings) text = pause_under (header_mark strings) text

-- a text under a header: 3, 15, 16, 0
unfoldable pub pausing : Bytes → Bytes → Pause
pausing header text = pause_with (read_header header) text
