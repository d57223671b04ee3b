-- Request E12's examples, computed: texts under de and under en, and the lines of no record and of some.
use mathlib.Core.List.{[], ◌∷◌}
use mathlib.Core.Path.{◌≡◌, refl}
use Prim.Native.Nat.{ℕ}
use Rattle.paper.specs.Strings.{Bytes, same}
use Rattle.paper.specs.Document01.{read_strings, reading, read_header}
use Rattle.paper.specs.Pause.{Pause, no_pause, mark_of, header_mark, digits_first, decimal_after, thousandths, unit_of, after_mark, after_whole, read_pause, pausing}
use Rattle.paper.specs.Ledger.{read_count, refused_count, sum_of, longest_of, gcd_in, mean_over, mean_under, decimal_in, decimal, report_of, line_of}

-- ---- Texts

-- a header with a nonce, a host, no collector and a locale of two bytes
abbrev header : Bytes → Bytes
header locale = 0x04 ∷ 0x00 ∷ 0x01 ∷ 0x01 ∷ 0x00 ∷ 0x02 ∷ 0x6e ∷ 0x37 ∷ 0x00 ∷ 0x00 ∷ 0x00 ∷ 0x02 ∷ locale

abbrev de : Bytes
de = header (0x64 ∷ 0x65 ∷ [])

abbrev en : Bytes
en = header (0x65 ∷ 0x6e ∷ [])

abbrev read : ℕ → Pause
read n = record { number = 0; microseconds = n }

-- "1,204 s", "1,204 ms" and "1,2 ms" under de
pub comma_seconds : pausing de (0x31 ∷ 0x2c ∷ 0x32 ∷ 0x30 ∷ 0x34 ∷ 0x20 ∷ 0x73 ∷ []) ≡ read 1204000
unfolding pausing read_header reading read_strings header_mark mark_of same read_pause digits_first after_whole after_mark thousandths decimal_after unit_of
comma_seconds = refl

pub comma_milliseconds : pausing de (0x31 ∷ 0x2c ∷ 0x32 ∷ 0x30 ∷ 0x34 ∷ 0x20 ∷ 0x6d ∷ 0x73 ∷ []) ≡ read 1204
unfolding pausing read_header reading read_strings header_mark mark_of same read_pause digits_first after_whole after_mark thousandths decimal_after unit_of
comma_milliseconds = refl

pub filled_on_the_right : pausing de (0x31 ∷ 0x2c ∷ 0x32 ∷ 0x20 ∷ 0x6d ∷ 0x73 ∷ []) ≡ read 1200
unfolding pausing read_header reading read_strings header_mark mark_of same read_pause digits_first after_whole after_mark thousandths decimal_after unit_of
filled_on_the_right = refl

-- "1,204 s" under en, and "1.204 s" under de
pub comma_under_en : pausing en (0x31 ∷ 0x2c ∷ 0x32 ∷ 0x30 ∷ 0x34 ∷ 0x20 ∷ 0x73 ∷ []) ≡ no_pause 16
unfolding pausing read_header reading read_strings header_mark mark_of same read_pause digits_first after_whole after_mark thousandths decimal_after unit_of
comma_under_en = refl

pub point_under_de : pausing de (0x31 ∷ 0x2e ∷ 0x32 ∷ 0x30 ∷ 0x34 ∷ 0x20 ∷ 0x73 ∷ []) ≡ no_pause 16
unfolding pausing read_header reading read_strings header_mark mark_of same read_pause digits_first after_whole after_mark thousandths decimal_after unit_of
point_under_de = refl

-- "1.204 s" under en, and "7 s" under a locale "DE", whose bytes are not the table's
pub point_under_en : pausing en (0x31 ∷ 0x2e ∷ 0x32 ∷ 0x30 ∷ 0x34 ∷ 0x20 ∷ 0x73 ∷ []) ≡ read 1204000
unfolding pausing read_header reading read_strings header_mark mark_of same read_pause digits_first after_whole after_mark thousandths decimal_after unit_of
point_under_en = refl

pub upper_case : pausing (header (0x44 ∷ 0x45 ∷ [])) (0x37 ∷ 0x20 ∷ 0x73 ∷ []) ≡ no_pause 15
unfolding pausing read_header reading read_strings header_mark mark_of same
upper_case = refl

-- ---- Lines

-- "0 0 0 0 0/1" without records, and "0 2 0 0 0/1" where both were refused
pub no_records : line_of (report_of []) ≡ 0x30 ∷ 0x20 ∷ 0x30 ∷ 0x20 ∷ 0x30 ∷ 0x20 ∷ 0x30 ∷ 0x20 ∷ 0x30 ∷ 0x2f ∷ 0x31 ∷ 0x0a ∷ []
unfolding line_of report_of read_count refused_count sum_of longest_of mean_over mean_under decimal decimal_in
no_records = refl

pub all_refused : line_of (report_of (no_pause 7 ∷ no_pause 16 ∷ [])) ≡ 0x30 ∷ 0x20 ∷ 0x32 ∷ 0x20 ∷ 0x30 ∷ 0x20 ∷ 0x30 ∷ 0x20 ∷ 0x30 ∷ 0x2f ∷ 0x31 ∷ 0x0a ∷ []
unfolding line_of report_of read_count refused_count sum_of longest_of mean_over mean_under decimal decimal_in
all_refused = refl

-- pauses of 1,200 and 4 microseconds and a refusal: "2 1 1204 1200 602/1"
pub two_and_one : line_of (report_of (read 1200 ∷ no_pause 15 ∷ read 4 ∷ []))
    ≡ 0x32 ∷ 0x20 ∷ 0x31 ∷ 0x20 ∷ 0x31 ∷ 0x32 ∷ 0x30 ∷ 0x34 ∷ 0x20 ∷ 0x31 ∷ 0x32 ∷ 0x30 ∷ 0x30 ∷ 0x20 ∷ 0x36 ∷ 0x30 ∷ 0x32 ∷ 0x2f ∷ 0x31 ∷ 0x0a ∷ []
unfolding line_of report_of read_count refused_count sum_of longest_of gcd_in mean_over mean_under decimal decimal_in
two_and_one = refl

-- 1, 2 and 2 microseconds: the mean is 5/3
pub thirds : line_of (report_of (read 1 ∷ read 2 ∷ read 2 ∷ [])) ≡ 0x33 ∷ 0x20 ∷ 0x30 ∷ 0x20 ∷ 0x35 ∷ 0x20 ∷ 0x32 ∷ 0x20 ∷ 0x35 ∷ 0x2f ∷ 0x33 ∷ 0x0a ∷ []
unfolding line_of report_of read_count refused_count sum_of longest_of gcd_in mean_over mean_under decimal decimal_in
thirds = refl
