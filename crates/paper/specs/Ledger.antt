-- Request E12, the report of a day file: each figure over the list of its records, and the line.
use Rattle.std.specs.Prelude.{not, List, [], ◌∷◌, ◌++◌, map, ℕ, zero, suc, ◌+◌, ◌/◌, ◌%◌, max, eqb, ltb, length, take, replicate, if◌then◌else◌}
use Rattle.std.proofs.Math.Option.{Option, none, some}
use Rattle.paper.specs.Strings.{Bytes}
use Rattle.paper.specs.Document01.{Outcome, refused, done, opening}
use Rattle.paper.specs.DayFile.{Record, Day, header_of, read_day}
use Rattle.paper.specs.Pause.{Pause, no_pause, pausing}

-- ---- A record

-- a sealed string under a header: 01's number where it does not open, over an output of just its length; else what the opened text is
unfoldable pub opened_pause : Bytes → Bytes → ℕ → Bytes → Pause
opened_pause key header stretch sealed =
    let o = opening key header stretch sealed (replicate (length sealed) 0) in
    if eqb o.number 0 then pausing header (take o.size o.output) else no_pause o.number

abbrev pub pause_of : Bytes → Day → Record → Pause
pause_of key day r = opened_pause key (header_of day r) r.stretch r.sealed

unfoldable pub pauses_of : Bytes → Day → List Pause
pauses_of key day = map (pause_of key day) day.records

-- ---- Each figure over the list of the records

-- the records read: those with number 0
unfoldable pub read_count : List Pause → ℕ
read_count [] = 0
read_count (p ∷ ps) = if eqb p.number 0 then suc (read_count ps) else read_count ps

-- the records refused: all others
unfoldable pub refused_count : List Pause → ℕ
refused_count [] = 0
refused_count (p ∷ ps) = if eqb p.number 0 then refused_count ps else suc (refused_count ps)

-- the sum of the pauses read
unfoldable pub sum_of : List Pause → ℕ
sum_of [] = 0
sum_of (p ∷ ps) = if eqb p.number 0 then p.microseconds + sum_of ps else sum_of ps

-- the longest of them, and 0 where there is none
unfoldable pub longest_of : List Pause → ℕ
longest_of [] = 0
longest_of (p ∷ ps) = if eqb p.number 0 then max p.microseconds (longest_of ps) else longest_of ps

-- the greatest common divisor, by Euclid, in at most so many steps
unfoldable pub gcd_in : ℕ → ℕ → ℕ → ℕ
gcd_in zero a b = a
gcd_in (suc n) a b = if eqb b 0 then a else gcd_in n b (a % b)

-- b falls with each step
abbrev pub gcd : ℕ → ℕ → ℕ
gcd a b = gcd_in b a b

-- a sum over a count in lowest terms, and 0/1 over none
unfoldable pub mean_over : ℕ → ℕ → ℕ
mean_over sum count = if eqb count 0 then 0 else sum / gcd sum count

unfoldable pub mean_under : ℕ → ℕ → ℕ
mean_under sum count = if eqb count 0 then 1 else count / gcd sum count

-- ---- The line

-- n in decimal digits, at most so many, without leading zeros
unfoldable pub decimal_in : ℕ → ℕ → Bytes
decimal_in zero n = []
decimal_in (suc t) n = if ltb n 10 then (0x30 + n) ∷ [] else decimal_in t (n / 10) ++ (0x30 + n % 10) ∷ []

-- n has at most n + 1 digits
unfoldable pub decimal : ℕ → Bytes
decimal n = decimal_in (suc n) n

pub record Report : Type 0 where
  pub read : ℕ
  pub refused : ℕ
  pub sum : ℕ
  pub longest : ℕ
  pub over : ℕ
  pub under : ℕ

unfoldable pub report_of : List Pause → Report
report_of ps = record {
  read = read_count ps;
  refused = refused_count ps;
  sum = sum_of ps;
  longest = longest_of ps;
  over = mean_over (sum_of ps) (read_count ps);
  under = mean_under (sum_of ps) (read_count ps);
}

-- one space between, a line feed at the end
unfoldable pub line_of : Report → Bytes
line_of r =
    decimal r.read ++ 0x20 ∷ decimal r.refused ++ 0x20 ∷ decimal r.sum ++ 0x20 ∷ decimal r.longest
    ++ 0x20 ∷ decimal r.over ++ 0x2f ∷ decimal r.under ++ 0x0a ∷ []

-- the six numbers
unfoldable pub figures_of : Report → List ℕ
figures_of r = r.read ∷ r.refused ∷ r.sum ∷ r.longest ∷ r.over ∷ r.under ∷ []

-- ---- What is answered

-- 6 for an output that is shorter, else 0
abbrev pub put : List ℕ → List ℕ → Outcome
put written out = if ltb (length out) (length written) then refused 6 out else done (length written) written out

-- 9, then 1, then what is put
abbrev pub report_in : (Report → List ℕ) → Bytes → Option Day → List ℕ → Outcome
report_in f key none out = refused 9 out
report_in f key (some day) out = if not (eqb (length key) 48) then refused 1 out else put (f (report_of (pauses_of key day))) out

-- the line
unfoldable pub reporting : Bytes → Bytes → Bytes → Outcome
reporting key file out = report_in line_of key (read_day file) out

-- the six numbers in place of the line
unfoldable pub reporting_figures : Bytes → Bytes → List ℕ → Outcome
reporting_figures key file out = report_in figures_of key (read_day file) out
