-- What an append settles before it writes, and the answers of the call.
use mathlib.Core.Bool.{Bool, true, false, ◌&&◌, ◌||◌, not}
use mathlib.Core.List.{◌++◌}
use mathlib.Core.Option.{Option, none, some}
use mathlib.Core.Path.{◌≡◌, refl, ap, sym, ◌∙◌}
use Prim.Native.Nat.{ℕ, ◌+◌, ◌≤◌, ◌<◌}
use native.Mathlib.Omega.{arith}
use borrow.Author.Tests.{ltb-true, ltb-false, lt-ltb, le-ltb, eq-eqb, ne_eqb}
use lib.Dec.{eqb, ltb}
use lib.ListN.{length, take, drop}
use lib.Seq.{length-take-le}
use Rattle.std.specs.Prelude.{Result, Ok, Err, if◌then◌else◌}
use Rattle.std.specs.Result.{is_ok}
use Rattle.paper.specs.Strings.{Bytes, Below}
use Rattle.paper.specs.Document01.{reading, Outcome, refused}
use Rattle.paper.specs.DayFile.{Day, write_day, longest_file, header_fits, read_day}
use Rattle.paper.specs.DayEdits.{grown, append_fits, append_in, appending}
use Rattle.laws.proofs.Digits.{below_of, below_take}
use Rattle.laws.proofs.DayReading.{read_write}
use Rattle.laws.proofs.DayGrown.{grown_long}
use Rattle.answer.specs.declared.BadEntry.{BadEntry}
use Rattle.header.specs.Places.{read_as}
use Rattle.header.proofs.Fits.{reads_fits, bad_fits}
use Rattle.laws.specs.Placing.{placed}
use Rattle.std.proofs.Common.{Some, None, Fits, w8, slice_index_or}
use Rattle.day.specs.Checks.{checked_as, checked_day}
use Rattle.day_place.proofs.Held.{Counted, counted}
use Rattle.day_grow.specs.Grown.{Ready, grown_file}
use Rattle.day_append.specs.Appended.{capped, taken}

-- ---- What is asked

-- the file in the buffer reads, with these counts
pub record Asked : Type 0 where
  pub buffer : Bytes
  pub low : Below 256 buffer
  pub size : ℕ
  pub inside : size ≤ length buffer
  pub number : ℕ
  pub header : Bytes
  pub stretch : ℕ
  pub sealed : Bytes
  pub headers : ℕ
  pub records : ℕ
  pub first : ℕ
  pub counted : Counted (take size buffer) headers records first

-- by what the check of the file says
abbrev pub asked : (buffer : Bytes) (size number : ℕ) (header : Bytes) (stretch : ℕ) (sealed : Bytes) (headers records first : ℕ) → ((i : ℕ) → Fits w8 (slice_index_or buffer i 0))
    → size ≤ length buffer → Some (checked_day headers records first) ≡ checked_as (read_day (take size buffer)) → Asked
asked buffer size number header stretch sealed headers records first low inside told =
    record {
      buffer = buffer;
      low = below_of 256 buffer (λ i p. omega (arith, low i));
      size = size;
      inside = inside;
      number = number;
      header = header;
      stretch = stretch;
      sealed = sealed;
      headers = headers;
      records = records;
      first = first;
      counted = counted (take size buffer) headers records first told;
    }

-- ---- Whether it fits the layout

-- the header's number, and the header where it is a new one
abbrev pub named : ℕ → Bytes → ℕ → Bool
named number header headers = ltb number headers || (eqb number headers && header_fits header)

reads_ok : (h : Bytes) (r : Result ℕ BadEntry) → r ≡ read_as (reading h) → is_ok r ≡ header_fits h
reads_ok h (Ok n) e = sym (reads_fits h n e)
reads_ok h (Err k) e = sym (bad_fits h k e)

module _ (number : ℕ) (header : Bytes) (headers : ℕ) where
  pub named_there : number < headers → ltb number headers ≡ named number header headers
  named_there p = lt-ltb number headers p ∙ ap (λ (b : Bool). b || (eqb number headers && header_fits header)) (sym (lt-ltb number headers p))

  pub named_next : number ≡ headers → (r : Result ℕ BadEntry) → r ≡ read_as (reading header) → is_ok r ≡ named number header headers
  named_next p r e = reads_ok header r e ∙ (λ i. sym (le-ltb number headers (omega arith)) i || (sym (eq-eqb number headers p) i && header_fits header))

  pub named_past : headers ≤ number → (number ≡ headers → ⊥) → eqb number headers ≡ named number header headers
  named_past p q = ne_eqb number headers q ∙ (λ i. sym (le-ltb number headers p) i || (sym (ne_eqb number headers q) i && header_fits header))

-- ---- The call

module _ (B : Bytes) (size number : ℕ) (header : Bytes) (stretch : ℕ) (sealed : Bytes) where
  abbrev called : Outcome
  called = appending B size number header stretch sealed

  inside : size ≤ length B → append_in (read_day (take size B)) number header stretch sealed B ≡ called
  unfolding appending
  inside p = ap (λ (b : Bool). if b then refused 9 B else append_in (read_day (take size B)) number header stretch sealed B) (sym (le-ltb (length B) size p))

  pub past_buffer : length B < size → refused 9 B ≡ called
  unfolding appending
  past_buffer p = ap (λ (b : Bool). if b then refused 9 B else append_in (read_day (take size B)) number header stretch sealed B) (sym (lt-ltb (length B) size p))

  pub unread : size ≤ length B → None ≡ checked_as (read_day (take size B)) → refused 9 B ≡ called
  unfolding append_in
  unread p e = go (read_day (take size B)) e ∙ inside p
    where
      go : (o : Option Day) → None ≡ checked_as o → refused 9 B ≡ append_in o number header stretch sealed B
      go none e = refl
      go (some day) e = cc

-- where the file reads
module _ (q : Asked) where
  abbrev B : Bytes
  B = q.buffer

  abbrev size : ℕ
  size = q.size

  abbrev number : ℕ
  number = q.number

  abbrev header : Bytes
  header = q.header

  abbrev stretch : ℕ
  stretch = q.stretch

  abbrev sealed : Bytes
  sealed = q.sealed

  abbrev headers : ℕ
  headers = q.headers

  abbrev records : ℕ
  records = q.records

  abbrev first : ℕ
  first = q.first

  abbrev within : size ≤ length B
  within = q.inside

  abbrev k : Counted (take size B) headers records first
  k = q.counted

  abbrev answered : Outcome
  answered = appending B size number header stretch sealed

  abbrev after : Day
  after = grown number header stretch sealed k.day

  file_long : length (write_day k.day) ≡ size
  file_long = ap length (read_write (take size B) k.day (below_take 256 size B q.low) k.reads).bytes ∙ length-take-le size B within

  pub size_short : size ≤ 65536
  size_short = omega (arith, file_long, (read_write (take size B) k.day (below_take 256 size B q.low) k.reads).within.short)

  abbrev total : ℕ
  total = size + taken number header headers + 11 + length sealed

  total_is : length (write_day after) ≡ total
  total_is =
      grown_long number header stretch sealed k.day
      ∙ (λ i. file_long i + taken number header (sym k.headers_are i) + 11 + length sealed)

  abbrev by : Bool → Bool → Bool → Outcome
  by a b c =
      if not a then refused 9 B
      else if b then refused 6 B
      else if c then refused 6 B
      else record { number = 0; size = length (write_day after); output = write_day after ++ drop (length (write_day after)) B }

  by_tests_three : {a b c : Bool} → append_fits number header stretch headers ≡ a → ltb longest_file (length (write_day after)) ≡ b → ltb (length B) (length (write_day after)) ≡ c → by a b c ≡ answered
  unfolding append_in
  by_tests_three p q r =
      (λ i. by (sym p i) (sym q i) (sym r i))
      ∙ ap (λ (n : ℕ). by (append_fits number header stretch n) (ltb longest_file (length (write_day after))) (ltb (length B) (length (write_day after)))) k.headers_are
      ∙ sym (ap (λ (o : Option Day). append_in o number header stretch sealed B) k.reads)
      ∙ inside B size number header stretch sealed within

  pub unfit : false ≡ append_fits number header stretch headers → refused 9 B ≡ answered
  unfit e = by_tests_three (sym e) refl refl

  module _ (fit : true ≡ append_fits number header stretch headers) (n : ℕ) (sized : n ≡ capped total) where
    pub too_long_lem : 65536 < n → refused 6 B ≡ answered
    too_long_lem p = by_tests_three (sym fit) (lt-ltb 65536 (length (write_day after)) (go (ltb 65536 total) refl)) refl
      where
        go : (b : Bool) → ltb 65536 total ≡ b → 65536 < length (write_day after)
        go true e = omega (arith, ltb-true 65536 total e, total_is)
        go false e = absurd (omega (arith, p, sized ∙ ap (λ (b : Bool). if b then 65537 else total) e, ltb-false 65536 total e))

    module _ (short : n ≤ 65536) where
      pub n_is : n ≡ length (write_day after)
      n_is = go (ltb 65536 total) refl
        where
          go : (b : Bool) → ltb 65536 total ≡ b → n ≡ length (write_day after)
          go true e = absurd (omega (arith, short, sized ∙ ap (λ (b : Bool). if b then 65537 else total) e))
          go false e = sized ∙ ap (λ (b : Bool). if b then 65537 else total) e ∙ sym total_is

      file_short : ltb longest_file (length (write_day after)) ≡ false
      file_short = le-ltb 65536 (length (write_day after)) (omega (arith, n_is, short))

      pub no_room : length B < n → refused 6 B ≡ answered
      no_room p = by_tests_three (sym fit) file_short (lt-ltb (length B) (length (write_day after)) (omega (arith, n_is, p)))

      module _ (room : n ≤ length B) where
        pub ready : Ready B size headers records first number header stretch sealed
        ready = record {
          day = k.day;
          inside = within;
          reads = k.reads;
          headers_are = k.headers_are;
          records_are = k.records_are;
          first_is = k.first_is;
          fit = sym fit;
          short = omega (arith, n_is, short);
          room = omega (arith, n_is, room);
        }

        pub appended : (exit : Bytes) → exit ≡ placed 0 (grown_file (read_day (take size B)) number header stretch sealed) B → record { number = 0; size = n; output = exit } ≡ answered
        appended exit e =
            let is : exit ≡ placed 0 (write_day after) B = e ∙ ap (λ (o : Option Day). placed 0 (grown_file o number header stretch sealed) B) k.reads in
            let past : 0 + length (write_day after) ≡ length (write_day after) = omega arith in
            (λ i. record { number = 0; size = n_is i; output = (is ∙ ap (λ (m : ℕ). write_day after ++ drop m B) past) i })
            ∙ by_tests_three (sym fit) file_short (le-ltb (length B) (length (write_day after)) (omega (arith, n_is, room)))
