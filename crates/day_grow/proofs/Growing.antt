-- An append by the parts of the buffer: what is put where makes the grown file, and what follows it is as it was.
use mathlib.Core.List.{List, [], ◌∷◌, ◌++◌, append_assoc, append-nil}
use mathlib.Core.Path.{◌≡◌, refl, ap, sym, ◌∙◌}
use Prim.Native.Nat.{ℕ, ◌+◌, ◌-◌, ◌*◌, ◌≤◌, ◌<◌}
use native.Mathlib.Omega.{arith}
use lib.ListN.{length, take, drop, length-append, length-drop, take-append-drop}
use lib.Seq.{length-take-le, take_at, drop_at, drop-drop, drop-append-add}
use Rattle.paper.specs.Strings.{Bytes, Below, digits}
use Rattle.paper.specs.Document01.{write_strings}
use Rattle.paper.specs.DayFile.{Record, Day, write_record, write_records, write_headers, first_place, places_from, write_places, write_index, write_day}
use Rattle.paper.specs.DayEdits.{headers_with, grown}
use Rattle.laws.proofs.BitStrings.{length_digits}
use Rattle.laws.proofs.Digits.{below_take}
use Rattle.laws.proofs.Headers.{write_append}
use Rattle.laws.proofs.DayWritten.{Layout, strings_long, records_append, record_long, first_place_lem, places_long, day_long}
use Rattle.laws.proofs.DayReading.{read_write}
use Rattle.laws.proofs.DayGrown.{with_there, with_next}
use Rattle.laws.specs.Placing.{placed}
use Rattle.laws.proofs.Placed.{placed_then}
use Rattle.day_place.specs.Walked.{end_of, places_of}
use Rattle.day_place.proofs.Moved.{put_between}
use Rattle.day_place.proofs.Walk.{walk_ends, walk_places, places_count}
use Rattle.day_put.specs.Written.{record_with}
use Rattle.day_grow.specs.Grown.{Rows, last_written, Ready}
use Rattle.day_grow.proofs.Lent.{Lent, last_of, Brought}

-- ---- Parts put into a buffer

-- what is put ends a longer front
pub front_put : (at : ℕ) (w out : Bytes) (n : ℕ) → at + length w ≡ n → n ≤ length out → take n (placed at w out) ≡ take at out ++ w
front_put at w out n e p =
    take_at (take at out ++ w) (drop (at + length w) out) n (omega (arith, length-append (take at out) w, length-take-le at out (omega arith)))

-- last parts, and then a count before what stands before them
finished : (P d R Z d' N : Bytes) (e at : ℕ) → length P ≡ e → length d ≡ length d' → e + length d + length R ≡ at → length N ≤ length Z
    → placed e d' (placed at N (P ++ (d ++ (R ++ Z)))) ≡ P ++ (d' ++ (R ++ (N ++ drop (length N) Z)))
finished P d R Z d' N e at p q r s =
    let front = P ++ (d ++ R) in
    let rest = drop (length N) Z in
    let apart : (X : Bytes) → front ++ X ≡ P ++ (d ++ (R ++ X)) = λ X. append_assoc P (d ++ R) X ∙ ap (λ (Y : Bytes). P ++ Y) (append_assoc d R X) in
    let long : length front ≡ at = omega (arith, length-append P (d ++ R), length-append d R, p, r) in
    let split : P ++ (d ++ (R ++ Z)) ≡ front ++ (take (length N) Z ++ rest) = sym (ap (λ (X : Bytes). front ++ X) (take-append-drop (length N) Z) ∙ apart Z) in
    ap (λ (X : Bytes). placed e d' (placed at N X)) split
    ∙ ap (placed e d') (put_between front (take (length N) Z) rest N at long (length-take-le (length N) Z s) ∙ apart (N ++ rest))
    ∙ put_between P d (R ++ (N ++ rest)) d' e p q

-- what follows moved behind room for a header, the header, and a count at the front
pub brought : (c H M Z c' S : Bytes) (e : ℕ) → length (c ++ H) ≡ e → length c ≡ length c' → length S + length M ≤ length Z
    → placed 0 c' (placed e S (placed (e + length S) M (c ++ (H ++ Z)))) ≡ c' ++ (H ++ (S ++ (M ++ drop (length S + length M) Z)))
brought c H M Z c' S e p q r =
    let a = take (length S) Z in
    let b = take (length M) (drop (length S) Z) in
    let rest = drop (length M) (drop (length S) Z) in
    let front = c ++ H in
    let split : c ++ (H ++ Z) ≡ (front ++ a) ++ (b ++ rest) =
    sym
    (append_assoc front a (b ++ rest)
    ∙ ap (λ (X : Bytes). front ++ (a ++ X)) (take-append-drop (length M) (drop (length S) Z))
    ∙ ap (λ (X : Bytes). front ++ X) (take-append-drop (length S) Z)
    ∙ append_assoc c H Z) in
    let a_long : length a ≡ length S = length-take-le (length S) Z (omega arith) in
    let b_long : length b ≡ length M = length-take-le (length M) (drop (length S) Z) (omega (arith, length-drop (length S) Z)) in
    ap (λ (X : Bytes). placed 0 c' (placed e S (placed (e + length S) M X))) split
    ∙ ap (λ (X : Bytes). placed 0 c' (placed e S X))
    (put_between (front ++ a) b rest M (e + length S) (omega (arith, length-append front a, p, a_long)) b_long ∙ append_assoc front a (M ++ rest))
    ∙ ap (placed 0 c') (put_between front a (M ++ rest) S e p a_long ∙ append_assoc c H (S ++ (M ++ rest)))
    ∙ put_between [] c (H ++ (S ++ (M ++ rest))) c' 0 refl q
    ∙ ap (λ (X : Bytes). c' ++ (H ++ (S ++ (M ++ X)))) (drop-drop (length M) (length S) Z)

-- ---- The records in front, and the index of one more

module _ {f : Bytes} {first records : ℕ} (rows : Rows f first records) (r : Record) (short : length f + length (write_record r) < 4294967296) where
  abbrev all : List Record
  all = rows.rs ++ r ∷ []

  all_written : write_records all ≡ write_records rows.rs ++ write_record r
  unfolding write_records
  all_written = records_append rows.rs (r ∷ []) ∙ ap (λ (X : Bytes). write_records rows.rs ++ X) (append-nil (write_record r))

  one_more : f ++ write_record r ≡ rows.front ++ (write_records all ++ [])
  one_more =
      ap (λ (X : Bytes). X ++ write_record r) rows.is
      ∙ append_assoc rows.front (write_records rows.rs) (write_record r)
      ∙ ap (λ (X : Bytes). rows.front ++ X) (sym (append-nil (write_records all) ∙ all_written))

  count : length all ≡ records + 1
  count = length-append rows.rs (r ∷ []) ∙ ap (λ (n : ℕ). n + 1) rows.many

  all_small : length rows.front + length (write_records all) < 4294967296
  all_small =
      omega
      (arith, short, ap length rows.is, length-append rows.front (write_records rows.rs), ap length all_written, length-append (write_records rows.rs) (write_record r))

  pub rows_end : end_of (f ++ write_record r) first (records + 1) ≡ length f + length (write_record r)
  rows_end =
      (λ i. end_of (one_more i) first (sym count i))
      ∙ walk_ends rows.front all first rows.here [] all_small
      ∙ omega
      (arith, rows.here, ap length rows.is, length-append rows.front (write_records rows.rs), ap length all_written, length-append (write_records rows.rs) (write_record r))

  pub rows_places : places_of (f ++ write_record r) first (records + 1) ≡ places_from first all
  rows_places = (λ i. places_of (one_more i) first (sym count i)) ∙ walk_places rows.front all first rows.here [] all_small

-- ---- A record put behind the others of a buffer, and the index behind it

module _ (B : Bytes) (at first records : ℕ) (rows : Rows (take at B) first records) (r : Record)
    (file : at + 11 + length r.sealed + 4 + 4 * records ≤ 65536) (room : at + 11 + length r.sealed + 4 + 4 * records ≤ length B)
    (out : Bytes) (put : out ≡ placed at (write_record r) B) where
  abbrev w : Bytes
  w = write_record r

  abbrev end : ℕ
  end = at + 7 + length r.sealed

  before_long : length (take at B) ≡ at
  before_long = length-take-le at B (omega arith)

  old_and_new : take end out ≡ take at B ++ w
  old_and_new = ap (take end) put ∙ front_put at w B end (omega (arith, record_long r)) (omega arith)

  pub ends_behind : end_of (take end out) first (records + 1) ≡ end
  ends_behind =
      ap (λ (g : Bytes). end_of g first (records + 1)) old_and_new
      ∙ rows_end rows r (omega (arith, before_long, record_long r))
      ∙ omega (arith, before_long, record_long r)

  pub index_behind : (last : Bytes) → last ≡ placed end (digits 256 4 (records + 1) ++ write_places (places_of (take end out) first (records + 1))) out
      → last ≡ placed at (last_written (take at B) first records r) B
  index_behind last is =
      let index : Bytes → Bytes = λ g. digits 256 4 (records + 1) ++ write_places (places_of g first (records + 1)) in
      let ps = places_of (take at B ++ w) first (records + 1) in
      let here : end ≡ at + length w = omega (arith, record_long r) in
      let long : length (index (take at B ++ w)) ≡ 8 + 4 * records =
      omega
      (arith, length-append (digits 256 4 (records + 1)) (write_places ps), length_digits 256 4 (records + 1), places_long ps, places_count (take at B ++ w) first (records + 1)) in
      is ∙ (λ i. placed (here i) (index (old_and_new i)) (put i)) ∙ placed_then at w (index (take at B ++ w)) B (omega (arith, record_long r, long))

-- the first record stands before them all
pub first_inside : (B : Bytes) (at first records : ℕ) → at ≤ length B → Rows (take at B) first records → first ≤ at
first_inside B at first records inside rows =
    omega (arith, rows.here, ap length rows.is, length-append rows.front (write_records rows.rs), length-take-le at B inside)

-- ---- The call's buffer

module _ (l : Lent) where
  abbrev B : Bytes
  B = l.buffer

  abbrev low : Below 256 B
  low = l.low

  abbrev size : ℕ
  size = l.size

  abbrev headers : ℕ
  headers = l.headers

  abbrev records : ℕ
  records = l.records

  abbrev first : ℕ
  first = l.first

  abbrev number : ℕ
  number = l.number

  abbrev header : Bytes
  header = l.header

  abbrev stretch : ℕ
  stretch = l.stretch

  abbrev sealed : Bytes
  sealed = l.sealed

  abbrev ready : Ready B size headers records first number header stretch sealed
  ready = l.ready

  abbrev day : Day
  day = ready.day

  abbrev hs : List Bytes
  hs = day.headers

  abbrev rs : List Record
  rs = day.records

  abbrev new : Record
  new = record_with number stretch sealed

  abbrev after : Day
  after = grown number header stretch sealed day

  abbrev H : Bytes
  H = write_strings hs

  abbrev R : Bytes
  R = write_records rs

  abbrev d : Bytes
  d = digits 256 4 (length rs)

  abbrev d' : Bytes
  d' = digits 256 4 (records + 1)

  abbrev Z : Bytes
  Z = write_index day ++ drop size B

  within : Layout day
  within = (read_write (take size B) day (below_take 256 size B low) ready.reads).within

  parts : B ≡ write_headers hs ++ (d ++ (R ++ Z))
  unfolding write_day
  parts =
      sym (take-append-drop size B)
      ∙ ap (λ (X : Bytes). X ++ drop size B) (sym (read_write (take size B) day (below_take 256 size B low) ready.reads).bytes)
      ∙ append_assoc (write_headers hs ++ d ++ R) (write_index day) (drop size B)
      ∙ append_assoc (write_headers hs ++ d) R Z
      ∙ append_assoc (write_headers hs) d (R ++ Z)

  d_long : length d ≡ 4
  d_long = length_digits 256 4 (length rs)

  pub heads_long : length (write_headers hs) + 4 ≡ first
  unfolding first_place
  heads_long = sym ready.first_is

  pub size_is : size ≡ first + length R + (4 + 4 * records)
  size_is =
      let w = (read_write (take size B) day (below_take 256 size B low) ready.reads).bytes in
      omega (arith, ap length w, length-take-le size B ready.inside, day_long day, ready.first_is, ready.records_are)

  -- where the records end
  abbrev last : ℕ
  last = last_of l

  pub last_is : last ≡ first + length R
  last_is = omega (arith, size_is)

  -- the grown file, from the lengths of its parts
  module _ (P : Bytes) (heads : write_headers after.headers ≡ P) (first' at' : ℕ) (long : length P + 4 ≡ first') (at_is : at' ≡ first' + length R)
      (B' Z' : Bytes) (is : B' ≡ P ++ (d ++ (R ++ Z'))) (same-long : length B' ≡ length B)
      (tail : (n : ℕ) → at' + n ≡ length (write_day after) → drop n Z' ≡ drop (length (write_day after)) B) where
    abbrev f : Bytes
    f = take at' B'

    abbrev front : Bytes
    front = P ++ d

    apart : (X : Bytes) → front ++ R ++ X ≡ P ++ (d ++ (R ++ X))
    apart X = append_assoc front R X ∙ append_assoc P d (R ++ X)

    front_long : length (front ++ R) ≡ at'
    front_long = omega (arith, length-append front R, length-append P d, d_long, long, at_is)

    f_is : f ≡ front ++ R
    f_is = ap (take at') (is ∙ sym (apart Z')) ∙ take_at (front ++ R) Z' at' front_long

    pub rows : Rows f first' records
    rows = record { front = front; rs = rs; is = f_is; here = omega (arith, length-append P d, d_long, long); many = sym ready.records_are }

    records_grown : write_records after.records ≡ R ++ write_record new
    unfolding grown write_records
    records_grown = records_append rs (new ∷ []) ∙ ap (λ (X : Bytes). R ++ X) (append-nil (write_record new))

    count_grown : length after.records ≡ records + 1
    unfolding grown
    count_grown = length-append rs (new ∷ []) ∙ ap (λ (n : ℕ). n + 1) (sym ready.records_are)

    first_grown : first_place after.headers ≡ first'
    unfolding first_place
    first_grown = ap (λ (X : Bytes). length X + 4) heads ∙ long

    whole_long : length (write_day after) ≡ at' + 11 + length sealed + 4 + 4 * records
    whole_long =
        omega
        (arith, day_long after, first_grown, ap length records_grown, length-append R (write_record new), record_long new, count_grown, at_is)

    pub fits_file : at' + 11 + length sealed + 4 + 4 * records ≤ 65536
    fits_file = omega (arith, whole_long, ready.short)

    pub fits_buffer : at' + 11 + length sealed + 4 + 4 * records ≤ length B'
    fits_buffer = omega (arith, whole_long, ready.room, same-long)

    small : length f + length (write_record new) < 4294967296
    small = omega (arith, ap length f_is, front_long, record_long new, fits_file)

    N : Bytes
    N = last_written f first' records new

    N_long : length N ≡ 11 + length sealed + 4 + 4 * records
    unfolding N
    N_long =
        let ps = places_of (f ++ write_record new) first' (records + 1) in
        omega
        (arith, length-append (write_record new) (d' ++ write_places ps), record_long new, length-append d' (write_places ps), length_digits 256 4 (records + 1), places_long ps, places_count (f ++ write_record new) first' (records + 1))

    N_is : N ≡ write_record new ++ write_index after
    unfolding N write_index grown rows
    N_is =
        let places : places_of (f ++ write_record new) first' (records + 1) ≡ places_from (first_place after.headers) after.records =
        rows_places rows new small ∙ ap (λ (n : ℕ). places_from n (rs ++ new ∷ [])) (sym first_grown) in
        λ i. write_record new ++ (digits 256 4 (sym count_grown i) ++ write_places (places i))

    whole : write_day after ≡ P ++ (d' ++ (R ++ N))
    unfolding write_day
    whole =
        let x = write_index after in
        (λ i. heads i ++ digits 256 4 (count_grown i) ++ records_grown i ++ x)
        ∙ append_assoc (P ++ d') (R ++ write_record new) x
        ∙ append_assoc P d' (R ++ write_record new ++ x)
        ∙ ap (λ (X : Bytes). P ++ (d' ++ X)) (append_assoc R (write_record new) x ∙ ap (λ (X : Bytes). R ++ X) (sym N_is))

    pub closes : (exit : Bytes) → exit ≡ placed (first' - 4) d' (placed at' (last_written f first' records new) B') → exit ≡ placed 0 (write_day after) B
    unfolding N
    closes exit e =
        let here : length P ≡ first' - 4 = omega (arith, long) in
        let fours : length d ≡ length d' = d_long ∙ sym (length_digits 256 4 (records + 1)) in
        let room : length N ≤ length Z' =
        omega (arith, N_long, fits_buffer, ap length is, length-append P (d ++ (R ++ Z')), length-append d (R ++ Z'), length-append R Z', d_long, long, at_is) in
        let past : 0 + length (write_day after) ≡ length (write_day after) = omega arith in
        e
        ∙ ap (λ (X : Bytes). placed (first' - 4) d' (placed at' N X)) is
        ∙ finished P d R Z' d' N (first' - 4) at' here fours (omega (arith, at_is, d_long, long)) room
        ∙ ap (λ (X : Bytes). P ++ (d' ++ (R ++ (N ++ X)))) (tail (length N) (omega (arith, N_long, whole_long)))
        ∙ sym
        (append_assoc P (d' ++ (R ++ N)) (drop (length (write_day after)) B)
        ∙ ap (λ (X : Bytes). P ++ X) (append_assoc d' (R ++ N) (drop (length (write_day after)) B) ∙ ap (λ (X : Bytes). d' ++ X) (append_assoc R N (drop (length (write_day after)) B))))
        ∙ (λ i. sym whole i ++ drop (sym past i) B)

  -- a header that is there
  module _ (there : number < headers) where
    heads_there : write_headers after.headers ≡ write_headers hs
    unfolding grown
    heads_there = ap write_headers (with_there number header hs (omega (arith, there, ready.headers_are)))

    tail_there : (n : ℕ) → last + n ≡ length (write_day after) → drop n Z ≡ drop (length (write_day after)) B
    tail_there n e =
        let X = write_headers hs ++ d ++ R in
        let long : length X ≡ last = omega (arith, length-append (write_headers hs ++ d) R, length-append (write_headers hs) d, d_long, heads_long, last_is) in
        let at : length X + n ≡ length (write_day after) = omega (arith, long, e) in
        sym
        (ap (drop (length (write_day after))) (parts ∙ sym (append_assoc (write_headers hs ++ d) R Z ∙ append_assoc (write_headers hs) d (R ++ Z)))
        ∙ ap (λ (k : ℕ). drop k (X ++ Z)) (sym at)
        ∙ drop-append-add X Z n)

    pub there_rows : Rows (take last B) first records
    there_rows = rows (write_headers hs) heads_there first last heads_long last_is B Z parts refl tail_there

    pub there_short : last + 11 + length sealed + 4 + 4 * records ≤ 65536
    there_short = fits_file (write_headers hs) heads_there first last heads_long last_is B Z parts refl tail_there

    pub there_room : last + 11 + length sealed + 4 + 4 * records ≤ length B
    there_room = fits_buffer (write_headers hs) heads_there first last heads_long last_is B Z parts refl tail_there

    pub there_closes : (exit : Bytes) → exit ≡ placed (first - 4) d' (placed last (last_written (take last B) first records new) B) → exit ≡ placed 0 (write_day after) B
    there_closes = closes (write_headers hs) heads_there first last heads_long last_is B Z parts refl tail_there

  -- a new header
  module _ (next : headers ≤ number) where
    abbrev S : Bytes
    S = write_strings (header ∷ [])

    abbrev c : Bytes
    c = digits 256 4 (length hs)

    abbrev c' : Bytes
    c' = digits 256 4 (headers + 1)

    abbrev Z₀ : Bytes
    Z₀ = d ++ (R ++ Z)

    abbrev M : Bytes
    M = d ++ R

    abbrev P : Bytes
    P = c' ++ (H ++ S)

    abbrev more : ℕ
    more = 2 + length header

    S_long : length S ≡ more
    unfolding write_strings
    S_long = omega (arith, strings_long header [])

    heads_next : write_headers after.headers ≡ P
    unfolding grown write_headers
    heads_next =
        let with : headers_with number header hs ≡ hs ++ header ∷ [] = with_next number header hs (omega (arith, next, ready.headers_are)) in
        let many : length (hs ++ header ∷ []) ≡ headers + 1 = omega (arith, length-append hs (header ∷ []), ready.headers_are) in
        ap write_headers with ∙ (λ i. digits 256 4 (many i) ++ write_append hs (header ∷ []) i)

    P_long : length P + 4 ≡ first + more
    P_long =
        omega
        (arith, length-append c' (H ++ S), length-append H S, length_digits 256 4 (headers + 1), S_long, ready.first_is, first_place_lem hs)

    old_long : length (c ++ H) ≡ first - 4
    old_long = omega (arith, length-append c H, length_digits 256 4 (length hs), ready.first_is, first_place_lem hs)

    M_long : length M ≡ last - (first - 4)
    M_long = omega (arith, length-append d R, d_long, last_is, heads_long)

    old : B ≡ c ++ (H ++ Z₀)
    unfolding write_headers
    old = parts ∙ append_assoc c H Z₀

    moved : take (last - (first - 4)) (drop (first - 4) B) ≡ M
    moved =
        ap (λ (X : Bytes). take (last - (first - 4)) (drop (first - 4) X)) (old ∙ sym (append_assoc c H Z₀))
        ∙ ap (take (last - (first - 4))) (drop_at (c ++ H) Z₀ (first - 4) old_long ∙ sym (append_assoc d R Z))
        ∙ take_at M Z (last - (first - 4)) M_long

    -- a grown file with its header has room for it
    pub next_long : length (write_day after) ≡ first + more + length R + 11 + length sealed + 4 + 4 * records
    unfolding grown first_place write_records
    next_long =
        omega
        (arith, day_long after, ap length heads_next, P_long, ap length (records_append rs (new ∷ [])), length-append R (write_records (new ∷ [])), ap length (append-nil (write_record new)), record_long new, length-append rs (new ∷ []), ready.records_are)

    room : length S + length M ≤ length Z₀
    room =
        omega
        (arith, ready.room, next_long, S_long, ap length old, length-append c (H ++ Z₀), length-append H Z₀, length-append c H, old_long, length-append d R, d_long, heads_long)

    abbrev Z' : Bytes
    Z' = drop (length S + length M) Z₀

    tail_next : (n : ℕ) → last + more + n ≡ length (write_day after) → drop n Z' ≡ drop (length (write_day after)) B
    tail_next n e =
        let at : length (c ++ H) + (length S + length M + n) ≡ length (write_day after) = omega (arith, old_long, S_long, M_long, e, last_is, heads_long) in
        drop-drop n (length S + length M) Z₀
        ∙ sym
        (ap (drop (length (write_day after))) (old ∙ sym (append_assoc c H Z₀))
        ∙ ap (λ (k : ℕ). drop k (c ++ H ++ Z₀)) (sym at)
        ∙ drop-append-add (c ++ H) Z₀ (length S + length M + n))

    -- the buffer after the header is brought
    module _ (b : Brought l) where
      abbrev out₃ : Bytes
      out₃ = b.out

      brought_is : out₃ ≡ P ++ (d ++ (R ++ Z'))
      brought_is =
          b.out_is
          ∙ ap (placed 0 c') (b.headed_is ∙ ap (placed (first - 4) S) (b.moved_is ∙ (λ i. placed (first - 4 + sym S_long i) (moved i) (old i))))
          ∙ brought c H M Z₀ c' S (first - 4) old_long (length_digits 256 4 (length hs) ∙ sym (length_digits 256 4 (headers + 1))) room
          ∙ sym (append_assoc c' (H ++ S) (d ++ (R ++ Z')) ∙ ap (λ (X : Bytes). c' ++ X) (append_assoc H S (d ++ (R ++ Z')) ∙ ap (λ (X : Bytes). H ++ (S ++ X)) (sym (append_assoc d R Z'))))

      at_next : last + more ≡ first + more + length R
      at_next = omega (arith, last_is)

      pub next_rows : Rows (take (last + more) out₃) (first + more) records
      next_rows = rows P heads_next (first + more) (last + more) P_long at_next out₃ Z' brought_is b.kept tail_next

      pub next_short : last + more + 11 + length sealed + 4 + 4 * records ≤ 65536
      next_short = fits_file P heads_next (first + more) (last + more) P_long at_next out₃ Z' brought_is b.kept tail_next

      pub next_room : last + more + 11 + length sealed + 4 + 4 * records ≤ length out₃
      next_room = fits_buffer P heads_next (first + more) (last + more) P_long at_next out₃ Z' brought_is b.kept tail_next

      pub next_closes : (exit : Bytes) → exit ≡ placed (first + more - 4) d' (placed (last + more) (last_written (take (last + more) out₃) (first + more) records new) out₃)
          → exit ≡ placed 0 (write_day after) B
      next_closes = closes P heads_next (first + more) (last + more) P_long at_next out₃ Z' brought_is b.kept tail_next
