-- Clearing by the steps that it takes: what stands in the buffer after each, and that it is the cleared file in the end.
use mathlib.Core.Bool.{Bool}
use mathlib.Core.List.{List, [], ◌++◌, append_assoc, append-nil, map}
use mathlib.Core.Path.{◌≡◌, refl, ap, sym, subst, ◌∙◌}
use Prim.Native.Nat.{ℕ, ◌+◌, ◌-◌, ◌*◌, ◌≤◌, ◌<◌}
use native.Mathlib.Nat.{zero-add}
use native.Mathlib.Omega.{arith}
use lib.ListN.{length, get_or, take, drop, replicate, length-append, take-append-drop}
use lib.Seq.{length-take-le, take_all, take_at, drop_at, drop-drop}
use Rattle.std.specs.Prelude.{if◌then◌else◌}
use Rattle.paper.specs.Strings.{Bytes, digits}
use Rattle.paper.specs.Document01.{write_strings}
use Rattle.paper.specs.DayFile.{Record, Day, write_records, write_headers, first_place, places_from, write_places, write_index, write_day}
use Rattle.paper.specs.DayEdits.{pick_from, count_below, keeps, named, mended, packed, cleared}
use Rattle.laws.proofs.BitStrings.{length_digits}
use Rattle.laws.proofs.Digits.{below_take}
use Rattle.laws.proofs.DayWritten.{Layout, first_place_lem, index_long, day_long}
use Rattle.laws.proofs.DayReading.{read_write, record_fits_lem}
use Rattle.laws.proofs.LedgerSums.{few_headers}
use Rattle.laws.proofs.Picks.{pick_many}
use Rattle.laws.proofs.DayCleared.{strings_less, cleared_shorter, cleared_many}
use Rattle.laws.specs.Placing.{placed}
use Rattle.day_place.specs.Walked.{end_of, places_of}
use Rattle.day_place.proofs.Moved.{put_between}
use Rattle.day_place.proofs.Walk.{walk_ends, walk_places}
use Rattle.day_pack.specs.Bits.{bit_of, bits_below, Tallied}
use Rattle.day_pack.specs.Kept.{Walkable, number_of, named_by, CountedAll, head_end, heads_kept, records_kept, Packed}
use Rattle.day_pack.specs.Cleared.{Clearable}
use Rattle.day_pack.proofs.Steps.{Begun, last_of, Marked, CountPut, HeadersPut, NumberPut, RecordsPut, IndexPut}
use Rattle.day_pack.proofs.Table.{bits_count, tallied_at}
use Rattle.day_pack.proofs.Packs.{packed_start, packed_more, packed_then, packed_as}
use Rattle.day_pack.proofs.Linked.{head_at, heads_are, fits_at, number_is, named_is, records_are}

module _ (b : Begun) where
  abbrev B : Bytes
  B = b.buffer

  abbrev size : ℕ
  size = b.size

  abbrev headers : ℕ
  headers = b.headers

  abbrev records : ℕ
  records = b.records

  abbrev first : ℕ
  first = b.first

  abbrev dropped : List ℕ
  dropped = b.dropped

  abbrev last : ℕ
  last = last_of b

  abbrev ok : Clearable B size headers records first dropped
  ok = b.clearable

  abbrev day : Day
  day = ok.day

  abbrev hs : List Bytes
  hs = day.headers

  abbrev rs : List Record
  rs = day.records

  -- the records that are kept, before their numbers are mended
  abbrev kept : List Record
  kept = pick_from (keeps dropped) 0 rs

  abbrev after : Day
  after = cleared dropped day

  abbrev c : Bytes
  c = digits 256 4 (length hs)

  abbrev H : Bytes
  H = write_strings hs

  abbrev d : Bytes
  d = digits 256 4 (length rs)

  abbrev R : Bytes
  R = write_records rs

  abbrev Z : Bytes
  Z = write_index day ++ drop size B

  written : write_day day ≡ take size B
  written = (read_write (take size B) day (below_take 256 size B b.low) ok.reads).bytes

  within : Layout day
  within = (read_write (take size B) day (below_take 256 size B b.low) ok.reads).within

  old : B ≡ c ++ (H ++ (d ++ (R ++ Z)))
  unfolding write_day write_headers
  old =
      sym (take-append-drop size B)
      ∙ ap (λ (X : Bytes). X ++ drop size B) (sym written)
      ∙ append_assoc (c ++ H ++ d ++ R) (write_index day) (drop size B)
      ∙ append_assoc (c ++ H ++ d) R Z
      ∙ append_assoc (c ++ H) d (R ++ Z)
      ∙ append_assoc c H (d ++ (R ++ Z))

  c_long : length c ≡ 4
  c_long = length_digits 256 4 (length hs)

  d_long : length d ≡ 4
  d_long = length_digits 256 4 (length rs)

  pub first_long : first ≡ 8 + length H
  first_long = ok.first_is ∙ first_place_lem hs

  pub size_is : size ≡ first + length R + (4 + 4 * records)
  size_is = omega (arith, ap length written, length-take-le size B ok.inside, day_long day, ok.first_is, ok.records_are)

  pub last_is : last ≡ first + length R
  last_is = omega (arith, size_is)

  pub size_short : size ≤ 65536
  size_short = omega (arith, ap length written, length-take-le size B ok.inside, within.short)

  few : length hs ≤ 13104
  few = few_headers (take size B) day (below_take 256 size B b.low) ok.reads

  pub headers_few : headers ≤ 13104
  headers_few = omega (arith, few, ok.headers_are)

  -- ---- The records, behind any front

  module _ (X : Bytes) (here : length X ≡ first) where
    short : length X + length R < 4294967296
    short = omega (arith, here, last_is, size_is, size_short)

    front_long : length (X ++ (R ++ [])) ≡ last
    front_long = omega (arith, length-append X (R ++ []), ap length (append-nil R), here, last_is)

    number_there : (i : ℕ) → i < records → number_of (X ++ (R ++ [])) first i < headers
    number_there i p =
        let there : i < length rs = omega (arith, p, ok.records_are) in
        let r : Record = get_or rs i (record { header = 0; stretch = 0; sealed = [] }) in
        let fits = record_fits_lem (length hs) r (fits_at (length hs) rs within.records_fit i there (record { header = 0; stretch = 0; sealed = [] })) in
        omega (arith, number_is X rs first here [] short (length hs) within.records_fit dropped i there, fits.1, ok.headers_are)

    walkable : Walkable (X ++ (R ++ [])) first records
    walkable = record {
      ends = ap (end_of (X ++ (R ++ [])) first) ok.records_are ∙ walk_ends X rs first here [] short ∙ omega (arith, front_long, last_is);
      short = omega (arith, front_long, last_is, size_is, size_short);
      few = λ i p. omega (arith, number_there i p, headers_few);
    }

    -- where the buffer is as it was from the first record on
    module _ (out : Bytes) (is : out ≡ X ++ (R ++ Z)) where
      front_is : take last out ≡ X ++ (R ++ [])
      front_is =
          ap (take last) (is ∙ sym (append_assoc X R Z))
          ∙ take_at (X ++ R) Z last (omega (arith, length-append X R, here, last_is))
          ∙ ap (λ (Y : Bytes). X ++ Y) (sym (append-nil R))

      counted : (t before : List ℕ) → Tallied before t headers → CountedAll before t (take last out) first records
      counted t before w =
          subst (λ (f : Bytes). CountedAll before t f first records) (sym front_is) (λ i p. tallied_at before t headers (number_of (X ++ (R ++ [])) first i) w (number_there i p))

      walks : Walkable (take last out) first records
      walks = subst (λ (f : Bytes). Walkable f first records) (sym front_is) walkable

  -- ---- The marks

  abbrev X₀ : Bytes
  X₀ = c ++ (H ++ d)

  X₀_long : length X₀ ≡ first
  X₀_long = omega (arith, length-append c (H ++ d), length-append H d, c_long, d_long, first_long)

  old_front : B ≡ X₀ ++ (R ++ Z)
  old_front = old ∙ sym (append_assoc c (H ++ d) (R ++ Z) ∙ ap (λ (Y : Bytes). c ++ Y) (append_assoc H d (R ++ Z)))

  pub marks_ready : Walkable (take last B) first records
  marks_ready = walks X₀ X₀_long B old_front

  module _ (m : Marked b) where
    abbrev t : List ℕ
    t = m.table

    all_kept : pick_from (keeps dropped) 0 (take records rs) ≡ kept
    all_kept = ap (pick_from (keeps dropped) 0) (take_all records rs (omega (arith, ok.records_are)))

    marked : (n : ℕ) → n < 13104 → bit_of t n ≡ (if named kept n then 1 else 0)
    marked n p =
        m.marks n p
        ∙ ap (λ (b : Bool). if b then 1 else 0)
        (ap (λ (f : Bytes). named_by f dropped first records n) (front_is X₀ X₀_long B old_front)
        ∙ named_is X₀ rs first X₀_long [] (short X₀ X₀_long) (length hs) within.records_fit dropped records (omega (arith, ok.records_are)) n
        ∙ ap (λ (l : List Record). named l n) all_kept)

    counts : (n : ℕ) → n ≤ 13104 → bits_below t n ≡ count_below (named kept) n
    counts n p = bits_count t (named kept) 13104 marked n p

    abbrev H₁ : Bytes
    H₁ = write_strings (pick_from (named kept) 0 hs)

    pub heads_counted : bits_below t headers ≡ length after.headers
    unfolding cleared packed count_below
    heads_counted =
        counts headers headers_few
        ∙ ap (count_below (named kept)) (ok.headers_are ∙ sym (zero-add (length hs)))
        ∙ pick_many (named kept) 0 hs
        ∙ zero-add (length (pick_from (named kept) 0 hs))

    pub records_counted : count_below (keeps dropped) records ≡ length after.records
    unfolding count_below
    records_counted =
        ap (count_below (keeps dropped)) (ok.records_are ∙ sym (zero-add (length rs)))
        ∙ pick_many (keeps dropped) 0 rs
        ∙ zero-add (length kept)
        ∙ sym (cleared_many dropped day within)

    H₁_short : length H₁ ≤ length H
    H₁_short = strings_less (named kept) 0 hs

    -- ---- The headers: their count, and those that are kept

    module _ (h : CountPut b m) where
      abbrev out₁ : Bytes
      out₁ = h.out

      abbrev c₁ : Bytes
      c₁ = digits 256 4 h.count

      c₁_long : length c₁ ≡ 4
      c₁_long = length_digits 256 4 h.count

      abbrev Y₁ : Bytes
      Y₁ = d ++ (R ++ Z)

      is₁ : out₁ ≡ c₁ ++ (H ++ Y₁)
      is₁ = h.put ∙ ap (placed 0 c₁) old ∙ put_between [] c (H ++ Y₁) c₁ 0 refl (c_long ∙ sym c₁_long)

      H_short : length H < 65536
      H_short = omega (arith, first_long, size_is, size_short)

      head_end_is : head_end out₁ headers ≡ 4 + length H
      head_end_is =
          (λ i. head_end (is₁ i) (ok.headers_are i))
          ∙ head_at c₁ c₁_long hs Y₁ H_short (length hs) (omega arith)
          ∙ ap (λ (l : List Bytes). 4 + length (write_strings l)) (take_all (length hs) hs (omega arith))

      heads_kept_lem : heads_kept out₁ t headers ≡ H₁
      heads_kept_lem =
          (λ i. heads_kept (is₁ i) t (ok.headers_are i))
          ∙ heads_are c₁ c₁_long hs Y₁ H_short t (named kept) marked few (length hs) (omega arith)
          ∙ ap (λ (l : List Bytes). write_strings (pick_from (named kept) 0 l)) (take_all (length hs) hs (omega arith))

      out₁_long : length out₁ ≡ length B
      out₁_long = ap length is₁ ∙ omega (arith, length-append c₁ (H ++ Y₁), c₁_long, ap length old, length-append c (H ++ Y₁), c_long)

      B_long : 8 + length H + length R ≤ length B
      B_long = omega (arith, ok.inside, size_is, first_long)

      pub heads_ready : head_end out₁ headers ≤ length out₁
      heads_ready = omega (arith, head_end_is, out₁_long, B_long)

      packed₁ : Packed B c₁ 4 out₁
      packed₁ = packed_more (packed_start B 0 4 (omega arith) (omega (arith, B_long))) 0 refl c₁ 4 (omega arith) (omega (arith, c₁_long)) (omega (arith, B_long)) out₁ h.put

      module _ (q : HeadersPut b m h) where
        abbrev to : ℕ
        to = q.to

        abbrev out₂ : Bytes
        out₂ = q.out

        pub to_long : to ≡ 4 + length H₁
        to_long = q.to_is ∙ ap (λ (X : Bytes). 4 + length X) heads_kept_lem

        pub to_room : to + 4 ≤ first
        to_room = omega (arith, to_long, H₁_short, first_long)

        packed₂ : Packed B (c₁ ++ H₁) (4 + length H) out₂
        packed₂ =
            packed_then packed₁ H₁ (4 + length H) (omega arith)
            (packed_as (ap (λ (n : ℕ). take n out₁ ++ H₁) (sym c₁_long)) refl (packed_as (ap (λ (X : Bytes). take 4 out₁ ++ X) heads_kept_lem) head_end_is q.put))

        -- ---- The records: their count, and those that are kept

        module _ (k : NumberPut b m h q) where
          abbrev n : ℕ
          n = k.count

          abbrev out₃ : Bytes
          out₃ = k.out

          abbrev d₁ : Bytes
          d₁ = digits 256 4 n

          d₁_long : length d₁ ≡ 4
          d₁_long = length_digits 256 4 n

          abbrev front₃ : Bytes
          front₃ = c₁ ++ H₁ ++ d₁

          front₃_long : length front₃ ≡ to + 4
          front₃_long = omega (arith, length-append (c₁ ++ H₁) d₁, length-append c₁ H₁, c₁_long, d₁_long, to_long)

          packed₃ : Packed B front₃ first out₃
          packed₃ =
              packed_more packed₂ to (omega (arith, length-append c₁ H₁, c₁_long, to_long)) d₁ first (omega (arith, first_long)) (omega (arith, d₁_long, to_room))
              (omega (arith, B_long, first_long)) out₃ k.put

          abbrev X₃ : Bytes
          X₃ = take first out₃

          X₃_long : length X₃ ≡ first
          X₃_long = length-take-le first out₃ (omega (arith, packed₃.long, B_long, first_long))

          is₃ : out₃ ≡ X₃ ++ (R ++ Z)
          is₃ =
              sym (take-append-drop first out₃)
              ∙ ap (λ (Y : Bytes). X₃ ++ Y) (packed₃.rest ∙ ap (drop first) old_front ∙ drop_at X₀ (R ++ Z) first X₀_long)

          pub records_ready : Walkable (take last out₃) first records
          records_ready = walks X₃ X₃_long out₃ is₃

          pub records_counted_at : (before : List ℕ) → Tallied before t headers → CountedAll before t (take last out₃) first records
          records_counted_at before w = counted X₃ X₃_long out₃ is₃ t before w

          pub out₃_long : length out₃ ≡ length B
          out₃_long = packed₃.long

          abbrev R₁ : Bytes
          R₁ = write_records (map (mended kept) kept)

          records_kept_lem : records_kept (take last out₃) t dropped first records ≡ R₁
          records_kept_lem =
              ap (λ (f : Bytes). records_kept f t dropped first records) (front_is X₃ X₃_long out₃ is₃)
              ∙ records_are X₃ rs first X₃_long [] (short X₃ X₃_long) (length hs) within.records_fit dropped t kept counts few records (omega (arith, ok.records_are))
              ∙ ap (λ (l : List Record). write_records (map (mended kept) l)) all_kept

          module _ (r : RecordsPut b m h q k) where
            abbrev end : ℕ
            end = r.end

            abbrev out₄ : Bytes
            out₄ = r.out

            end_long : end ≡ to + 4 + length R₁
            end_long = r.end_is ∙ ap (λ (X : Bytes). to + 4 + length X) records_kept_lem

            packed₄ : Packed B (front₃ ++ R₁) last out₄
            packed₄ =
                packed_then packed₃ R₁ last (omega (arith, last_is))
                (packed_as (λ i. take (sym front₃_long i) out₃ ++ records_kept_lem i) refl r.put)

            front₄_long : length (front₃ ++ R₁) ≡ end
            front₄_long = omega (arith, length-append front₃ R₁, front₃_long, end_long)

            -- ---- The index, and the whole

            after_records : after.records ≡ map (mended kept) kept
            unfolding cleared packed
            after_records = refl

            many : length (map (mended kept) kept) ≡ n
            many = ap length (sym after_records) ∙ sym (k.count_is ∙ records_counted)

            start_is : to + 4 ≡ first_place after.headers
            unfolding cleared packed
            start_is = omega (arith, first_place_lem after.headers, to_long)

            front_end : take end out₄ ≡ front₃ ++ (R₁ ++ [])
            front_end = ap (λ (j : ℕ). take j out₄) (sym front₄_long) ∙ packed₄.front ∙ ap (λ (X : Bytes). front₃ ++ X) (sym (append-nil R₁))

            small : length front₃ + length R₁ < 4294967296
            small = omega (arith, length-append front₃ R₁, packed₄.behind, last_is, size_is, size_short)

            pub index_ready : end_of (take end out₄) (to + 4) n ≡ end
            index_ready =
                (λ i. end_of (front_end i) (to + 4) (sym many i)) ∙ walk_ends front₃ (map (mended kept) kept) (to + 4) front₃_long [] small ∙ sym end_long

            -- what is written is the cleared file
            pub whole_long : length (write_day after) ≡ end + 4 + 4 * n
            whole_long =
                omega (arith, day_long after, start_is, ap (λ (l : List Record). length (write_records l)) after_records, ap length after_records, many, end_long)

            pub end_room : end + 4 + 4 * n ≤ size
            end_room = omega (arith, whole_long, cleared_shorter dropped day within, ap length written, length-take-le size B ok.inside)

            pub out₄_long : length out₄ ≡ length B
            out₄_long = packed₄.long

            abbrev I₁ : Bytes
            I₁ = digits 256 4 n ++ write_places (places_of (take end out₄) (to + 4) n)

            index_is : I₁ ≡ write_index after
            unfolding write_index
            index_is =
                let places : places_of (take end out₄) (to + 4) n ≡ places_from (first_place after.headers) after.records =
                (λ i. places_of (front_end i) (to + 4) (sym many i))
                ∙ walk_places front₃ (map (mended kept) kept) (to + 4) front₃_long [] small
                ∙ (λ i. places_from (start_is i) (sym after_records i)) in
                λ i. digits 256 4 ((k.count_is ∙ records_counted) i) ++ write_places (places i)

            whole : front₃ ++ R₁ ++ I₁ ≡ write_day after
            unfolding write_day write_headers cleared packed
            whole = λ i. digits 256 4 ((h.count_is ∙ heads_counted) i) ++ H₁ ++ digits 256 4 ((k.count_is ∙ records_counted) i) ++ R₁ ++ index_is i

            module _ (x : IndexPut b m h q k r) where
              abbrev out₅ : Bytes
              out₅ = x.out

              packed₅ : Packed B (write_day after) size out₅
              packed₅ =
                  packed_as whole refl
                  (packed_more packed₄ end (sym front₄_long) I₁ size (omega (arith, last_is, size_is)) (omega (arith, ap length index_is, index_long after, many, ap length after_records, end_room)) ok.inside out₅ x.put)

              pub out₅_long : length out₅ ≡ length B
              out₅_long = packed₅.long

              -- ---- The zeros

              pub cleared_all : (exit zeros : Bytes) → zeros ≡ replicate (size - (end + 4 + 4 * n)) 0
                  → exit ≡ take (end + 4 + 4 * n) out₅ ++ (zeros ++ drop (size - (end + 4 + 4 * n)) (drop (end + 4 + 4 * n) out₅))
                  → exit ≡ write_day after ++ replicate (size - length (write_day after)) 0 ++ drop size B
              cleared_all exit zeros z e =
                  let new = end + 4 + 4 * n in
                  let gap : new + (size - new) ≡ size = omega (arith, end_room) in
                  let front : take new out₅ ≡ write_day after = ap (λ (j : ℕ). take j out₅) (sym whole_long) ∙ packed₅.front in
                  let rest : drop (size - new) (drop new out₅) ≡ drop size B = drop-drop (size - new) new out₅ ∙ ap (λ (j : ℕ). drop j out₅) gap ∙ packed₅.rest in
                  e
                  ∙ (λ i. front i ++ (z i ++ rest i))
                  ∙ sym (append_assoc (write_day after) (replicate (size - new) 0) (drop size B))
                  ∙ ap (λ (j : ℕ). write_day after ++ replicate (size - j) 0 ++ drop size B) (sym whole_long)
