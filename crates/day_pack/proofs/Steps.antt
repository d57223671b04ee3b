-- A clearing after each of its steps: what was written, and by which contract it is known.
use mathlib.Core.List.{List, ◌++◌}
use mathlib.Core.Path.{◌≡◌, ap, subst, ◌∙◌}
use Prim.Native.Nat.{ℕ, ◌+◌, ◌-◌, ◌*◌}
use native.Mathlib.Omega.{arith}
use mir.Syntax.{w8}
use mir.Val.{Fits}
use lib.ListN.{length, get_or, take}
use Rattle.paper.specs.Strings.{Bytes, Below, digits}
use Rattle.paper.specs.DayFile.{write_places}
use Rattle.paper.specs.DayEdits.{count_below, keeps}
use Rattle.laws.proofs.Digits.{below_of}
use Rattle.laws.specs.Placing.{placed}
use Rattle.day_place.specs.Walked.{places_of}
use Rattle.day_pack.specs.Bits.{bits_below}
use Rattle.day_pack.specs.Kept.{MarksOf, head_end, heads_kept, records_kept, Packed}
use Rattle.day_pack.specs.Cleared.{Clearable}

-- the buffer as it was lent
pub record Begun : Type 0 where
  pub buffer : Bytes
  pub low : Below 256 buffer
  pub size : ℕ
  pub headers : ℕ
  pub records : ℕ
  pub first : ℕ
  pub dropped : List ℕ
  pub clearable : Clearable buffer size headers records first dropped

-- a call's buffer, whose entries are bytes
abbrev pub begun : {buffer : Bytes} {size headers records first : ℕ} {dropped : List ℕ} → Clearable buffer size headers records first dropped → ((i : ℕ) → Fits w8 (get_or buffer i 0)) → Begun
begun {buffer} {size} {headers} {records} {first} {dropped} clearable bytes =
    record {
      buffer = buffer;
      low = below_of 256 buffer (λ i p. omega (arith, bytes i));
      size = size;
      headers = headers;
      records = records;
      first = first;
      dropped = dropped;
      clearable = clearable;
    }

-- where its records end
abbrev pub last_of : Begun → ℕ
last_of b = b.size - 4 - 4 * b.records

-- the headers that kept records name are marked, and the marks counted
pub record Marked (b : Begun) : Type 0 where
  pub table : List ℕ
  pub marks : MarksOf table (take (last_of b) b.buffer) b.dropped b.first b.records

-- the count of these headers is put first
pub record CountPut (b : Begun) (m : Marked b) : Type 0 where
  pub count : ℕ
  pub count_is : count ≡ bits_below m.table b.headers
  pub out : Bytes
  pub put : out ≡ placed 0 (digits 256 4 count) b.buffer

-- these headers follow it
pub record HeadersPut (b : Begun) (m : Marked b) (h : CountPut b m) : Type 0 where
  pub to : ℕ
  pub to_is : to ≡ 4 + length (heads_kept h.out m.table b.headers)
  pub out : Bytes
  pub put : Packed h.out (take 4 h.out ++ heads_kept h.out m.table b.headers) (head_end h.out b.headers) out

-- the count of the kept records follows them
pub record NumberPut (b : Begun) (m : Marked b) (h : CountPut b m) (q : HeadersPut b m h) : Type 0 where
  pub count : ℕ
  pub count_is : count ≡ count_below (keeps b.dropped) b.records
  pub out : Bytes
  pub put : out ≡ placed q.to (digits 256 4 count) q.out

-- these records follow it
pub record RecordsPut (b : Begun) (m : Marked b) (h : CountPut b m) (q : HeadersPut b m h) (n : NumberPut b m h q) : Type 0 where
  pub end : ℕ
  pub end_is : end ≡ q.to + 4 + length (records_kept (take (last_of b) n.out) m.table b.dropped b.first b.records)
  pub out : Bytes
  pub put : Packed n.out (take (q.to + 4) n.out ++ records_kept (take (last_of b) n.out) m.table b.dropped b.first b.records) (last_of b) out

-- these, where the counts hold a table that is the same
abbrev pub records_put : (b : Begun) (m : Marked b) (h : CountPut b m) (q : HeadersPut b m h) (n : NumberPut b m h q) (t : List ℕ) → t ≡ m.table → (end : ℕ) (out : Bytes)
    → end ≡ q.to + 4 + length (records_kept (take (last_of b) n.out) t b.dropped b.first b.records)
    → Packed n.out (take (q.to + 4) n.out ++ records_kept (take (last_of b) n.out) t b.dropped b.first b.records) (last_of b) out → RecordsPut b m h q n
records_put b m h q n t same end out is put =
    record {
      end = end;
      end_is = is ∙ ap (λ (u : List ℕ). q.to + 4 + length (records_kept (take (last_of b) n.out) u b.dropped b.first b.records)) same;
      out = out;
      put = subst (λ (u : List ℕ). Packed n.out (take (q.to + 4) n.out ++ records_kept (take (last_of b) n.out) u b.dropped b.first b.records) (last_of b) out) same put;
    }

-- the index follows them
pub record IndexPut (b : Begun) (m : Marked b) (h : CountPut b m) (q : HeadersPut b m h) (n : NumberPut b m h q) (r : RecordsPut b m h q n) : Type 0 where
  pub out : Bytes
  pub put : out ≡ placed r.end (digits 256 4 n.count ++ write_places (places_of (take r.end r.out) (q.to + 4) n.count)) r.out
