-- What clearing marks, and what it puts where, by walks over the bytes of a buffer.
use Rattle.std.specs.Prelude.{Bool, false, ◌&&◌, ◌||◌, List, [], ◌++◌, ◌≡◌, ℕ, zero, suc, ◌+◌, ◌-◌, ◌≤◌, ◌<◌, eqb, ltb, length, get_or, take, drop, if◌then◌else◌}
use Rattle.paper.specs.Strings.{Bytes, digits}
use Rattle.paper.specs.DayFile.{value}
use Rattle.paper.specs.DayEdits.{has, keeps}
use Rattle.day_steps.specs.Walks.{entry_at}
use Rattle.day_place.specs.Walked.{end_of}
use Rattle.day_pack.specs.Bits.{bit_of, bits_below, Counted}

-- whether entry j of a list is k
abbrev pub next_is : List ℕ → ℕ → ℕ → Bool
next_is dropped j k = ltb j (length dropped) && eqb (get_or dropped j 0) k

-- ---- The records that stand in a buffer's front

-- they end where it ends, and each names one of at most 13,104 headers
pub record Walkable (f : Bytes) (first records : ℕ) : Type 0 where
  pub ends : end_of f first records ≡ length f
  pub short : length f ≤ 65536
  pub few : (i : ℕ) → i < records → (entry_at f (end_of f first i)).header < 13104

-- the number of the header that record i names
abbrev pub number_of : Bytes → ℕ → ℕ → ℕ
number_of f first i = (entry_at f (end_of f first i)).header

-- one of the first i records that are kept names header n
unfoldable pub named_by : Bytes → List ℕ → ℕ → ℕ → ℕ → Bool
named_by f dropped first zero n = false
named_by f dropped first (suc i) n = (keeps dropped i && eqb (number_of f first i) n) || named_by f dropped first i n

-- the bits of the headers that kept records name, and no others
abbrev pub MarksOf : List ℕ → Bytes → List ℕ → ℕ → ℕ → Type 0
MarksOf t f dropped first i = (n : ℕ) → n < 13104 → bit_of t n ≡ (if named_by f dropped first i n then 1 else 0)

-- before the group of each header that a record names the bits are counted
abbrev pub CountedAll : List ℕ → List ℕ → Bytes → ℕ → ℕ → Type 0
CountedAll before t f first records = (i : ℕ) → i < records → Counted before t (number_of f first i)

-- ---- What is put

-- so many bytes of a buffer are written anew, and from a place on it is as it was
pub record Packed (out₀ w : Bytes) (from : ℕ) (out : Bytes) : Type 0 where
  pub front : take (length w) out ≡ w
  pub rest : drop from out ≡ drop from out₀
  pub long : length out ≡ length out₀
  pub behind : length w ≤ from
  pub inside : from ≤ length out₀

-- a part whose bit is set
abbrev pub kept_part : ℕ → Bytes → Bytes
kept_part set X = if eqb set 1 then X else []

-- the place after the first i headers
unfoldable pub head_end : Bytes → ℕ → ℕ
head_end f zero = 4
head_end f (suc i) = head_end f i + (2 + value (take 2 (drop (head_end f i) f)))

-- those of them whose bits are set, each after its two-byte length
unfoldable pub heads_kept : Bytes → List ℕ → ℕ → Bytes
heads_kept f t zero = []
heads_kept f t (suc i) = heads_kept f t i ++ kept_part (bit_of t i) (take (2 + value (take 2 (drop (head_end f i) f))) (drop (head_end f i) f))

-- a record with its number mended
abbrev pub record_part : Bool → ℕ → Bytes → Bytes
record_part dropped number X = if dropped then [] else digits 256 2 number ++ X

-- the first i records without those that are dropped
unfoldable pub records_kept : Bytes → List ℕ → List ℕ → ℕ → ℕ → Bytes
records_kept f t dropped first zero = []
records_kept f t dropped first (suc i) =
    let at = end_of f first i in
    records_kept f t dropped first i ++ record_part (has dropped i) (bits_below t (number_of f first i)) (take (end_of f first (suc i) - (at + 2)) (drop (at + 2) f))
