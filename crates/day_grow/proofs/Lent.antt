-- What an append is lent, and the buffer after a new header is brought into it.
use mathlib.Core.List.{[], ◌∷◌}
use mathlib.Core.Path.{◌≡◌}
use Prim.Native.Nat.{ℕ, ◌+◌, ◌-◌, ◌*◌}
use native.Mathlib.Omega.{arith}
use mir.Syntax.{w8}
use mir.Val.{Fits}
use lib.ListN.{length, get_or, take, drop}
use Rattle.paper.specs.Strings.{Bytes, Below, digits}
use Rattle.paper.specs.Document01.{write_strings}
use Rattle.laws.proofs.Digits.{below_of}
use Rattle.laws.specs.Placing.{placed}
use Rattle.day_grow.specs.Grown.{Ready}

-- the file in the buffer reads, with these counts, and it can grow
pub record Lent : Type 0 where
  pub buffer : Bytes
  pub low : Below 256 buffer
  pub size : ℕ
  pub headers : ℕ
  pub records : ℕ
  pub first : ℕ
  pub number : ℕ
  pub header : Bytes
  pub stretch : ℕ
  pub sealed : Bytes
  pub ready : Ready buffer size headers records first number header stretch sealed

-- the call's buffer, whose entries are bytes
abbrev pub lent : {buffer : Bytes} {size headers records first number : ℕ} {header : Bytes} {stretch : ℕ} {sealed : Bytes}
    → Ready buffer size headers records first number header stretch sealed → ((i : ℕ) → Fits w8 (get_or buffer i 0)) → Lent
lent {buffer} {size} {headers} {records} {first} {number} {header} {stretch} {sealed} ready bytes =
    record {
      buffer = buffer;
      low = below_of 256 buffer (λ i p. omega (arith, bytes i));
      size = size;
      headers = headers;
      records = records;
      first = first;
      number = number;
      header = header;
      stretch = stretch;
      sealed = sealed;
      ready = ready;
    }

-- where its records end
abbrev pub last_of : Lent → ℕ
last_of l = l.size - 4 - 4 * l.records

-- the three steps that bring a header: what follows the headers is moved, the header is put there, and the count mended
pub record Brought (l : Lent) : Type 0 where
  pub moved : Bytes
  pub moved_is : moved ≡ placed (l.first - 4 + (2 + length l.header)) (take (last_of l - (l.first - 4)) (drop (l.first - 4) l.buffer)) l.buffer
  pub headed : Bytes
  pub headed_is : headed ≡ placed (l.first - 4) (write_strings (l.header ∷ [])) moved
  pub out : Bytes
  pub out_is : out ≡ placed 0 (digits 256 4 (l.headers + 1)) headed
  pub kept : length out ≡ length l.buffer
