-- A table of bits, eight to a byte, the lowest first.
use Rattle.std.specs.Prelude.{List, ◌≡◌, ℕ, zero, suc, ◌+◌, ◌*◌, ◌/◌, ◌%◌, ◌^◌, ◌<◌, get_or, set}
use Rattle.std.specs.Int.Bits.{bit_or}

-- bit n: 0 or 1
abbrev pub bit_of : List ℕ → ℕ → ℕ
bit_of t n = get_or t (n / 8) 0 / 2 ^ (n % 8) % 2

-- the table with bit n set
abbrev pub with_bit : List ℕ → ℕ → List ℕ
with_bit t n = set t (n / 8) (bit_or (get_or t (n / 8) 0) (2 ^ (n % 8)))

-- how many bits below n are set
unfoldable pub bits_below : List ℕ → ℕ → ℕ
bits_below t zero = 0
bits_below t (suc n) = bits_below t n + bit_of t n

-- for each group of 64 bits that starts before bit n, how many are set before it
abbrev pub Tallied : List ℕ → List ℕ → ℕ → Type 0
Tallied before t n = (k : ℕ) → k * 64 < n → get_or before k 0 ≡ bits_below t (k * 64)

-- the group of bit n is one of them
abbrev pub Counted : List ℕ → List ℕ → ℕ → Type 0
Counted before t n = get_or before (n / 64) 0 ≡ bits_below t (n / 64 * 64)
