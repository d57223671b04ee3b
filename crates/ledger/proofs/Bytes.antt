-- What a slice of bytes holds is below 256.
use Rattle.std.proofs.Common.{ℕ, Fits, w8, get_or, arith}
use Rattle.paper.specs.Strings.{Bytes, Below}
use Rattle.laws.proofs.Digits.{below_of}

pub below_256 : (X : Bytes) → ((i : ℕ) → Fits w8 (get_or X i 0)) → Below 256 X
below_256 X fits = below_of 256 X (λ i p. omega (arith, fits i))
