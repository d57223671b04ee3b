-- FIPS 197's inverse, computed over all bytes.
use mathlib.Core.Path.{◌≡◌, refl}
use Prim.Native.Nat.{suc}
use lib.ListN.{replicate}
use Rattle.paper.specs.Strings.{tab}
use Rattle.paper.specs.Fips197.{inverse, squares, ◌•◌, mul_bits}

-- the inverse is one: b • b⁻¹ = 1 for each byte but 0, whose inverse is 0
pub inverts : tab 255 (λ n. suc n • inverse (suc n)) ≡ replicate 255 1
unfolding inverse squares ◌•◌ mul_bits
inverts = refl

pub no_inverse : inverse 0 ≡ 0
unfolding inverse squares ◌•◌ mul_bits
no_inverse = refl
