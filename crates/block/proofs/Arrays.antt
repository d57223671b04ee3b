-- What a function is told of a parameter that is an array of numbers on entry: how many they are, and that each fits its width.
use mathlib.Core.List.{List, [], ◌∷◌}
use Prim.Native.Nat.{ℕ, ◌^◌}
use mir.Syntax.{Width, w8}
use mir.Val.{Val, bits}
use denote.Array.{Array, each}
use denote.Laws.{Is}
use denote.Plain.{UInt}
use denote.Shadow.{shadow}
use Rattle.paper.specs.Strings.{Below, Digits}

low : (w : Width) (xs : List ℕ) (us : List Val) → shadow (each ℕ (UInt w).own_val xs us) → Below (2 ^ bits w) xs
low w [] us p = tt
low w (x ∷ xs) [] p = absurd p
low w (x ∷ xs) (u ∷ us) p = (p.0.1, low w xs us p.1)

pub array_digits : (w : Width) (n : ℕ) (xs : List ℕ) (vs : List Val) → Is (Array (UInt w) n) xs vs → Digits (bits w) n xs
array_digits w n xs vs p = record { len = p.1.0.1; low = low w xs p.0 p.1.1 }

-- `[u8; n]` is a string of n bytes
pub array_bytes : (n : ℕ) (xs : List ℕ) (vs : List Val) → Is (Array (UInt w8) n) xs vs → Digits 8 n xs
array_bytes n xs vs p = array_digits w8 n xs vs p
