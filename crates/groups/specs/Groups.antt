-- Sixteen blocks at a time: a group is a list of sixteen blocks of columns.
use Rattle.std.specs.Prelude.{List, [], ◌∷◌, ◌≡◌, ℕ, ◌+◌, ◌-◌, ◌*◌, ◌/◌, ◌%◌, ◌<◌, ltb, length, take, drop, get_or, replicate, if◌then◌else◌}
use Rattle.paper.specs.Strings.{Bytes, ◌⊕◌}
use Rattle.paper.specs.Section7.{zeros, two_to, AES4}
use Rattle.paper.specs.Figure6.{Key}
use Rattle.columns.specs.Columns.{columns_of, block_of}
use Rattle.planes.specs.Planes.{plane_block, place_of, copied}
use Rattle.multiples.specs.Eight.{four_at}

-- the group whose i-th entry is f i
abbrev pub each : (ℕ → List ℕ) → List (List ℕ)
each f =
    f 0 ∷ f 1 ∷ f 2 ∷ f 3 ∷ f 4 ∷ f 5 ∷ f 6 ∷ f 7 ∷ f 8 ∷ f 9 ∷ f 10 ∷ f 11 ∷ f 12 ∷ f 13 ∷ f 14 ∷ f 15 ∷ []

-- the columns of the i-th block of a group
abbrev pub entry : List (List ℕ) → ℕ → List ℕ
entry g i = get_or g i []

-- the columns of the 16 bytes of s from a place on, or zeros where s ends before them
abbrev pub loaded : Bytes → ℕ → List ℕ
loaded s at = if ltb (length s) (at + 16) then columns_of zeros else columns_of (take 16 (drop at s))

-- AES4 of each block of a group g, the i-th under the list of keys k i
unfoldable pub AES4s : (ℕ → List Bytes) → List (List ℕ) → List (List ℕ)
AES4s k g = each (λ i. columns_of (AES4 (k i) (block_of (entry g i))))

-- the keys of the i-th block: zero, and those in its place on planes
abbrev pub five_keys : List ℕ → List ℕ → List ℕ → List ℕ → ℕ → List Bytes
five_keys w1 w2 w3 w4 i =
    zeros ∷ plane_block w1 (place_of i) ∷ plane_block w2 (place_of i) ∷ plane_block w3 (place_of i) ∷ plane_block w4 (place_of i) ∷ []

-- lines 406 and 408 for the numbers from b on: m is 0·J to 7·J, and power the power of L for b, which doubles after each eighth number
abbrev pub mask_from : List ℕ → ℕ → List ℕ → ℕ → Bytes
mask_from m b power i = block_of (four_at m (4 * ((b + i) % 8))) ⊕ two_to ((b + i - 1) / 8 - (b - 1) / 8) (block_of power)

-- the key that the first three of four blocks on planes, I, J and L, hold for the i-th block of a group
unfoldable pub key_for : List (List ℕ) → ℕ → Key
key_for w i = record {
  I = plane_block (entry w 0) (place_of i);
  J = plane_block (entry w 1) (place_of i);
  L = plane_block (entry w 2) (place_of i);
}

-- the fourth is zeros: the last key of k0 and k1
abbrev pub EndsInZero : List (List ℕ) → Type 0
EndsInZero w = entry w 3 ≡ replicate 32 0

-- w holds the key K for each of the sixteen blocks, and zero
abbrev pub Holds : Key → List (List ℕ) → Type 0
Holds K w = ((i : ℕ) → i < 16 → key_for w i ≡ K) × EndsInZero w

-- I, J and L of a key on planes, each in every place, and zero
unfoldable pub keys_of : Key → List (List ℕ)
keys_of K = copied (columns_of K.I) ∷ copied (columns_of K.J) ∷ copied (columns_of K.L) ∷ replicate 32 0 ∷ []
