-- 32 words turned over, by levels in which two words exchange bits.
use Rattle.std.specs.Prelude.{List, ℕ, ◌+◌, ◌-◌, ◌*◌, ◌/◌, ◌%◌, eqb, get_or, if◌then◌else◌}
use Rattle.paper.specs.Strings.{tab}
use Rattle.paper.specs.Fips197.{bit}
use Rattle.laws.proofs.WordBits.{word_of}
use Rattle.laws.proofs.Exchange.{lower, upper}

-- bit k of word i
abbrev pub bits_of : List ℕ → ℕ → ℕ → ℕ
bits_of l i k = bit (get_or l i 0) k

-- 32 words by their bits
abbrev pub words_of : (ℕ → ℕ → ℕ) → List ℕ
words_of f = tab 32 (λ i. word_of 64 (f i))

-- a level of c words: words i and i + d exchange bits, where i / d is even
abbrev pub leveled_bit : ℕ → ℕ → ℕ → (ℕ → ℕ → ℕ) → ℕ → ℕ → ℕ
leveled_bit d n m f i k =
    if eqb (i / d % 2) 0 then upper n m (f (i + d)) (f i) k else lower n m (f i) (f (i - d)) k

unfoldable pub leveled : ℕ → ℕ → ℕ → ℕ → List ℕ → List ℕ
leveled c d n m w = tab c (λ i. word_of 64 (leveled_bit d n m (bits_of w) i))

-- the masks of the five levels: the bits k for which k / n is even
abbrev pub mask1 : ℕ
mask1 = 0x5555555555555555

abbrev pub mask2 : ℕ
mask2 = 0x3333333333333333

abbrev pub mask4 : ℕ
mask4 = 0x0f0f0f0f0f0f0f0f

abbrev pub mask8 : ℕ
mask8 = 0x00ff00ff00ff00ff

abbrev pub mask16 : ℕ
mask16 = 0x0000ffff0000ffff

-- two levels, between words that stand 2 and 1 apart, and three, between words that stand 4 d, 2 d and d apart
abbrev pub near : ℕ → List ℕ → List ℕ
near c w = leveled c 1 8 mask8 (leveled c 2 16 mask16 w)

abbrev pub far : ℕ → ℕ → List ℕ → List ℕ
far c d w = leveled c d 1 mask1 (leveled c (2 * d) 2 mask2 (leveled c (4 * d) 4 mask4 w))

-- 32 words turned over: bit 32 h + 8 c + d of word 4 a + b changes places with bit 32 h + 8 b + a of word 4 d + c
abbrev pub turned_bit : (ℕ → ℕ → ℕ) → ℕ → ℕ → ℕ
turned_bit f i k = f (4 * (k % 8) + k / 8 % 4) (32 * (k / 32) + 8 * (i % 4) + i / 4)

unfoldable pub turned : List ℕ → List ℕ
turned w = words_of (turned_bit (bits_of w))
