-- Section 7 of the AEZ paper, NOTATION, second part: multiples of blocks, and the AES round in lists of keys.
use Rattle.std.specs.Prelude.{List, [], ◌∷◌, ◌++◌, ℕ, zero, suc, ◌*◌, ◌/◌, ◌%◌, eqb, drop, get_or, replicate, if◌then◌else◌}
use Rattle.paper.specs.Strings.{Bytes, Bits, ◌⊕◌, bits, bytes, number}
use Rattle.paper.specs.Fips197.{SubBytes, ShiftRows, MixColumns}

infixr 72 ◌·◌
-- the block of zeros
abbrev pub zeros : Bytes
zeros = replicate 16 0

-- msb(X) = X(1), the first of the bits
abbrev pub msb : Bits → ℕ
msb a = get_or a 0 0

-- X ≪ 1 = a_2 .. a_128 0, for X = a_1 .. a_128
unfoldable pub shift_left : Bits → Bits
shift_left a = drop 1 a ++ 0 ∷ []

-- 2·X = (X ≪ 1) ⊕ [135·msb(X)]_128; a is the bits of X
unfoldable pub double : Bytes → Bytes
double X = let a = bits X in bytes (shift_left a) ⊕ number (135 * msb a)

-- n·X for n below 2^k: 0·X = 0, 2n·X = 2·(n·X), (2n + 1)·X = (2n·X) ⊕ X. At 1 this gives 2·0 ⊕ X, which is X
unfoldable pub times_bits : ℕ → ℕ → Bytes → Bytes
times_bits zero n X = zeros
times_bits (suc k) zero X = zeros
times_bits (suc k) (suc n) X =
    let Y = double (times_bits k (suc n / 2) X) in
    if eqb (suc n % 2) 0 then Y else Y ⊕ X

-- n·X; n is below 2^n
unfoldable pub ◌·◌ : ℕ → Bytes → Bytes
n · X = times_bits n n X

-- 2^e·X, by 2n·X = 2·(n·X): e doublings
unfoldable pub two_to : ℕ → Bytes → Bytes
two_to zero X = X
two_to (suc e) X = double (two_to e X)

-- aesenc(X, K): SubBytes, ShiftRows, MixColumns, then AddRoundKey with K
unfoldable pub aesenc : Bytes → Bytes → Bytes
aesenc X K = MixColumns (ShiftRows (SubBytes X)) ⊕ K

-- aesenc(.. aesenc(aesenc(X, K_1), K_2) .., K_r): every round keeps its MixColumns
unfoldable pub rounds : List Bytes → Bytes → Bytes
rounds [] X = X
rounds (K ∷ Ks) X = rounds Ks (aesenc X K)

-- K_0 is added, then come the rounds with K_1, K_2, ..
unfoldable pub AES : List Bytes → Bytes → Bytes
AES [] X = X
AES (K0 ∷ Ks) X = rounds Ks (X ⊕ K0)

-- AES4(K, X) is for a list of five blocks K, AES10(K, X) the same for eleven
abbrev pub AES4 : List Bytes → Bytes → Bytes
AES4 K X = AES K X

abbrev pub AES10 : List Bytes → Bytes → Bytes
AES10 K X = AES K X
