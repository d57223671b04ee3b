-- Figure 5 of the AEZ paper: encrypting, enciphering, AEZ-tiny and AEZ-core, and the way back. The numbers are the figure's lines.
-- E is the block function, which has the key in it. Lengths of byte strings are in bytes, so 32 stands where the figure has 256, and so on;
-- AEZ-tiny works on bits, as the figure does.
use Rattle.std.specs.Prelude.{List, [], ◌∷◌, ◌++◌, ℕ, zero, suc, ◌+◌, ◌-◌, ◌*◌, ◌/◌, ◌%◌, eqb, leb, ltb, length, take, drop, replicate, if◌then◌else◌}
use Rattle.std.proofs.Math.Option.{Option, none, some}
use Rattle.paper.specs.Strings.{Bytes, Bits, same, ◌⊕◌, ◌or◌, ◌and◌, bits0*, bits10*, pad10*, number, number_bits, bits, bytes, sum, join}
use Rattle.paper.specs.Figure6.{minus1, row, BlockFunction, AEZ_hash, AEZ_prf}

-- L and R of AEZ-tiny
pub record Halves : Type 0 where
  pub L : Bits
  pub R : Bits

-- 212, 213: the number of rounds for m bits
abbrev pub tiny_rounds : ℕ → ℕ
tiny_rounds m = if eqb m 8 then 24 else if eqb m 16 then 16 else if ltb m 128 then 10 else 8

-- 214: the second index of the rounds for m bits
abbrev pub tiny_index : ℕ → ℕ
tiny_index m = if leb 128 m then 6 else 7

-- 214: L ← M(1 .. n), R ← M(n + 1 .. m)
abbrev pub halves : ℕ → Bits → Halves
halves n M = record { L = take n M; R = drop n M }

-- 217: C ← R ‖ L
abbrev pub joined : Halves → Bits
joined s = s.R ++ s.L

module _ (E : BlockFunction) (Δ : Bytes) where
  -- E^{0,j} of Δ ⊕ X, on bits
  abbrev pub tiny_e : ℕ → Bits → Bits
  tiny_e j X = bits (E (row 0) j (bytes (bits Δ ⊕ X)))

  -- 216: turn i
  unfoldable pub turn : ℕ → ℕ → ℕ → Halves → Halves
  turn n j i s = record { L = s.R; R = s.L ⊕ take n (tiny_e j (bits10* s.R ⊕ number_bits i)) }

  -- 215: turns 0, 1, .. k - 1
  unfoldable pub turns_up : ℕ → ℕ → ℕ → Halves → Halves
  turns_up n j zero s = s
  turns_up n j (suc k) s = turn n j k (turns_up n j k s)

  -- 215 when deciphering: turns k - 1, .. 1, 0
  unfoldable pub turns_down : ℕ → ℕ → ℕ → Halves → Halves
  turns_down n j zero s = s
  turns_down n j (suc k) s = turns_down n j k (turn n j k s)

  -- 217, its `if`
  unfoldable pub last_step : ℕ → Bits → Bits
  last_step m C = if ltb m 128 then C ⊕ (tiny_e 3 (bits0* C or bits10* []) and bits10* []) else C

  -- 210 to 218
  unfoldable pub encipher_tiny : Bytes → Bytes
  encipher_tiny M =
      let m = 8 * length M in
      let n = m / 2 in
      bytes (last_step m (joined (turns_up n (tiny_index m) (tiny_rounds m) (halves n (bits M)))))

  -- deciphering: the `if` of 217 stands after 213, and 215 counts down
  unfoldable pub decipher_tiny : Bytes → Bytes
  decipher_tiny M =
      let m = 8 * length M in
      let n = m / 2 in
      bytes (joined (turns_down n (tiny_index m) (tiny_rounds m) (halves n (last_step m (bits M)))))

-- 221, 222: how many pairs a string of n bytes has, and how many bytes M_uv
abbrev pub pairs : ℕ → ℕ
pairs n = n / 32 - 1

abbrev pub rest : ℕ → ℕ
rest n = n % 32

-- 220 to 225: what needs the string alone
module _ (M : Bytes) where
  -- 221, 222: M_1 M'_1 .. M_m M'_m M_uv M_x M_y ← M
  abbrev pub m : ℕ
  m = pairs (length M)

  abbrev pub d : ℕ
  d = rest (length M)

  abbrev pub Mᵢ : ℕ → Bytes
  Mᵢ i = take 16 (drop (32 * (i - 1)) M)

  abbrev pub M'ᵢ : ℕ → Bytes
  M'ᵢ i = take 16 (drop (32 * (i - 1) + 16) M)

  abbrev pub Muv : Bytes
  Muv = take d (drop (32 * m) M)

  abbrev pub Mx : Bytes
  Mx = take 16 (drop (32 * m + d) M)

  abbrev pub My : Bytes
  My = drop (32 * m + d + 16) M

  -- 224, 225
  abbrev pub Mu : Bytes
  Mu = if leb d 15 then Muv else take 16 Muv

  abbrev pub Mv : Bytes
  Mv = if leb d 15 then [] else drop 16 Muv

-- 226 to 240. x and y are 1 and 2 for enciphering, and exchanged for deciphering
module _ (E : BlockFunction) (Δ : Bytes) (x y : ℕ) (M : Bytes) where
  -- 226
  unfoldable pub Wᵢ : ℕ → Bytes
  Wᵢ i = Mᵢ M i ⊕ E (row 1) i (M'ᵢ M i)

  unfoldable pub Xᵢ : ℕ → Bytes
  Xᵢ i = M'ᵢ M i ⊕ E (row 0) 0 (Wᵢ i)

  -- 227 to 229
  unfoldable pub X : Bytes
  X =
      if eqb (d M) 0 then sum (m M) Xᵢ
      else if leb (d M) 15 then sum (m M) Xᵢ ⊕ E (row 0) 4 (pad10* (Mu M))
      else sum (m M) Xᵢ ⊕ E (row 0) 4 (Mu M) ⊕ E (row 0) 5 (pad10* (Mv M))

  -- 230
  unfoldable pub Sx : Bytes
  Sx = Mx M ⊕ Δ ⊕ X ⊕ E (row 0) x (My M)

  unfoldable pub Sy : Bytes
  Sy = My M ⊕ E minus1 x Sx

  unfoldable pub S : Bytes
  S = Sx ⊕ Sy

  -- 232
  unfoldable pub S'ᵢ : ℕ → Bytes
  S'ᵢ i = E (row 2) i S

  unfoldable pub Yᵢ : ℕ → Bytes
  Yᵢ i = Wᵢ i ⊕ S'ᵢ i

  unfoldable pub Zᵢ : ℕ → Bytes
  Zᵢ i = Xᵢ i ⊕ S'ᵢ i

  -- 233
  unfoldable pub C'ᵢ : ℕ → Bytes
  C'ᵢ i = Yᵢ i ⊕ E (row 0) 0 (Zᵢ i)

  unfoldable pub Cᵢ : ℕ → Bytes
  Cᵢ i = Zᵢ i ⊕ E (row 1) i (C'ᵢ i)

  -- 234 to 238
  unfoldable pub Cu : Bytes
  Cu = if eqb (d M) 0 then [] else Mu M ⊕ E minus1 4 S

  unfoldable pub Cv : Bytes
  Cv = if leb (d M) 15 then [] else Mv M ⊕ E minus1 5 S

  unfoldable pub Y : Bytes
  Y =
      if eqb (d M) 0 then sum (m M) Yᵢ
      else if leb (d M) 15 then sum (m M) Yᵢ ⊕ E (row 0) 4 (pad10* Cu)
      else sum (m M) Yᵢ ⊕ E (row 0) 4 Cu ⊕ E (row 0) 5 (pad10* Cv)

  -- 239
  unfoldable pub Cy : Bytes
  Cy = Sx ⊕ E minus1 y Sy

  unfoldable pub Cx : Bytes
  Cx = Sy ⊕ Δ ⊕ Y ⊕ E (row 0) y Cy

  -- 240
  unfoldable pub core : Bytes
  core = join (m M) (λ i. Cᵢ i ++ C'ᵢ i) ++ Cu ++ Cv ++ Cx ++ Cy

module _ (E : BlockFunction) (Δ : Bytes) where
  abbrev pub encipher_core : Bytes → Bytes
  encipher_core M = core E Δ 1 2 M

  -- deciphering: (0, 1) and (0, 2) are swapped, and so are (-1, 1) and (-1, 2)
  abbrev pub decipher_core : Bytes → Bytes
  decipher_core M = core E Δ 2 1 M

  -- 200 to 202; Δ is AEZ-hash of the tweak (211, 223)
  unfoldable pub encipher : Bytes → Bytes
  encipher X = if ltb (length X) 32 then encipher_tiny E Δ X else encipher_core X

  unfoldable pub decipher : Bytes → Bytes
  decipher Y = if ltb (length Y) 32 then decipher_tiny E Δ Y else decipher_core Y

-- 102, 111: T ← ([τ]_128, N, A_1, .. A_m) with τ = 8t bits for t bytes; NA is N, A_1, .. A_m
abbrev pub tweak : ℕ → List Bytes → List Bytes
tweak t NA = number (8 * t) ∷ NA

module _ (E : BlockFunction) (NA : List Bytes) (t : ℕ) where
  -- 211, 223
  abbrev pub delta : Bytes
  delta = AEZ_hash E (tweak t NA)

  -- 100 to 103
  unfoldable pub encrypt : Bytes → Bytes
  encrypt M =
      if eqb (length M) 0 then AEZ_prf E (tweak t NA) t
      else encipher E delta (M ++ replicate t 0)

  -- 114, 115: M ‖ Z ← X where |Z| = τ
  unfoldable pub unpadded : Bytes → Option Bytes
  unpadded X = if same (drop (length X - t) X) (replicate t 0) then some (take (length X - t) X) else none

  -- 110 to 115; none is ⊥
  unfoldable pub decrypt : Bytes → Option Bytes
  decrypt C =
      if ltb (length C) t then none
      else if eqb (length C) t then (if same C (AEZ_prf E (tweak t NA) t) then some [] else none)
      else unpadded (decipher E delta C)
