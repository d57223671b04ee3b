-- Sixteen blocks, as their columns in words and as their bytes on planes: the words turned over take one to the other, and back.
use mathlib.Core.List.{List, [], ◌∷◌, map}
use mathlib.Core.Path.{◌≡◌, refl, ap, sym, fun_ext, ◌∙◌}
use Prim.Native.Nat.{ℕ, ◌+◌, ◌-◌, ◌*◌, ◌/◌, ◌%◌, ◌^◌}
use native.Mathlib.Nat.{div-one}
use lib.Dec.{ltb}
use lib.ListN.{get_or}
use Rattle.paper.specs.Strings.{Bytes, tab_from, tab}
use Rattle.paper.specs.Fips197.{bit}
use Rattle.laws.proofs.WordBits.{number, known, bit_lt, bit_down, low_bits, either_lt, number_bits_lem}
use Rattle.columns.specs.Columns.{row3, block_of}
use Rattle.levels.specs.Levels.{bits_of, turned_bit, turned}
use Rattle.planes.specs.Planes.{lane, plane_block, place_of, up_to, plane_blocks, joined_bit, column_of, group_words, columns_in, group_of, copied_bit, copied}
use Rattle.levels.proofs.Levels.{kept, bits_kept, bits_turned}

-- ---- a block by its columns

-- row r of a column, and four columns, by their bits
abbrev byte : (ℕ → ℕ) → ℕ → ℕ
byte f r = number (tab_from (8 * (3 - r)) 8 f)

abbrev by_columns : (ℕ → ℕ) → (ℕ → ℕ) → (ℕ → ℕ) → (ℕ → ℕ) → Bytes
by_columns f0 f1 f2 f3 =
    byte f0 0 ∷ byte f0 1 ∷ byte f0 2 ∷ byte f0 3
    ∷ byte f1 0 ∷ byte f1 1 ∷ byte f1 2 ∷ byte f1 3
    ∷ byte f2 0 ∷ byte f2 1 ∷ byte f2 2 ∷ byte f2 3
    ∷ byte f3 0 ∷ byte f3 1 ∷ byte f3 2 ∷ byte f3 3
    ∷ []

last_row : (x : ℕ) → byte (bit x) 3 ≡ row3 x
last_row x = number_bits_lem 0 8 x ∙ ap (λ (v : ℕ). v % 256) (div-one x)

block_bits : (s : List ℕ) → by_columns (bits_of s 0) (bits_of s 1) (bits_of s 2) (bits_of s 3) ≡ block_of s
block_bits s =
    let a = get_or s 0 0 in
    let b = get_or s 1 0 in
    let c = get_or s 2 0 in
    let d = get_or s 3 0 in
    λ i.
    number_bits_lem 24 8 a i ∷ number_bits_lem 16 8 a i ∷ number_bits_lem 8 8 a i ∷ last_row a i
    ∷ number_bits_lem 24 8 b i ∷ number_bits_lem 16 8 b i ∷ number_bits_lem 8 8 b i ∷ last_row b i
    ∷ number_bits_lem 24 8 c i ∷ number_bits_lem 16 8 c i ∷ number_bits_lem 8 8 c i ∷ last_row c i
    ∷ number_bits_lem 24 8 d i ∷ number_bits_lem 16 8 d i ∷ number_bits_lem 8 8 d i ∷ last_row d i
    ∷ []

-- ---- to planes

-- sixteen blocks by the bits of their planes
abbrev by_planes : (ℕ → ℕ → ℕ) → List Bytes
by_planes f =
    map (λ b. tab 16 (λ i. number (tab 8 (λ p. f (4 * p + (3 - i % 4)) (16 * (i / 4) + place_of b))))) (up_to 16)

by_planes_lem : (q : List ℕ) → plane_blocks q ≡ by_planes (bits_of q)
unfolding plane_blocks plane_block lane
by_planes_lem q = refl

-- the words of blocks whose bits are f
abbrev word_bits : (ℕ → ℕ → ℕ → ℕ) → ℕ → ℕ → ℕ
word_bits f i =
    let b = 2 * (i / 4) + i % 2 in
    let c = i / 2 % 2 in
    joined_bit (f b c) (f b (c + 2))

turned_words : (f : ℕ → ℕ → ℕ → ℕ)
    → by_planes (kept (turned_bit (kept (word_bits f)))) ≡ map (λ b. by_columns (f b 0) (f b 1) (f b 2) (f b 3)) (up_to 16)
turned_words f = refl

words_bits : (g : List (List ℕ)) (w : List ℕ) → w ≡ group_words g → bits_of w ≡ kept (word_bits (λ b. bits_of (get_or g b [])))
unfolding group_words
words_bits g w e =
    ap bits_of e
    ∙ bits_kept (word_bits (λ b. bits_of (get_or g b [])))
    (λ i k.
    let b = 2 * (i / 4) + i % 2 in
    let c = i / 2 % 2 in
    either_lt (ltb k 32) (bit_lt (column_of g b c) k) (bit_lt (column_of g b (c + 2)) (k - 32)))

-- the words of sixteen blocks, turned over, are the blocks on planes
pub on_planes : (g : List (List ℕ)) (w q : List ℕ) → w ≡ group_words g → q ≡ turned w → plane_blocks q ≡ map (λ b. block_of (get_or g b [])) (up_to 16)
on_planes g w q is-w is-q =
    by_planes_lem q
    ∙ ap by_planes (bits_turned w q is-q ∙ ap (λ (f : ℕ → ℕ → ℕ). kept (turned_bit f)) (words_bits g w is-w))
    ∙ turned_words (λ b. bits_of (get_or g b []))
    ∙ ap (λ (f : ℕ → Bytes). map f (up_to 16)) (fun_ext (λ b. block_bits (get_or g b [])))

-- ---- one block in every place

copied_planes : (f : ℕ → ℕ → ℕ)
    → by_planes (kept (copied_bit f)) ≡ map (λ b. by_columns (f 0) (f 1) (f 2) (f 3)) (up_to 16)
copied_planes f = refl

pub in_every_place : (s q : List ℕ) → q ≡ copied s → plane_blocks q ≡ map (λ b. block_of s) (up_to 16)
unfolding copied
in_every_place s q is-q =
    by_planes_lem q
    ∙ ap by_planes (ap bits_of is-q ∙ bits_kept (copied_bit (bits_of s)) (λ i k. bit_lt (get_or s (k / 16) 0) (8 * (i % 4) + i / 4)))
    ∙ copied_planes (bits_of s)
    ∙ ap (λ (X : Bytes). map (λ b. X) (up_to 16)) (block_bits s)

-- ---- and back

-- the upper half of a word
high_bits : (x : ℕ) → bit (x / 2 ^ 32 % 2 ^ 32) ≡ known 32 (λ k. bit x (32 + k))
high_bits x = low_bits 32 (x / 2 ^ 32) ∙ ap (known 32) (fun_ext (bit_down x 32))

-- the block that two words have, by their bits
abbrev halves : (ℕ → ℕ) → (ℕ → ℕ) → Bytes
halves x y = by_columns (known 32 x) (known 32 y) (known 32 (λ k. x (32 + k))) (known 32 (λ k. y (32 + k)))

halves_bits : (x y : ℕ) → block_of (columns_in x y) ≡ halves (bit x) (bit y)
halves_bits x y =
    sym (block_bits (columns_in x y)) ∙ (λ i. by_columns (low_bits 32 x i) (low_bits 32 y i) (high_bits x i) (high_bits y i))

abbrev word_block : (ℕ → ℕ → ℕ) → ℕ → Bytes
word_block f b =
    let at = b / 2 * 4 + b % 2 in
    halves (f at) (f (at + 2))

turned_back : (f : ℕ → ℕ → ℕ) → map (word_block (kept (turned_bit f))) (up_to 16) ≡ by_planes f
turned_back f = refl

-- the planes of sixteen blocks, turned over, are the words of the blocks
pub off_planes : (q w : List ℕ) (r : List (List ℕ)) → w ≡ turned q → r ≡ group_of w → map block_of r ≡ plane_blocks q
unfolding group_of
off_planes q w r is-w is-r =
    ap (map block_of) is-r
    ∙ ap (λ (f : ℕ → Bytes). map f (up_to 16))
    (fun_ext
    (λ b.
    let at = b / 2 * 4 + b % 2 in
    halves_bits (get_or w at 0) (get_or w (at + 2) 0)))
    ∙ ap (λ (f : ℕ → ℕ → ℕ). map (word_block f) (up_to 16)) (bits_turned q w is-w)
    ∙ turned_back (bits_of q)
    ∙ sym (by_planes_lem q)
