-- A block by columns, as FIPS 197 has its state: column c is the bytes 4c to 4c + 3 of the block. A column is one number, and the byte of
-- row 0 is its highest.
use Rattle.std.specs.Prelude.{List, [], ◌∷◌, ℕ, ◌+◌, ◌*◌, ◌/◌, ◌%◌, get_or}
use Rattle.paper.specs.Strings.{Bytes}

-- the byte of each row of a column
abbrev pub row0 : ℕ → ℕ
row0 w = w / 16777216 % 256

abbrev pub row1 : ℕ → ℕ
row1 w = w / 65536 % 256

abbrev pub row2 : ℕ → ℕ
row2 w = w / 256 % 256

abbrev pub row3 : ℕ → ℕ
row3 w = w % 256

-- the column of four bytes
abbrev pub column : ℕ → ℕ → ℕ → ℕ → ℕ
column a b c d = ((a * 256 + b) * 256 + c) * 256 + d

-- the column of x whose row 0 is byte n
abbrev pub column_at : Bytes → ℕ → ℕ
column_at x n = column (get_or x n 0) (get_or x (n + 1) 0) (get_or x (n + 2) 0) (get_or x (n + 3) 0)

-- the four columns of a block
abbrev pub columns_of : Bytes → List ℕ
columns_of x = column_at x 0 ∷ column_at x 4 ∷ column_at x 8 ∷ column_at x 12 ∷ []

-- the block of four columns
abbrev pub block_of : List ℕ → Bytes
block_of s =
    let a = get_or s 0 0 in
    let b = get_or s 1 0 in
    let c = get_or s 2 0 in
    let d = get_or s 3 0 in
    row0 a ∷ row1 a ∷ row2 a ∷ row3 a
    ∷ row0 b ∷ row1 b ∷ row2 b ∷ row3 b
    ∷ row0 c ∷ row1 c ∷ row2 c ∷ row3 c
    ∷ row0 d ∷ row1 d ∷ row2 d ∷ row3 d
    ∷ []
