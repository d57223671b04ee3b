-- The two ways: x and y of Figure 5 are 1 and 2 for enciphering, and exchanged for deciphering.
use Rattle.std.specs.Prelude.{ℕ}
use Rattle.paper.specs.Figure6.{minus1, row}
use Rattle.pairs.specs.Meaning.{pair_of}
use Rattle.wide.specs.declared.EndPairs.{EndPairs}
use Rattle.wide.specs.declared.Way.{Way}
use Rattle.wide.specs.declared.Way.TheVariants.{Encipher, Decipher}

abbrev pub first_of : Way → ℕ
first_of Encipher = 1
first_of Decipher = 2

abbrev pub second_of : Way → ℕ
second_of Encipher = 2
second_of Decipher = 1

-- (0, x), (-1, x), (0, y) and (-1, y)
abbrev pub end_pairs : Way → EndPairs
end_pairs way = record {
  x = pair_of (row 0) (first_of way);
  xx = pair_of minus1 (first_of way);
  y = pair_of (row 0) (second_of way);
  yy = pair_of minus1 (second_of way);
}
