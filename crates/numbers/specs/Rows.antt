-- A table of fields as a standard prints it: rows of a width and a value, from which the bytes follow. Definitions written from ISO/IEC 15444-1
-- are made of these, so that no offset of ours stands in them.
use Rattle.std.specs.Prelude.{ℕ, ◌+◌, List, [], ◌∷◌, ◌++◌}
use Rattle.numbers.specs.Bytes.{bytes_of}

-- a row: how many bytes, and the number that they hold, big-endian
pub record Row : Type 0 where
  pub width : ℕ
  pub value : ℕ

abbrev pub row : ℕ → ℕ → Row
row width value = record { width = width; value = value }

unfoldable pub bytes_of_rows : List Row → List ℕ
bytes_of_rows [] = []
bytes_of_rows (r ∷ rows) = bytes_of r.width r.value ++ bytes_of_rows rows

-- how many bytes they have
unfoldable pub widths : List Row → ℕ
widths [] = 0
widths (r ∷ rows) = r.width + widths rows
