-- A box as 29 bytes of a lent table: depth, type, start, content's start and length, big-endian; boxes one after the other.
use Rattle.std.specs.Prelude.{ℕ, ◌+◌, List, [], ◌∷◌, ◌++◌}
use Rattle.numbers.specs.Bytes.{bytes_of}
use Rattle.reader.specs.declared.box_row.BoxEntry.{BoxEntry}

abbrev pub box_row_bytes : ℕ
box_row_bytes = 29

-- where a box ends
abbrev pub end_of : BoxEntry → ℕ
end_of e = e.content.0 + e.length

-- the 29 bytes that hold a box
unfoldable pub row_of : BoxEntry → List ℕ
row_of e = e.depth ∷ (bytes_of 4 e.kind ++ (bytes_of 8 e.start.0 ++ (bytes_of 8 e.content.0 ++ bytes_of 8 e.length)))

unfoldable pub rows_of : List BoxEntry → List ℕ
unfolding row_of
rows_of [] = []
rows_of (e ∷ rest) = row_of e ++ rows_of rest
