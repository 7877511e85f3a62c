-- A tile-part record as 21 bytes of a lent table: index, offset and length, big-endian, and its numbers; records one after the other.
use Rattle.std.specs.Prelude.{ℕ, zero, suc, ◌+◌, ◌-◌, ◌/◌, cond, List, [], ◌∷◌, ◌++◌, length, get_or, eqb}
use Rattle.numbers.specs.Bytes.{be, bytes_of}
use Rattle.types.specs.declared.PartNumbers.{PartNumbers}
use Rattle.types.specs.declared.PartNumbers.TheVariants.{Known, NotKnown}
use Rattle.types.specs.declared.TilePartEntry.{TilePartEntry}

-- how many bytes a record has in a table
abbrev pub row_bytes : ℕ
row_bytes = 21

-- the numbers in the 3 bytes from at on: known where the first is 1, and then TPsot and TNsot
unfoldable pub numbers_at : List ℕ → ℕ → PartNumbers
numbers_at s at = cond (eqb (get_or s at 0) 1) (Known (get_or s (at + 1) 0) (get_or s (at + 2) 0)) NotKnown

-- the bytes that hold them
unfoldable pub number_bytes : PartNumbers → List ℕ
number_bytes (Known t n) = 1 ∷ t ∷ n ∷ []
number_bytes NotKnown = 0 ∷ 0 ∷ 0 ∷ []

-- the record in the bytes from at on
abbrev pub entry_at : List ℕ → ℕ → TilePartEntry
entry_at s at = record { tile_index = be 2 s at; numbers = numbers_at s (at + 18); offset = record { 0 = be 8 s (at + 2) }; length = be 8 s (at + 10) }

-- the bytes that hold a record
unfoldable pub row_of : TilePartEntry → List ℕ
unfolding number_bytes
row_of e = bytes_of 2 e.tile_index ++ (bytes_of 8 e.offset.0 ++ (bytes_of 8 e.length ++ number_bytes e.numbers))

-- the rows of records, one after the other
unfoldable pub rows_of : List TilePartEntry → List ℕ
unfolding row_of
rows_of [] = []
rows_of (e ∷ rest) = row_of e ++ rows_of rest

-- the records of so many rows from a position on
unfoldable pub records_at : ℕ → List ℕ → ℕ → List TilePartEntry
records_at zero s at = []
records_at (suc n) s at = entry_at s at ∷ records_at n s (at + row_bytes)

-- the records of all rows from a position on; a partial row at the end is none
unfoldable pub records_from : List ℕ → ℕ → List TilePartEntry
records_from s at = records_at ((length s - at) / row_bytes) s at

-- the records of a table
unfoldable pub records_in : List ℕ → List TilePartEntry
records_in s = records_from s 0
