-- A table of rows that stands as records in a table of a program's own, which has 2,048: so many of its first rows, and those records.
use Rattle.std.specs.Prelude.{ℕ, ◌/◌, min, List, length}
use Rattle.types.specs.Row.{row_bytes, records_at}
use Rattle.types.specs.declared.TilePartEntry.{TilePartEntry}

abbrev pub held : List ℕ → ℕ
held table = min (length table / row_bytes) 2048

abbrev pub own : List ℕ → List TilePartEntry
own table = records_at (held table) table 0
