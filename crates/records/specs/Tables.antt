-- The table that a program starts with.
use Rattle.std.specs.Prelude.{List, replicate}
use Rattle.types.specs.declared.PartNumbers.TheVariants.{NotKnown}
use Rattle.types.specs.declared.TilePartEntry.{TilePartEntry}

-- a record of nothing
abbrev pub none : TilePartEntry
none = record { tile_index = 0; numbers = NotKnown; offset = record { 0 = 0 }; length = 0 }

unfoldable pub blank : List TilePartEntry
blank = replicate 2048 none
