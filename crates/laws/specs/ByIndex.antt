-- Demand 3's sentences on joining and on assembly, with the entries that the index by tile gives in the place of the tile's entries in the table.
use Rattle.std.specs.Prelude.{ℕ, ◌<◌, List}
use Rattle.types.specs.declared.TilePartEntry.{TilePartEntry}
use Rattle.parts.specs.Scan.{entries_from}
use Rattle.parts.specs.Tiles.{AllLong}
use Rattle.index.specs.Index.{index_of}
use Rattle.index.specs.Entries.{entries_by}
use Rattle.tile.specs.declared.rules.Rule.{Rule}
use Rattle.laws.specs.Demand3.{SplitAgain, Assembles, Reassembled}

-- what the index of a scan's entries gives of a tile
abbrev pub by_index : List ℕ → ℕ → ℕ → List TilePartEntry
by_index s p tile = entries_by (index_of (entries_from s p)) tile (entries_from s p)

pub record ByIndex (s : List ℕ) (p : ℕ) : Type 0 where
  pub split : (tile : ℕ) → tile < 65536 → AllLong (by_index s p tile) → SplitAgain s (by_index s p tile)
  pub assembly : (rule : Rule) (tile : ℕ) → tile < 65536 → (out : List ℕ) → Assembles rule s tile (by_index s p tile) out → Reassembled rule s tile (by_index s p tile) out
