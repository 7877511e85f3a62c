-- The entries that an index gives of a tile (docs/RULES.md, "An index by tile"), out of a table's records.
use Rattle.std.specs.Prelude.{ℕ, ◌*◌, Bool, false, cond, List, [], ◌∷◌, ◌++◌, take, drop, eqb, leb, Result, Ok, Err}
use Rattle.types.specs.Refusals.{refusal}
use Rattle.types.specs.Row.{row_bytes, rows_of}
use Rattle.types.specs.declared.TilePartEntry.{TilePartEntry}
use Rattle.index.specs.Index.{number_of}
use Rattle.index.specs.Run.{run_in}
use Rattle.types.specs.declared.Refusal.{Refusal}
use Rattle.types.specs.declared.Reason.TheVariants.{TableTooSmall}

-- the first record is there, and the tile's
unfoldable pub is_first : ℕ → List TilePartEntry → Bool
is_first tile [] = false
is_first tile (e ∷ rest) = eqb e.tile_index tile

-- the first record, if it is the tile's
unfoldable pub first_if : ℕ → List TilePartEntry → List TilePartEntry
unfolding is_first
first_if tile es = cond (is_first tile es) (take 1 es) []

-- the records that keys say; a number that the table does not have, and a record of another tile, is left out
unfoldable pub picked : ℕ → List TilePartEntry → List ℕ → List TilePartEntry
unfolding first_if
picked tile es [] = []
picked tile es (k ∷ rest) = first_if tile (drop (number_of k) es) ++ picked tile es rest

-- a tile's entries by an index
unfoldable pub entries_by : List ℕ → ℕ → List TilePartEntry → List TilePartEntry
unfolding picked
entries_by index tile es = picked tile es (run_in index tile)

-- given into so many rows or records: 18 where they are too few, and its place is the entries needed
unfoldable pub given : ℕ → ℕ → Result ℕ Refusal
given n room = cond (leb n room) (Ok n) (Err (refusal TableTooSmall n))

-- rows after an answer: the entries' rows and the rest as it was, or all as it was
unfoldable pub given_rows : Result ℕ Refusal → List TilePartEntry → List ℕ → List ℕ
given_rows (Ok n) entries out = rows_of entries ++ drop (row_bytes * n) out
given_rows (Err r) entries out = out
