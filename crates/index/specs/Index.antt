-- The index by tile (docs/RULES.md, "An index by tile"), of a list of records: for each tile that is there, ascending, its entries in their order. An entry
-- is said by a key: its tile, and its number in the list.
use Rattle.std.specs.Prelude.{ℕ, zero, suc, ◌+◌, ◌*◌, ◌/◌, ◌%◌, cond, List, [], ◌∷◌, ◌++◌, eqb}
use Rattle.types.specs.declared.TilePartEntry.{TilePartEntry}

-- how many entries can be numbered: 2^48
abbrev pub numbered : ℕ
numbered = 281474976710656

abbrev pub key_of : ℕ → ℕ → ℕ
key_of tile number = tile * numbered + number

abbrev pub tile_of : ℕ → ℕ
tile_of key = key / numbered

abbrev pub number_of : ℕ → ℕ
number_of key = key % numbered

-- a tile's run: the keys of its entries, in their order; the first entry of the list has number i
unfoldable pub run_from : ℕ → ℕ → List TilePartEntry → List ℕ
run_from tile i [] = []
run_from tile i (e ∷ rest) = cond (eqb e.tile_index tile) (key_of tile i ∷ run_from tile (i + 1) rest) (run_from tile (i + 1) rest)

-- the runs of all tiles below one, ascending; that of a tile with no entry is empty
unfoldable pub runs_below : ℕ → ℕ → List TilePartEntry → List ℕ
unfolding run_from
runs_below zero i es = []
runs_below (suc tile) i es = runs_below tile i es ++ run_from tile i es

-- the index of entries that are numbered from i on; a tile has 16 bits
unfoldable pub index_from : ℕ → List TilePartEntry → List ℕ
unfolding runs_below
index_from i es = runs_below 65536 i es

-- the index of a table's entries
abbrev pub index_of : List TilePartEntry → List ℕ
index_of es = index_from 0 es
