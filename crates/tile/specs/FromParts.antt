-- The original's assembly of parts, `build_minimal_codestream_from_parts`: it is given the bytes of each tile-part, and its
-- `build_minimal_codestream` finds them by their ranges and calls it. The language has no list of slices, so the ranges form stands for it: the parts
-- lent one after the other as the codestream, with a row for each. That this is the assembly of just those parts is proofs/FromParts.antt.
use Rattle.std.specs.Prelude.{ℕ, ◌+◌, List, [], ◌∷◌, length}
use Rattle.types.specs.declared.PartNumbers.TheVariants.{NotKnown}
use Rattle.types.specs.declared.TilePartEntry.{TilePartEntry}

-- where a part lies; its index and its numbers are not looked at
abbrev pub lying : ℕ → ℕ → TilePartEntry
lying at long = record { tile_index = 0; numbers = NotKnown; offset = record { 0 = at }; length = long }

-- parts one after the other, from a position on
unfoldable pub laid : ℕ → List (List ℕ) → List TilePartEntry
laid at [] = []
laid at (part ∷ rest) = lying at (length part) ∷ laid (at + length part) rest
