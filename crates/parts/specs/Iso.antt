-- Tile-parts as ISO/IEC 15444-1 has them (A.4.2, A.4.3): the SOT marker segment's fields as rows of a width and a value, the rest of the tile-part's
-- header, SOD, and the packets. `proofs/Iso.antt` says that our scan lists them.
use Rattle.std.specs.Prelude.{ℕ, suc, ◌+◌, ◌^◌, ◌≤◌, ◌<◌, ◌≡◌, ◌⊎◌, cond, List, [], ◌∷◌, ◌++◌, length, eqb}
use Rattle.numbers.specs.Bytes.{bytes_of}
use Rattle.numbers.specs.Rows.{Row, row, bytes_of_rows}
use Rattle.types.specs.Markers.{SOT, SOD}
use Rattle.types.specs.declared.PartNumbers.TheVariants.{Known}
use Rattle.types.specs.declared.TilePartEntry.{TilePartEntry}

pub record TilePart : Type 0 where
  pub Isot : ℕ
  pub TPsot : ℕ
  pub TNsot : ℕ
  -- the marker segments between SOT and SOD
  pub header : List ℕ
  pub packets : List ℕ

-- marker, Lsot, Isot, Psot, TPsot, TNsot
unfoldable pub sot_rows : ℕ → TilePart → List Row
sot_rows Psot t = row 2 SOT ∷ row 2 10 ∷ row 2 t.Isot ∷ row 4 Psot ∷ row 1 t.TPsot ∷ row 1 t.TNsot ∷ []

-- the bytes of a tile-part, with a Psot
unfoldable pub part_bytes : ℕ → TilePart → List ℕ
unfolding sot_rows
part_bytes Psot t = bytes_of_rows (sot_rows Psot t) ++ (t.header ++ (bytes_of 2 SOD ++ t.packets))

-- what Psot says: the bytes from the first of SOT to the last of the packets
abbrev pub length_of : TilePart → ℕ
length_of t = 12 + (length t.header + (2 + length t.packets))

-- the fields' ranges, with a size in Psot
pub record Ranges (size : ℕ) (t : TilePart) : Type 0 where
  pub Isot : t.Isot ≤ 65534
  pub Psot : size < 2 ^ 32
  pub TPsot : t.TPsot ≤ 254
  pub TNsot : t.TNsot ≤ 255

unfoldable pub AllRanges : List TilePart → Type 0
AllRanges [] = Unit {0}
AllRanges (t ∷ more) = Ranges (length_of t) t × AllRanges more

-- tile-parts one after the other, each with its own Psot
unfoldable pub parts_bytes : List TilePart → List ℕ
parts_bytes [] = []
parts_bytes (t ∷ more) = part_bytes (length_of t) t ++ parts_bytes more

-- the record of a tile-part of n bytes at a place
abbrev pub listed : ℕ → ℕ → TilePart → TilePartEntry
listed at n t = record { tile_index = t.Isot; numbers = Known t.TPsot t.TNsot; offset = record { 0 = at }; length = n }

-- their list, from a place on
unfoldable pub listed_from : ℕ → List TilePart → List TilePartEntry
listed_from at [] = []
listed_from at (t ∷ more) = listed at (length_of t) t ∷ listed_from (at + length_of t) more

-- ---- the order of a tile's tile-parts (A.4.2: TPsot, TNsot)

-- those of a tile, as they stand in the codestream
unfoldable pub parts_of_tile : ℕ → List TilePart → List TilePart
parts_of_tile tile [] = []
parts_of_tile tile (t ∷ more) = cond (eqb t.Isot tile) (t ∷ parts_of_tile tile more) (parts_of_tile tile more)

-- TPsot is the tile-part's index, from 0, in the order of the codestream; TNsot is the correct number of the tile's tile-parts, or zero
pub data Indexed (number : ℕ) : ℕ → List TilePart → Type 0 where
  last : {index : ℕ} → Indexed number index []
  next : {index : ℕ} {t : TilePart} {more : List TilePart} → t.TPsot ≡ index → (t.TNsot ≡ number) ⊎ (t.TNsot ≡ 0) → Indexed number (suc index) more → Indexed number index (t ∷ more)

-- of one tile
abbrev pub InOrder : ℕ → List TilePart → Type 0
InOrder tile ts = Indexed (length (parts_of_tile tile ts)) 0 (parts_of_tile tile ts)
