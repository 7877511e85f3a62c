-- Where a tile lies by the standard's rule (docs/RULES.md, "Tiles by Annex B"; ISO/IEC 15444-1, B.3): counted from the tile origin, and clipped to the
-- image on both sides. No sum has a bound.
use Rattle.std.specs.Prelude.{ℕ, ◌+◌, ◌-◌, ◌*◌, ◌/◌, ◌%◌, min, max, Bool, cond, ◌&&◌, List, leb, ltb, Result, Ok, Err}
use Rattle.numbers.specs.Bytes.{be}
use Rattle.numbers.specs.Ceiling.{ceil_div}
use Rattle.types.specs.Siz.{XSIZ, xsiz, ysiz, xosiz, yosiz, xtsiz, ytsiz, xtosiz, ytosiz}
use Rattle.types.specs.declared.Area.{Area}
use Rattle.tile.specs.Siz.{marker}
use Rattle.tile.specs.declared.annex_b.Side.{Side}
use Rattle.tile.specs.declared.annex_b.NoTile.{NoTile}
use Rattle.tile.specs.declared.annex_b.NoTile.TheVariants.{NoGrid, PastGrid}

-- ---- one axis

-- SIZ along each axis
abbrev pub across : List ℕ → Side
across h = record { end = xsiz h marker; origin = xosiz h marker; size = xtsiz h marker; tile_origin = xtosiz h marker }

abbrev pub down : List ℕ → Side
down h = record { end = ysiz h marker; origin = yosiz h marker; size = ytsiz h marker; tile_origin = ytosiz h marker }

-- the two as one, by what is added to the place of a field across, 0 or 4: each field down stands 4 bytes behind it
unfoldable pub side_at : List ℕ → ℕ → Side
side_at h axis =
    record {
      end = be 4 h (marker + (XSIZ + axis));
      origin = be 4 h (marker + (14 + axis));
      size = be 4 h (marker + (22 + axis));
      tile_origin = be 4 h (marker + (30 + axis));
    }

-- tile origin <= image origin < image end, tile size >= 1, tile origin + size > image origin: otherwise 30
unfoldable pub laid : Side → Bool
laid s =
    leb s.tile_origin s.origin
    && (ltb s.origin s.end && (leb 1 s.size && ltb s.origin (s.tile_origin + s.size)))

-- columns, or rows: ceil((Xsiz - XTOsiz) / XTsiz)
unfoldable pub cells_of : Side → ℕ
cells_of s = ceil_div (s.end - s.tile_origin) s.size

-- a cell reaches from max(XTOsiz + c * XTsiz, XOsiz)
unfoldable pub from_of : Side → ℕ → ℕ
from_of s cell = max (s.tile_origin + cell * s.size) s.origin

-- to min(XTOsiz + (c + 1) * XTsiz, Xsiz)
unfoldable pub to_of : Side → ℕ → ℕ
to_of s cell = min (s.tile_origin + (cell + 1) * s.size) s.end

-- ---- the tile

-- the tile in a column and a row
unfoldable pub cell_area : Side → Side → ℕ → ℕ → Area
unfolding from_of to_of
cell_area x y column row = record { x0 = from_of x column; y0 = from_of y row; x1 = to_of x column; y1 = to_of y row }

-- the index is below columns * rows: otherwise 31. Column and row are remainder and quotient of the index by the columns.
unfoldable pub in_cells : Side → Side → ℕ → Result Area NoTile
unfolding cell_area
in_cells x y tile =
    cond (ltb tile (cells_of x * cells_of y)) (Ok (cell_area x y (tile % cells_of x) (tile / cells_of x))) (Err PastGrid)

-- 30 comes first
unfoldable pub on_grid : Side → Side → ℕ → Result Area NoTile
unfolding in_cells
on_grid x y tile = cond (laid x && laid y) (in_cells x y tile) (Err NoGrid)

unfoldable pub grid_tile : List ℕ → ℕ → Result Area NoTile
unfolding on_grid
grid_tile h tile = on_grid (across h) (down h) tile
