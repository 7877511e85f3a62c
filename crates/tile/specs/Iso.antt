-- Tiles as ISO/IEC 15444-1 has them (B.3), by the fields of SIZ: counted from the tile origin, and clipped to the image on both sides.
-- `proofs/Iso.antt` says where our rules agree.
use Rattle.std.specs.Prelude.{ℕ, ◌+◌, ◌-◌, ◌*◌, ◌/◌, ◌%◌, ◌≤◌, ◌<◌, min, max, cond, ◌&&◌, List, ◌++◌, eqb}
use Rattle.numbers.specs.Rows.{bytes_of_rows}
use Rattle.numbers.specs.Ceiling.{ceil_div}
use Rattle.types.specs.IsoSiz.{Size, siz_rows}
use Rattle.types.specs.declared.Area.{Area}
use Rattle.tile.specs.Rewrite.{from_zero}
use Rattle.tile.specs.declared.rules.Rule.{Rule}
use Rattle.tile.specs.declared.rules.Rule.TheVariants.{AnnexB, Original, InPlace}

-- what B.3 asks of the fields: an image and a tile that are not empty; B-3 and B-4, a first tile that starts at or before the image and reaches into it
pub record Gridded (z : Size) : Type 0 where
  pub Xsiz : z.XOsiz < z.Xsiz
  pub Ysiz : z.YOsiz < z.Ysiz
  pub XTsiz : 1 ≤ z.XTsiz
  pub YTsiz : 1 ≤ z.YTsiz
  pub XTOsiz : (z.XTOsiz ≤ z.XOsiz) × (z.XOsiz < z.XTOsiz + z.XTsiz)
  pub YTOsiz : (z.YTOsiz ≤ z.YOsiz) × (z.YOsiz < z.YTOsiz + z.YTsiz)

-- B-5
unfoldable pub num_xtiles : Size → ℕ
num_xtiles z = ceil_div (z.Xsiz - z.XTOsiz) z.XTsiz

unfoldable pub num_ytiles : Size → ℕ
num_ytiles z = ceil_div (z.Ysiz - z.YTOsiz) z.YTsiz

-- a tile's column p and row q, B-6
unfoldable pub column_of : Size → ℕ → ℕ
column_of z tile = tile % num_xtiles z

unfoldable pub row_of : Size → ℕ → ℕ
row_of z tile = tile / num_xtiles z

-- where a tile starts and ends along an axis, B-7 to B-10, by its column or row there
unfoldable pub start_of : ℕ → ℕ → ℕ → ℕ → ℕ
start_of origin tileOrigin size cell = max (tileOrigin + cell * size) origin

unfoldable pub end_of : ℕ → ℕ → ℕ → ℕ → ℕ
end_of end tileOrigin size cell = min (tileOrigin + (cell + 1) * size) end

unfoldable pub area_of : Size → ℕ → Area
area_of z tile =
    record {
      x0 = start_of z.XOsiz z.XTOsiz z.XTsiz (column_of z tile);
      y0 = start_of z.YOsiz z.YTOsiz z.YTsiz (row_of z tile);
      x1 = end_of z.Xsiz z.XTOsiz z.XTsiz (column_of z tile);
      y1 = end_of z.Ysiz z.YTOsiz z.YTsiz (row_of z tile);
    }

-- its width and height, B-11
unfoldable pub width_of : Size → ℕ → ℕ
width_of z tile = (area_of z tile).x1 - (area_of z tile).x0

unfoldable pub height_of : Size → ℕ → ℕ
height_of z tile = (area_of z tile).y1 - (area_of z tile).y0

-- ---- the rewrite

-- SOC, SIZ, and what follows
abbrev pub header_of : Size → List ℕ → List ℕ
header_of z rest = bytes_of_rows (siz_rows z) ++ rest

-- our rewrite as a change of the standard's fields: an image in an area that is one tile
unfoldable pub cut_size : Size → Area → Size
cut_size z a =
    record {
      Rsiz = z.Rsiz;
      Xsiz = a.x1;
      Ysiz = a.y1;
      XOsiz = a.x0;
      YOsiz = a.y0;
      XTsiz = a.x1 - a.x0;
      YTsiz = a.y1 - a.y0;
      XTOsiz = a.x0;
      YTOsiz = a.y0;
      first = z.first;
      others = z.others;
    }

-- moved to 0: a tile of full size changes nothing
unfoldable pub moved_tile : Size → ℕ → Size
moved_tile z tile =
    cond (eqb (width_of z tile) z.XTsiz && eqb (height_of z tile) z.YTsiz) z (cut_size z (from_zero (width_of z tile) (height_of z tile)))

-- or kept in its place
unfoldable pub for_tile : Rule → Size → ℕ → Size
unfolding moved_tile
for_tile AnnexB z tile = moved_tile z tile
for_tile Original z tile = moved_tile z tile
for_tile InPlace z tile = cut_size z (area_of z tile)
