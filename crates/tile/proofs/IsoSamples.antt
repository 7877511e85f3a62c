-- Sizes that meet the premises of `proofs/Iso.antt`, and others that show that those of the original's rule, on the sums, the index and the origins, are
-- needed; and what Annex B's gives there.
use Prim.Native.Nat.{ℕ, ◌-◌, ◌^◌, ◌<◌}
use native.Mathlib.Omega.{arith}
use mathlib.Core.Path.{◌≡◌, refl}
use mathlib.Core.Bool.{false}
use mathlib.Core.List.{List, []}
use Rattle.std.specs.Prelude.{Some, None, Ok, Err}
use Rattle.numbers.specs.Bytes.{be, bytes_of}
use Rattle.numbers.specs.Ceiling.{ceil_div}
use Rattle.numbers.specs.Rows.{bytes_of_rows}
use Rattle.types.specs.Refusals.{refusal}
use Rattle.types.specs.IsoSiz.{Size, component_rows, siz_rows, Ranges, TileRanges}
use Rattle.tile.specs.Original.{fitting, reaching, axis_of, columns_of, both_axes, in_grid, tile_area}
use Rattle.tile.specs.AnnexB.{laid, cells_of, from_of, to_of, cell_area, in_cells, on_grid, grid_tile}
use Rattle.tile.specs.Rules.{by_annex_b, by_original, placed_by}
use Rattle.tile.specs.Rewrite.{from_zero, sized, moved, cut_by, size_of, size_in, tile_size}
use Rattle.tile.specs.Iso.{num_xtiles, num_ytiles, column_of, row_of, start_of, end_of, area_of, width_of, height_of, header_of}
use Rattle.tile.specs.declared.rules.Rule.TheVariants.{AnnexB, Original}
use Rattle.tile.proofs.Iso.{size_standard, area_standard, area_original}
use Rattle.types.specs.declared.Reason.TheVariants.{TileOutside, NoSuchTile}

-- one component of 8 bits; all origins are 0 but the image's across
abbrev image : ℕ → ℕ → ℕ → ℕ → ℕ → Size
image from to height xt yt =
    record {
      Rsiz = 0;
      Xsiz = to;
      Ysiz = height;
      XOsiz = from;
      YOsiz = 0;
      XTsiz = xt;
      YTsiz = yt;
      XTOsiz = 0;
      YTOsiz = 0;
      first = record { depth = 8; signed = false; XRsiz = 1; YRsiz = 1 };
      others = [];
    }

unfoldable by_standard : Unit {0}
unfolding num_xtiles num_ytiles column_of row_of start_of end_of area_of width_of height_of ceil_div
by_standard = tt

unfoldable by_rule : Unit {0}
unfolding tile_size size_in size_of cut_by moved placed_by by_annex_b by_original tile_area in_grid columns_of axis_of fitting reaching both_axes grid_tile on_grid in_cells cell_area from_of to_of cells_of laid sized ceil_div be bytes_of bytes_of_rows siz_rows component_rows
by_rule = tt

-- ---- the premises are met

-- 10 by 6 in tiles of 4 by 4: the last of six tiles is 2 by 2
pub sample_width : width_of (image 0 10 6 4 4) 5 ≡ 2
unfolding by_standard
sample_width = refl

pub sample_height : height_of (image 0 10 6 4 4) 5 ≡ 2
unfolding by_standard
sample_height = refl

sample_ranges : (from : ℕ) → from < 10 → Ranges (image from 10 6 4 4)
sample_ranges from h = record { Xsiz = omega arith; Ysiz = omega arith; XOsiz = omega arith; YOsiz = omega arith; Csiz = omega arith; depth = (omega arith, omega arith) }

sample_tiles : (from : ℕ) → from < 4 → TileRanges (image from 10 6 4 4)
sample_tiles from h =
    record {
      XTsiz = (omega arith, omega arith);
      YTsiz = (omega arith, omega arith);
      XTOsiz = (omega arith, omega arith);
      YTOsiz = (omega arith, omega arith);
    }

pub sample_tile : (rest : List ℕ) → tile_size Original (header_of (image 0 10 6 4 4) rest) 5 ≡ Ok (Some (from_zero 2 2))
unfolding by_standard cut_by moved sized
sample_tile rest =
    let z : Size = image 0 10 6 4 4 in
    let g = sample_ranges 0 (omega arith) in
    let t = sample_tiles 0 (omega arith) in
    size_standard Original z rest 5 g t (area_original z rest 5 g t (omega arith) refl refl (omega arith) (omega arith))

-- with the image from 3 on, tile 0 has one column of points, and by Annex B it is cut to that
pub sample_annex : (rest : List ℕ) → tile_size AnnexB (header_of (image 3 10 6 4 4) rest) 0 ≡ Ok (Some (from_zero 1 4))
unfolding by_standard cut_by moved sized
sample_annex rest =
    let z : Size = image 3 10 6 4 4 in
    let g = sample_ranges 3 (omega arith) in
    let t = sample_tiles 3 (omega arith) in
    size_standard AnnexB z rest 0 g t (area_standard z rest 0 g t (omega arith))

-- ---- the original's rule: its premises are needed

-- tile 1, one short of full width, starts at 2^31, and one tile size on is 2^32: Annex B tells it
pub past_32_bits_width : width_of (image 0 (2 ^ 32 - 1) 1 (2 ^ 31) 1) 1 ≡ 2 ^ 31 - 1
unfolding by_standard
past_32_bits_width = refl

pub past_32_bits : tile_size Original (header_of (image 0 (2 ^ 32 - 1) 1 (2 ^ 31) 1) []) 1 ≡ Err (refusal TileOutside 2)
unfolding by_rule
past_32_bits = refl

pub past_32_bits_annex : tile_size AnnexB (header_of (image 0 (2 ^ 32 - 1) 1 (2 ^ 31) 1) []) 1 ≡ Ok (Some (from_zero (2 ^ 31 - 1) 1))
unfolding by_rule
past_32_bits_annex = refl

-- an index past a grid of four tiles is accepted, and by Annex B refused
pub past_grid : tile_size Original (header_of (image 0 8 8 4 4) []) 4 ≡ Ok (Some (from_zero 4 0))
unfolding by_rule
past_grid = refl

pub past_grid_annex : tile_size AnnexB (header_of (image 0 8 8 4 4) []) 4 ≡ Err (refusal NoSuchTile 2)
unfolding by_rule
past_grid_annex = refl

-- XTOsiz 0 and XOsiz 1: tile 0 ends at 2, and one tile size from 1 on is full size
pub origins_width : width_of (image 1 3 1 2 1) 0 ≡ 1
unfolding by_standard
origins_width = refl

pub origins_differ : tile_size Original (header_of (image 1 3 1 2 1) []) 0 ≡ Ok None
unfolding by_rule
origins_differ = refl

pub origins_annex : tile_size AnnexB (header_of (image 1 3 1 2 1) []) 0 ≡ Ok (Some (from_zero 1 1))
unfolding by_rule
origins_annex = refl

-- and tile 1, 1 by 1, stands in a second row with no height
pub origins_width_one : width_of (image 1 3 1 2 1) 1 ≡ 1
unfolding by_standard
origins_width_one = refl

pub origins_differ_one : tile_size Original (header_of (image 1 3 1 2 1) []) 1 ≡ Ok (Some (from_zero 2 0))
unfolding by_rule
origins_differ_one = refl

pub origins_annex_one : tile_size AnnexB (header_of (image 1 3 1 2 1) []) 1 ≡ Ok (Some (from_zero 1 1))
unfolding by_rule
origins_annex_one = refl
