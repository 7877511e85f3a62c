-- Annex B's rule is B.3 itself: on every header it tells a tile exactly where B.3's premises and the index hold, and there its area is the standard's. So the
-- rewrite of a SIZ by the standard gives a tile its size by B-11, and the eight fields that it writes are rows again. The original's rule does so where
-- tile origin and image origin are one, and a tile's sums fit 32 bits.
use Prim.Native.Nat.{ℕ, ◌+◌, ◌-◌, ◌*◌, ◌/◌, ◌%◌, ◌^◌, ◌≤◌, ◌<◌}
use native.Mathlib.Omega.{arith}
use mathlib.Core.Path.{◌≡◌, refl, sym, ap, ap₂, ◌∙◌}
use mathlib.Core.Bool.{◌&&◌}
use mathlib.Core.List.{List, [], ◌∷◌, ◌++◌, append_assoc, append-nil}
use lib.ListN.{length, take, drop, length-append}
use lib.Seq.{take_at, drop_at}
use lib.Dec.{eqb}
use Rattle.std.specs.Prelude.{Option, Some, None, Result, Ok, Err}
use Rattle.numbers.specs.Bytes.{be, put}
use Rattle.numbers.specs.Rows.{Row, row, bytes_of_rows, widths}
use Rattle.numbers.proofs.Choice.{by_test, by_bool}
use Rattle.numbers.proofs.Rows.{length_rows}
use Rattle.types.specs.Refusals.{refusal}
use Rattle.types.specs.Markers.{SIZ}
use Rattle.types.specs.Siz.{XSIZ, xsiz, ysiz, xosiz, yosiz, xtsiz, ytsiz, xtosiz, ytosiz}
use Rattle.types.specs.IsoSiz.{Component, Size, component_rows, siz_rows, Ranges, TileRanges}
use Rattle.types.specs.declared.Area.{Area}
use Rattle.types.proofs.IsoSiz.{Fields, TileFields, fields_standard, tile_fields_standard}
use Rattle.tile.specs.Siz.{marker, pair, one_tile}
use Rattle.tile.specs.AnnexB.{across, down, laid, cells_of, from_of, to_of, cell_area, on_grid, grid_tile}
use Rattle.tile.specs.Rules.{by_annex_b, placed_by}
use Rattle.tile.specs.Rewrite.{from_zero, sized, moved, cut_by, tile_size, cut_to, with_room, judged, rewritten, over, rewrite_answer, rewrite_out}
use Rattle.tile.specs.Iso.{Gridded, num_xtiles, num_ytiles, column_of, row_of, start_of, end_of, area_of, width_of, height_of, header_of, cut_size, moved_tile, for_tile}
use Rattle.tile.specs.declared.annex_b.Side.{Side}
use Rattle.tile.specs.declared.annex_b.NoTile.TheVariants.{NoGrid}
use Rattle.tile.specs.declared.rules.Rule.{Rule}
use Rattle.tile.specs.declared.rules.Rule.TheVariants.{AnnexB, Original, InPlace}
use Rattle.tile.proofs.AnnexBLaws.{Laid, laid_is, is_laid, span_some, column_inside, row_inside, grid_past, grid_inside, no_columns, no_rows, some_grid, Found}
use Rattle.tile.proofs.RulesLaws.{annex_told}
use Rattle.tile.proofs.RulesAgree.{original_follows}
use Rattle.tile.proofs.RewriteLaws.{size_refused, size_inside, size_siz, room_enough}
use Rattle.types.specs.declared.Refusal.{Refusal}
use Rattle.types.specs.declared.Reason.TheVariants as reason

-- ---- a size, and a header that holds it

-- along an axis
side_x : Size → Side
side_x z = record { end = z.Xsiz; origin = z.XOsiz; size = z.XTsiz; tile_origin = z.XTOsiz }

side_y : Size → Side
side_y z = record { end = z.Ysiz; origin = z.YOsiz; size = z.YTsiz; tile_origin = z.YTOsiz }

-- the eight fields by which tiles go are the size's
pub record Holds (z : Size) (h : List ℕ) : Type 0 where
  pub Xsiz : xsiz h marker ≡ z.Xsiz
  pub Ysiz : ysiz h marker ≡ z.Ysiz
  pub XOsiz : xosiz h marker ≡ z.XOsiz
  pub YOsiz : yosiz h marker ≡ z.YOsiz
  pub XTsiz : xtsiz h marker ≡ z.XTsiz
  pub YTsiz : ytsiz h marker ≡ z.YTsiz
  pub XTOsiz : xtosiz h marker ≡ z.XTOsiz
  pub YTOsiz : ytosiz h marker ≡ z.YTOsiz

-- Every header holds one; its components are not looked at.
pub size_held : List ℕ → Component → Size
size_held h c =
    record {
      Rsiz = 0;
      Xsiz = xsiz h marker;
      Ysiz = ysiz h marker;
      XOsiz = xosiz h marker;
      YOsiz = yosiz h marker;
      XTsiz = xtsiz h marker;
      YTsiz = ytsiz h marker;
      XTOsiz = xtosiz h marker;
      YTOsiz = ytosiz h marker;
      first = c;
      others = [];
    }

pub holds_one : (h : List ℕ) (c : Component) → Holds (size_held h c) h
unfolding size_held
holds_one h c = record { Xsiz = refl; Ysiz = refl; XOsiz = refl; YOsiz = refl; XTsiz = refl; YTsiz = refl; XTOsiz = refl; YTOsiz = refl }

-- And a SIZ by the standard holds its own.
pub holds_standard : (z : Size) (rest : List ℕ) → Ranges z → TileRanges z → Holds z (header_of z rest)
holds_standard z rest g t =
    let f : Fields z (header_of z rest) = fields_standard z rest g in
    let k : TileFields z (header_of z rest) = tile_fields_standard z rest g t in
    record { Xsiz = f.Xsiz; Ysiz = f.Ysiz; XOsiz = f.XOsiz; YOsiz = f.YOsiz; XTsiz = k.XTsiz; YTsiz = k.YTsiz; XTOsiz = k.XTOsiz; YTOsiz = k.YTOsiz }

pub standard_gridded : (z : Size) → Ranges z → TileRanges z → Gridded z
standard_gridded z g t = record { Xsiz = g.XOsiz; Ysiz = g.YOsiz; XTsiz = t.XTsiz.0; YTsiz = t.YTsiz.0; XTOsiz = t.XTOsiz; YTOsiz = t.YTOsiz }

module _ (z : Size) where
  laid_x : Gridded z → Laid (side_x z)
  unfolding side_x
  laid_x g = record { first = g.XTOsiz.0; some = g.Xsiz; size = g.XTsiz; reach = g.XTOsiz.1 }

  laid_y : Gridded z → Laid (side_y z)
  unfolding side_y
  laid_y g = record { first = g.YTOsiz.0; some = g.Ysiz; size = g.YTsiz; reach = g.YTOsiz.1 }

  gridded : Laid (side_x z) → Laid (side_y z) → Gridded z
  unfolding side_x side_y
  gridded x y = record { Xsiz = x.some; Ysiz = y.some; XTsiz = x.size; YTsiz = y.size; XTOsiz = (x.first, x.reach); YTOsiz = (y.first, y.reach) }

  -- the grid's cells are the standard's tiles
  tiles_same : cells_of (side_x z) * cells_of (side_y z) ≡ num_xtiles z * num_ytiles z
  unfolding side_x side_y cells_of num_xtiles num_ytiles
  tiles_same = refl

  area_same : (tile : ℕ) → cell_area (side_x z) (side_y z) (tile % cells_of (side_x z)) (tile / cells_of (side_x z)) ≡ area_of z tile
  unfolding side_x side_y cells_of cell_area from_of to_of num_xtiles column_of row_of start_of end_of area_of
  area_same tile = refl

  -- No tile of the grid is empty.
  module _ (tile : ℕ) (inside : tile < num_xtiles z * num_ytiles z) (g : Gridded z) where
    below : tile < cells_of (side_x z) * cells_of (side_y z)
    below = rw tiles_same inside

    pub width_some : 1 ≤ width_of z tile
    unfolding width_of cell_area
    width_some = rw (← area_same tile) (omega (arith, span_some (side_x z) (laid_x g) _ (column_inside _ _ _ below)))

    pub height_some : 1 ≤ height_of z tile
    unfolding height_of cell_area
    height_some = rw (← area_same tile) (omega (arith, span_some (side_y z) (laid_y g) _ (row_inside _ _ _ below)))

-- ---- Annex B's rule is B.3

module _ (z : Size) (h : List ℕ) (k : Holds z h) (tile : ℕ) where
  across_x : across h ≡ side_x z
  unfolding side_x
  across_x = λ i. record { end = k.Xsiz i; origin = k.XOsiz i; size = k.XTsiz i; tile_origin = k.XTOsiz i }

  down_y : down h ≡ side_y z
  unfolding side_y
  down_y = λ i. record { end = k.Ysiz i; origin = k.YOsiz i; size = k.YTsiz i; tile_origin = k.YTOsiz i }

  on_sides : placed_by AnnexB h tile ≡ by_annex_b (on_grid (side_x z) (side_y z) tile)
  unfolding placed_by grid_tile
  on_sides = ap₂ (λ (x y : Side). by_annex_b (on_grid x y tile)) across_x down_y

  -- Where B.3's premises and the index hold, the tile lies where B-7 to B-10 have it.
  pub annex_standard : Gridded z → tile < num_xtiles z * num_ytiles z → placed_by AnnexB h tile ≡ Ok (area_of z tile)
  unfolding by_annex_b
  annex_standard g inside =
      on_sides
      ∙ ap by_annex_b (some_grid _ _ tile (is_laid _ (laid_x z g)) (is_laid _ (laid_y z g)) ∙ grid_inside _ _ tile (below z tile inside g))
      ∙ ap Ok (area_same z tile)

  -- It is told only there.
  pub record Standard (a : Area) : Type 0 where
    pub gridded : Gridded z
    pub inside : tile < num_xtiles z * num_ytiles z
    pub area : a ≡ area_of z tile

  pub annex_only : (a : Area) → placed_by AnnexB h tile ≡ Ok a → Standard a
  annex_only a e =
      let f : Found (across h) (down h) tile a = annex_told h tile a e in
      record {
        gridded = gridded z (rw across_x at f.columns) (rw down_y at f.rows);
        inside = rw (← tiles_same z, ← across_x, ← down_y) f.inside;
        area = rw (← area_same z tile, ← across_x, ← down_y) f.area;
      }

  -- No grid is 30, whatever the index.
  pub annex_no_grid : (Gridded z → ⊥) → placed_by AnnexB h tile ≡ Err (refusal reason.NoGrid marker)
  unfolding by_annex_b
  annex_no_grid n =
      let none : on_grid (side_x z) (side_y z) tile ≡ Err NoGrid =
      by_bool (laid (side_x z))
      (λ x. by_bool (laid (side_y z)) (λ y. absurd (n (gridded z (laid_is (side_x z) x) (laid_is (side_y z) y)))) (λ y. no_rows (side_x z) (side_y z) tile y))
      (λ x. no_columns (side_x z) (side_y z) tile x) in
      on_sides ∙ ap by_annex_b none

  -- A grid, and an index at or past its end, is 31.
  pub annex_no_tile : Gridded z → num_xtiles z * num_ytiles z ≤ tile → placed_by AnnexB h tile ≡ Err (refusal reason.NoSuchTile marker)
  unfolding by_annex_b
  annex_no_tile g past =
      on_sides ∙ ap by_annex_b (some_grid _ _ tile (is_laid _ (laid_x z g)) (is_laid _ (laid_y z g)) ∙ grid_past _ _ tile (rw (tiles_same z) past))

-- ---- the header after the rewrite

bytes_append : (a b : List Row) → bytes_of_rows (a ++ b) ≡ bytes_of_rows a ++ bytes_of_rows b
unfolding bytes_of_rows
bytes_append [] b = refl
bytes_append (r ∷ a) b = rw (bytes_append a b, append_assoc)

-- rows put in the place of others of their width
put_rows : (before old new after : List Row) (rest : List ℕ) → widths old ≡ widths new
    → put (bytes_of_rows (before ++ (old ++ after)) ++ rest) (widths before) (bytes_of_rows new) ≡ bytes_of_rows (before ++ (new ++ after)) ++ rest
unfolding put
put_rows before old new after rest e =
    let a : List ℕ = bytes_of_rows before in
    let o : List ℕ = bytes_of_rows old in
    let t : List ℕ = bytes_of_rows after ++ rest in
    let split : (rows : List Row) → bytes_of_rows (before ++ (rows ++ after)) ++ rest ≡ a ++ (bytes_of_rows rows ++ t) = λ rows. simp (bytes_append, append_assoc) in
    let end : length (a ++ o) ≡ widths before + length (bytes_of_rows new) = simp (length-append, length_rows) (omega arith) in
    rw (split old, split new, take_at a (o ++ t) (widths before) (length_rows before), ← append_assoc a o t, drop_at (a ++ o) t _ end)

-- the eight fields of an image that is one tile
abbrev pub one_rows : Area → List Row
one_rows a =
    row 4 a.x1 ∷ row 4 a.y1 ∷ row 4 a.x0 ∷ row 4 a.y0
    ∷ row 4 (a.x1 - a.x0) ∷ row 4 (a.y1 - a.y0) ∷ row 4 a.x0 ∷ row 4 a.y0 ∷ []

pub one_rows_lem : (a : Area) → one_tile a ≡ bytes_of_rows (one_rows a)
unfolding one_tile pair bytes_of_rows
one_rows_lem a = simp (append_assoc, append-nil)

cut_rows : (z : Size) (rest : List ℕ) (a : Area) → put (header_of z rest) (marker + XSIZ) (one_tile a) ≡ header_of (cut_size z a) rest
unfolding siz_rows component_rows cut_size widths
cut_rows z rest a =
    ap (put (header_of z rest) (marker + XSIZ)) (one_rows_lem a)
    ∙ put_rows (take 4 (siz_rows z)) (take 8 (drop 4 (siz_rows z))) (one_rows a) (drop 12 (siz_rows z)) rest refl

cut_ranges : (z : Size) (a : Area) → Ranges z → a.x0 < a.x1 → a.y0 < a.y1 → a.x1 < 2 ^ 32 → a.y1 < 2 ^ 32 → Ranges (cut_size z a) × TileRanges (cut_size z a)
unfolding cut_size
cut_ranges z a g wide high x y = (
  record { Xsiz = x; Ysiz = y; XOsiz = wide; YOsiz = high; Csiz = g.Csiz; depth = g.depth },
  record {
    XTsiz = (omega arith, omega arith);
    YTsiz = (omega arith, omega arith);
    XTOsiz = (omega arith, omega arith);
    YTOsiz = (omega arith, omega arith);
  },
)

module _ (z : Size) (tile : ℕ) (inside : tile < num_xtiles z * num_ytiles z) (g : Ranges z) (t : TileRanges z) where
  tile_some : (1 ≤ width_of z tile) × (1 ≤ height_of z tile)
  tile_some = let s : Gridded z = standard_gridded z g t in (width_some z tile inside s, height_some z tile inside s)

  moved_ranges : Ranges (moved_tile z tile) × TileRanges (moved_tile z tile)
  unfolding moved_tile width_of height_of area_of end_of
  moved_ranges =
      by_test (λ (s : Size). Ranges s × TileRanges s) (eqb (width_of z tile) z.XTsiz && eqb (height_of z tile) z.YTsiz) (λ _. (g, t))
      (λ _. cut_ranges z (from_zero (width_of z tile) (height_of z tile)) g tile_some.0 tile_some.1 (omega (arith, g.Xsiz)) (omega (arith, g.Ysiz)))

  kept_ranges : Ranges (cut_size z (area_of z tile)) × TileRanges (cut_size z (area_of z tile))
  unfolding width_of height_of area_of end_of
  kept_ranges = cut_ranges z (area_of z tile) g (omega (arith, tile_some.0)) (omega (arith, tile_some.1)) (omega (arith, g.Xsiz)) (omega (arith, g.Ysiz))

-- What a tile of the grid is rewritten to has the standard's ranges.
pub tile_ranges : (rule : Rule) (z : Size) (tile : ℕ) → tile < num_xtiles z * num_ytiles z → Ranges z → TileRanges z
    → Ranges (for_tile rule z tile) × TileRanges (for_tile rule z tile)
unfolding for_tile
tile_ranges AnnexB z tile inside g t = moved_ranges z tile inside g t
tile_ranges Original z tile inside g t = moved_ranges z tile inside g t
tile_ranges InPlace z tile inside g t = kept_ranges z tile inside g t

-- ---- the rewrite

-- of a header of 40 bytes or more with SIZ at 2 that holds a size
module _ (z : Size) (h : List ℕ) (k : Holds z h) (long : 40 ≤ length h) (siz : be 2 h marker ≡ SIZ) (tile : ℕ) where
  -- Where a rule tells a tile at the standard's place it is cut as the standard has it.
  pub size_told : (rule : Rule) → placed_by rule h tile ≡ Ok (area_of z tile) → tile_size rule h tile ≡ cut_by rule (area_of z tile) z.XTsiz z.YTsiz
  size_told rule told =
      size_siz rule h tile long siz ∙ size_inside rule h tile (area_of z tile) told ∙ (λ i. cut_by rule (area_of z tile) (k.XTsiz i) (k.YTsiz i))

  -- By Annex B so exactly where B.3's premises and the index hold; else the rewrite is refused, by 30 or by 31.
  pub size_annex : Gridded z → tile < num_xtiles z * num_ytiles z → tile_size AnnexB h tile ≡ sized (width_of z tile) (height_of z tile) z.XTsiz z.YTsiz
  unfolding cut_by moved width_of height_of
  size_annex g inside = size_told AnnexB (annex_standard z h k tile g inside)

  pub size_no_grid : (Gridded z → ⊥) → tile_size AnnexB h tile ≡ Err (refusal reason.NoGrid marker)
  size_no_grid n = size_siz AnnexB h tile long siz ∙ size_refused AnnexB h tile _ (annex_no_grid z h k tile n)

  pub size_no_tile : Gridded z → num_xtiles z * num_ytiles z ≤ tile → tile_size AnnexB h tile ≡ Err (refusal reason.NoSuchTile marker)
  size_no_tile g past = size_siz AnnexB h tile long siz ∙ size_refused AnnexB h tile _ (annex_no_tile z h k tile g past)

-- what is cut by a rule stays or is cut to an area
of_cut : (P : Result (Option Area) Refusal → Type 0) (rule : Rule) (a : Area) (xt yt : ℕ) → P (Ok None) → ((b : Area) → P (Ok (Some b))) → P (cut_by rule a xt yt)
unfolding cut_by moved sized
of_cut P AnnexB a xt yt w c = by_test P (eqb (a.x1 - a.x0) xt && eqb (a.y1 - a.y0) yt) (λ _. w) (λ _. c _)
of_cut P Original a xt yt w c = by_test P (eqb (a.x1 - a.x0) xt && eqb (a.y1 - a.y0) yt) (λ _. w) (λ _. c _)
of_cut P InPlace a xt yt w c = c a

module _ (z : Size) (rest : List ℕ) (tile : ℕ) where
  moved_is : cut_to (moved (area_of z tile) z.XTsiz z.YTsiz) (header_of z rest) ≡ header_of (moved_tile z tile) rest
  unfolding moved sized cut_to moved_tile width_of height_of
  moved_is =
      by_bool (eqb (width_of z tile) z.XTsiz && eqb (height_of z tile) z.YTsiz) (λ e. rw e)
      (λ e. rw e (cut_rows z rest (from_zero (width_of z tile) (height_of z tile))))

  cut_is : (rule : Rule) → cut_to (cut_by rule (area_of z tile) z.XTsiz z.YTsiz) (header_of z rest) ≡ header_of (for_tile rule z tile) rest
  unfolding cut_by cut_to for_tile
  cut_is AnnexB = moved_is
  cut_is Original = moved_is
  cut_is InPlace = cut_rows z rest (area_of z tile)

-- of a SIZ by the standard, where a rule tells a tile at the standard's place
module _ (rule : Rule) (z : Size) (rest : List ℕ) (tile : ℕ) (g : Ranges z) (t : TileRanges z) (told : placed_by rule (header_of z rest) tile ≡ Ok (area_of z tile)) where
  pub size_standard : tile_size rule (header_of z rest) tile ≡ cut_by rule (area_of z tile) z.XTsiz z.YTsiz
  size_standard =
      let f : Fields z (header_of z rest) = fields_standard z rest g in
      size_told z (header_of z rest) (holds_standard z rest g t) (omega (arith, f.long)) f.marker tile rule told

  -- With room for the header the rewrite is not refused.
  pub rewrite_accepts : (room : ℕ) → length (header_of z rest) ≤ room → rewrite_answer rule (header_of z rest) tile room ≡ Ok (length (header_of z rest))
  unfolding rewrite_answer judged
  rewrite_accepts room enough =
      let n : ℕ = length (header_of z rest) in
      let all : with_room n room ≡ Ok n = room_enough n room enough in
      rw size_standard (of_cut (λ s. judged s n room ≡ Ok n) rule (area_of z tile) z.XTsiz z.YTsiz all (λ _. all))

  header_cut : rewritten rule (header_of z rest) tile ≡ header_of (for_tile rule z tile) rest
  unfolding rewritten
  header_cut = rw size_standard (cut_is z rest tile rule)

  -- What it writes is a SIZ by the standard again, with the same bytes behind it.
  pub rewrite_writes : (out : List ℕ) → length (header_of z rest) ≤ length out
      → rewrite_out rule (header_of z rest) tile out ≡ header_of (for_tile rule z tile) rest ++ drop (length (header_of z rest)) out
  unfolding rewrite_out over
  rewrite_writes out enough = rw (rewrite_accepts (length out) enough, header_cut)

module _ (z : Size) (rest : List ℕ) (tile : ℕ) (g : Ranges z) (t : TileRanges z) (inside : tile < num_xtiles z * num_ytiles z) where
  -- By Annex B every tile of the grid is told so.
  pub area_standard : placed_by AnnexB (header_of z rest) tile ≡ Ok (area_of z tile)
  area_standard = annex_standard z (header_of z rest) (holds_standard z rest g t) tile (standard_gridded z g t) inside

  -- By the original's rule, where tile origin and image origin are one and the tile's sums fit 32 bits.
  module _ (x : z.XTOsiz ≡ z.XOsiz) (y : z.YTOsiz ≡ z.YOsiz) (fitsX : z.XTOsiz + (column_of z tile + 1) * z.XTsiz < 2 ^ 32)
      (fitsY : z.YTOsiz + (row_of z tile + 1) * z.YTsiz < 2 ^ 32) where
    pub area_original : placed_by Original (header_of z rest) tile ≡ Ok (area_of z tile)
    unfolding column_of row_of num_xtiles cells_of side_x
    area_original =
        let h : List ℕ = header_of z rest in
        let k : Holds z h = holds_standard z rest g t in
        let columns : cells_of (across h) ≡ num_xtiles z = ap cells_of (across_x z h k tile) in
        original_follows h tile (area_of z tile) (record { x = k.XTOsiz ∙ x ∙ sym k.XOsiz; y = k.YTOsiz ∙ y ∙ sym k.YOsiz }) area_standard
        (rw (columns, k.XTOsiz, k.XTsiz) fitsX) (rw (columns, k.YTOsiz, k.YTsiz) fitsY)
