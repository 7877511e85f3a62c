-- The standard's rule, opened once: what a grid is along an axis, with a point in every cell, and a law for each case.
use Prim.Native.Nat.{ℕ, ◌+◌, ◌-◌, ◌*◌, ◌/◌, ◌%◌, ◌≤◌, ◌<◌}
use native.Mathlib.Nat.{le-mul_of_pos_right, add-mul, one-mul, mul_comm, zero-mul, mod-lt, le-div_iff_mul-le, div-lt_iff_lt-mul, pos_of_ne-zero}
use native.Mathlib.Omega.{arith}
use mathlib.Core.Path.{◌≡◌, sym, ap}
use mathlib.Core.Bool.{Bool, true, false, cond, ◌&&◌, and-eq-true_iff, and-false}
use lib.Dec.{leb, ltb}
use borrow.Author.Tests.{le-leb, lt-leb, lt-ltb, le-ltb, leb-true, ltb-true}
use Rattle.numbers.specs.Ceiling.{ceil_div}
use Rattle.numbers.proofs.BytesLaws.{ceil_least}
use Rattle.numbers.proofs.Choice.{by_test, by_bool}
use Rattle.types.specs.declared.Area.{Area}
use Rattle.tile.specs.AnnexB.{laid, cells_of, from_of, to_of, cell_area, in_cells, on_grid}
use Rattle.tile.specs.declared.annex_b.Side.{Side}
use Rattle.tile.specs.declared.annex_b.NoTile.{NoTile}
use Rattle.tile.specs.declared.annex_b.NoTile.TheVariants.{NoGrid, PastGrid}
use Rattle.std.specs.Prelude.{Result, Ok, Err}

-- ---- one axis

-- what the four tests say
pub record Laid (s : Side) : Type 0 where
  pub first : s.tile_origin ≤ s.origin
  pub some : s.origin < s.end
  pub size : 1 ≤ s.size
  pub reach : s.origin < s.tile_origin + s.size

pub laid_is : (s : Side) → laid s ≡ true → Laid s
unfolding laid
laid_is s e =
    let a = (and-eq-true_iff (leb s.tile_origin s.origin) _).0 e in
    let b = (and-eq-true_iff (ltb s.origin s.end) _).0 a.1 in
    let c = (and-eq-true_iff (leb 1 s.size) _).0 b.1 in
    record { first = leb-true _ _ a.0; some = ltb-true _ _ b.0; size = leb-true _ _ c.0; reach = ltb-true _ _ c.1 }

pub is_laid : (s : Side) → Laid s → laid s ≡ true
unfolding laid
is_laid s l = rw (le-leb _ _ l.first, lt-ltb _ _ l.some, le-leb _ _ l.size, lt-ltb _ _ l.reach)

-- tested one by one
module _ (s : Side) where
  pub laid_late : s.origin < s.tile_origin → laid s ≡ false
  unfolding laid
  laid_late h = rw (lt-leb _ _ h)

  pub laid_empty : s.end ≤ s.origin → laid s ≡ false
  unfolding laid
  laid_empty h = rw (le-ltb _ _ h, and-false)

  -- a first tile that reaches past the image origin has a size
  pub laid_reach : s.tile_origin ≤ s.origin → s.origin < s.end → laid s ≡ ltb s.origin (s.tile_origin + s.size)
  unfolding laid
  laid_reach f o =
      by_bool (ltb s.origin (s.tile_origin + s.size))
      (λ e. rw (le-leb _ _ f, lt-ltb _ _ o, le-leb 1 s.size (omega (arith, ltb-true s.origin (s.tile_origin + s.size) e)), e))
      (λ e. rw (le-leb _ _ f, lt-ltb _ _ o, e, and-false))

-- the cell after a cell
pub next_cell : (cell size : ℕ) → (cell + 1) * size ≡ cell * size + size
next_cell cell size = omega (arith, add-mul cell 1 size, one-mul size)

-- a cell below the count of cells starts before the end
pub starts_inside : (end start size cell : ℕ) → 1 ≤ size → cell < ceil_div (end - start) size → start + cell * size < end
unfolding ceil_div
starts_inside end start size cell some inside = omega (arith, (le-div_iff_mul-le some).0 inside, next_cell cell size)

-- no more cells than the image has points
pub cells_most : (s : Side) → Laid s → cells_of s ≤ s.end
unfolding cells_of
cells_most s l =
    let n : ℕ = s.end - s.tile_origin in
    omega (arith, ceil_least n n l.size (le-mul_of_pos_right n l.size))

module _ (s : Side) (l : Laid s) (cell : ℕ) (inside : cell < cells_of s) where
  pub cell_starts : s.tile_origin + cell * s.size < s.end
  unfolding cells_of
  cell_starts = starts_inside s.end s.tile_origin s.size cell l.size inside

  -- a tile has a point along each axis
  pub span_some : from_of s cell < to_of s cell
  unfolding from_of to_of
  span_some = omega (arith, cell_starts, next_cell (cell) s.size, l.some, l.reach)

-- and lies within the image
pub span_from : (s : Side) (cell : ℕ) → s.origin ≤ from_of s cell
unfolding from_of
span_from s cell = omega arith

pub span_to : (s : Side) (cell : ℕ) → to_of s cell ≤ s.end
unfolding to_of
span_to s cell = omega arith

-- ---- the grid

-- an index below columns * rows has its column and its row in the grid
module _ (columns rows tile : ℕ) (inside : tile < columns * rows) where
  pub columns_positive : 0 < columns
  columns_positive = pos_of_ne-zero (λ e. omega (arith, ap (λ (n : ℕ). n * rows) e, zero-mul rows))

  pub column_inside : tile % columns < columns
  column_inside = mod-lt tile columns_positive

  pub row_inside : tile / columns < rows
  row_inside = (div-lt_iff_lt-mul columns_positive).1 (omega (arith, mul_comm columns rows))

module _ (x y : Side) (tile : ℕ) where
  -- the tile, or none, as the index is below columns * rows
  told : Bool → Result Area NoTile
  told below = cond below (Ok (cell_area x y (tile % cells_of x) (tile / cells_of x))) (Err PastGrid)

  pub grid_past : cells_of x * cells_of y ≤ tile → in_cells x y tile ≡ Err PastGrid
  unfolding in_cells told
  grid_past h = ap told (le-ltb tile (cells_of x * cells_of y) h)

  pub grid_inside : tile < cells_of x * cells_of y → in_cells x y tile ≡ Ok (cell_area x y (tile % cells_of x) (tile / cells_of x))
  unfolding in_cells told
  grid_inside h = ap told (lt-ltb tile (cells_of x * cells_of y) h)

  pub no_columns : laid x ≡ false → on_grid x y tile ≡ Err NoGrid
  unfolding on_grid
  no_columns e = rw e

  pub no_rows : laid y ≡ false → on_grid x y tile ≡ Err NoGrid
  unfolding on_grid
  no_rows e = rw (e, and-false)

  pub some_grid : laid x ≡ true → laid y ≡ true → on_grid x y tile ≡ in_cells x y tile
  unfolding on_grid
  some_grid e f = rw (e, f)

  -- what a tile that is found says
  pub record Found (a : Area) : Type 0 where
    pub columns : Laid x
    pub rows : Laid y
    pub inside : tile < cells_of x * cells_of y
    pub area : a ≡ cell_area x y (tile % cells_of x) (tile / cells_of x)

pub found : (x y : Side) (tile : ℕ) (a : Area) → on_grid x y tile ≡ Ok a → Found x y tile a
unfolding on_grid in_cells
found x y tile a =
    let P : Result Area NoTile → Type 0 = λ g. g ≡ Ok a → Found x y tile a in
    by_test P (laid x && laid y)
    (λ e. let both = (and-eq-true_iff (laid x) (laid y)).0 e in
    by_test P (ltb tile (cells_of x * cells_of y))
    (λ l f. let p : cell_area x y (tile % cells_of x) (tile / cells_of x) ≡ a = cc in
    record { columns = laid_is x both.0; rows = laid_is y both.1; inside = ltb-true _ _ l; area = sym p })
    (λ _ f. (cc)))
    (λ _ f. (cc))
