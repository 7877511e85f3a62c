-- The cells of the standard's grid partition it. Along an axis a cell ends where the next starts, the first starts and the last ends with the image; so
-- the cells lie between edges that do not fall, also after a division rounded up, and such a row holds each place once.
use Prim.Native.Nat.{ℕ, zero, suc, ◌+◌, ◌-◌, ◌*◌, ◌/◌, ◌%◌, ◌≤◌, ◌<◌, min, max}
use native.Mathlib.Nat.{zero-mul, add-zero, mul_comm, le_refl, le_antisymm, div-add-mod', pos_of_ne-zero}
use native.Mathlib.Numerals.{add-one}
use native.Mathlib.Omega.{arith}
use mathlib.Core.Path.{◌≡◌, sym, ap, ap₂, ◌∙◌}
use lib.Arith.{digits_lt, digits_div, digits_mod}
use lib.Dec.{ltb}
use borrow.Author.Tests.{ltb-true, ltb-false}
use Rattle.numbers.specs.Ceiling.{ceil_div}
use Rattle.numbers.proofs.BytesLaws.{ceil_covers, ceil_mono}
use Rattle.numbers.proofs.Choice.{by_bool}
use Rattle.types.specs.declared.Area.{Area}
use Rattle.tile.specs.AnnexB.{cells_of, from_of, to_of, cell_area}
use Rattle.tile.specs.declared.annex_b.Side.{Side}
use Rattle.tile.proofs.AnnexBLaws.{Laid, next_cell, cell_starts, column_inside, row_inside}

-- ---- a row of cells

-- a number that a statement holds of, and it holds of no other
pub record Once (P : ℕ → Type 0) : Type 0 where
  pub which : ℕ
  pub holds : P which
  pub only : (u : ℕ) → P u → u ≡ which

-- the cell of a row of n, from its edge to the next, that a place lies in
pub record InRow (edge : ℕ → ℕ) (n p cell : ℕ) : Type 0 where
  pub below : cell < n
  pub from : edge cell ≤ p
  pub to : p < edge (cell + 1)

some_cell : (edge : ℕ → ℕ) (n p : ℕ) → edge 0 ≤ p → p < edge n → (cell : ℕ) × InRow edge n p cell
some_cell edge zero p a b = absurd (omega arith)
some_cell edge (suc n) p a b =
    by_bool (ltb p (edge n))
    (λ e. let (cell, i) = some_cell edge n p a (ltb-true _ _ e) in (cell, record { below = omega (arith, i.below); from = i.from; to = i.to }))
    (λ e. (n, record { below = omega arith; from = ltb-false _ _ e; to = rw (add-one n) b }))

module _ (edge : ℕ → ℕ) (n : ℕ) (rises : (c : ℕ) → c < n → edge c ≤ edge (c + 1)) where
  rises_by : (a k : ℕ) → a + k ≤ n → edge a ≤ edge (a + k)
  rises_by a zero h = rw add-zero (le_refl (edge a))
  rises_by a (suc k) h =
      let next : a + k + 1 ≡ a + suc k = omega arith in
      omega (arith, rises_by a k (omega arith), rises (a + k) (omega arith), ap edge next)

  no_later : (p c d : ℕ) → InRow edge n p c → InRow edge n p d → c ≤ d
  no_later p c d i j =
      by_bool (ltb d c)
      (λ e. let l : d < c = ltb-true _ _ e in
      let to : d + 1 + (c - (d + 1)) ≡ c = omega arith in
      omega (arith, rises_by (d + 1) (c - (d + 1)) (omega (arith, i.below)), ap edge to, i.from, j.to))
      (λ e. ltb-false _ _ e)

  -- Each place between the ends of a row whose edges do not fall lies in one of its cells, and in no other.
  pub row_partition : (p : ℕ) → edge 0 ≤ p → p < edge n → Once (InRow edge n p)
  row_partition p a b =
      let (cell, i) = some_cell edge n p a b in
      record { which = cell; holds = i; only = λ d j. le_antisymm (no_later p d cell j i) (no_later p cell d i j) }

-- ---- one axis

-- where a cell starts and the one before it ends
edge_of : Side → ℕ → ℕ
edge_of s cell = min (max (s.tile_origin + cell * s.size) s.origin) s.end

-- a cell below the count of cells that a sample lies in, where samples lie a step apart
pub record InCell (s : Side) (step p cell : ℕ) : Type 0 where
  pub below : cell < cells_of s
  pub from : ceil_div (from_of s cell) step ≤ p
  pub to : p < ceil_div (to_of s cell) step

module _ (s : Side) (l : Laid s) where
  cells_cover : s.end ≤ s.tile_origin + cells_of s * s.size
  unfolding cells_of
  cells_cover = omega (arith, ceil_covers (s.end - s.tile_origin) l.size)

  from_edge : (cell : ℕ) → cell < cells_of s → from_of s cell ≡ edge_of s cell
  unfolding from_of edge_of
  from_edge cell inside = omega (arith, cell_starts s l cell inside, l.some)

  to_edge : (cell : ℕ) → to_of s cell ≡ edge_of s (cell + 1)
  unfolding to_of edge_of
  to_edge cell = omega (arith, next_cell cell s.size, l.reach)

  edge_first : edge_of s 0 ≡ s.origin
  unfolding edge_of
  edge_first = omega (arith, zero-mul s.size, l.first, l.some)

  edge_last : edge_of s (cells_of s) ≡ s.end
  unfolding edge_of
  edge_last = omega (arith, cells_cover)

  edge_rises : (cell : ℕ) → edge_of s cell ≤ edge_of s (cell + 1)
  unfolding edge_of
  edge_rises cell = omega (arith, next_cell cell s.size)

  -- There is a cell.
  pub cells_some : 0 < cells_of s
  cells_some = pos_of_ne-zero (λ e. omega (arith, cells_cover, ap (λ (n : ℕ). n * s.size) e, zero-mul s.size, l.first, l.some))

  -- The first cell starts with the image.
  pub cells_start : from_of s 0 ≡ s.origin
  cells_start = from_edge 0 cells_some ∙ edge_first

  -- A cell ends where the next one starts.
  pub cells_adjoin : (cell : ℕ) → cell + 1 < cells_of s → to_of s cell ≡ from_of s (cell + 1)
  cells_adjoin cell inside = to_edge cell ∙ sym (from_edge (cell + 1) inside)

  -- And so it does in samples.
  pub samples_adjoin : (step cell : ℕ) → cell + 1 < cells_of s → ceil_div (to_of s cell) step ≡ ceil_div (from_of s (cell + 1)) step
  samples_adjoin step cell inside = ap (λ (n : ℕ). ceil_div n step) (cells_adjoin cell inside)

  -- The last cell ends with the image.
  pub cells_end : (cell : ℕ) → cell + 1 ≡ cells_of s → to_of s cell ≡ s.end
  cells_end cell last = to_edge cell ∙ ap (edge_of s) last ∙ edge_last

  -- Each sample of the image along an axis lies in one cell, and in no other.
  pub axis_partition : (step : ℕ) → 0 < step → (p : ℕ) → ceil_div s.origin step ≤ p → p < ceil_div s.end step → Once (InCell s step p)
  axis_partition step some p a b =
      let edge : ℕ → ℕ = λ c. ceil_div (edge_of s c) step in
      let o : Once (InRow edge (cells_of s) p) =
      row_partition edge (cells_of s) (λ c _. ceil_mono _ _ some (edge_rises c)) p (rw edge_first a) (rw edge_last b) in
      let i = o.holds in
      record {
        which = o.which;
        holds = record { below = i.below; from = rw (from_edge _ i.below) i.from; to = rw to_edge i.to };
        only = λ c j. o.only c (record { below = j.below; from = rw (← from_edge c j.below) j.from; to = rw (← to_edge c) j.to });
      }

-- ---- column and row

module _ (columns column row : ℕ) (inside : column < columns) where
  -- A column and a row of the grid have an index in it.
  pub index_below : (rows : ℕ) → row < rows → row * columns + column < columns * rows
  index_below rows r = rw (mul_comm columns rows) (digits_lt r inside)

  -- Its remainder by the columns is the column.
  pub index_column : (row * columns + column) % columns ≡ column
  index_column = digits_mod row inside

  -- Its quotient by the columns is the row.
  pub index_row : (row * columns + column) / columns ≡ row
  index_row = digits_div row inside

-- No other index has both its column and its row.
pub same_index : (columns t u : ℕ) → t % columns ≡ u % columns → t / columns ≡ u / columns → t ≡ u
same_index columns t u c r = sym (div-add-mod' t columns) ∙ ap₂ (λ (q m : ℕ). q * columns + m) r c ∙ div-add-mod' u columns

-- ---- the grid

-- a sample of a component, whose steps are given, that lies in an area: both ends are divided and rounded up
pub record HasSample (a : Area) (xr yr px py : ℕ) : Type 0 where
  pub left : ceil_div a.x0 xr ≤ px
  pub right : px < ceil_div a.x1 xr
  pub top : ceil_div a.y0 yr ≤ py
  pub bottom : py < ceil_div a.y1 yr

-- a tile of the grid that a sample lies in
pub record InTile (x y : Side) (xr yr px py tile : ℕ) : Type 0 where
  pub below : tile < cells_of x * cells_of y
  pub has : HasSample (cell_area x y (tile % cells_of x) (tile / cells_of x)) xr yr px py

module _ (x y : Side) (xr yr px py : ℕ) where
  from_cells : (tile column row : ℕ) → tile % cells_of x ≡ column → tile / cells_of x ≡ row → tile < cells_of x * cells_of y
      → InCell x xr px column → InCell y yr py row → InTile x y xr yr px py tile
  unfolding cell_area
  from_cells tile column row c r below i j =
      record { below = below; has = rw (c, r) (record { left = i.from; right = i.to; top = j.from; bottom = j.to }) }

  column_of_lem : (tile : ℕ) → InTile x y xr yr px py tile → InCell x xr px (tile % cells_of x)
  unfolding cell_area
  column_of_lem tile i = record { below = column_inside _ _ tile i.below; from = i.has.left; to = i.has.right }

  row_of : (tile : ℕ) → InTile x y xr yr px py tile → InCell y yr py (tile / cells_of x)
  unfolding cell_area
  row_of tile i = record { below = row_inside _ _ tile i.below; from = i.has.top; to = i.has.bottom }

  -- Each sample of the image lies in one tile of the grid, and in no other.
  pub grid_partition : Laid x → Laid y → 0 < xr → 0 < yr → ceil_div x.origin xr ≤ px → px < ceil_div x.end xr
      → ceil_div y.origin yr ≤ py → py < ceil_div y.end yr → Once (InTile x y xr yr px py)
  grid_partition lx ly sx sy left right top bottom =
      let c : Once (InCell x xr px) = axis_partition x lx xr sx px left right in
      let r : Once (InCell y yr py) = axis_partition y ly yr sy py top bottom in
      let n : ℕ = cells_of x in
      let tile : ℕ = r.which * n + c.which in
      let column : tile % n ≡ c.which = index_column n c.which r.which c.holds.below in
      let row : tile / n ≡ r.which = index_row n c.which r.which c.holds.below in
      let below : tile < n * cells_of y = index_below n c.which r.which c.holds.below (cells_of y) r.holds.below in
      record {
        which = tile;
        holds = from_cells tile c.which r.which column row below c.holds r.holds;
        only = λ u i. same_index n u tile (c.only _ (column_of_lem u i) ∙ sym column) (r.only _ (row_of u i) ∙ sym row);
      }
