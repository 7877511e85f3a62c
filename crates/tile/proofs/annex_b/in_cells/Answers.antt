-- Columns and rows fit 32 bits, so that a u64 holds their product; an index below it has its column and its row in the grid.
use Prim.Native.Nat.{ℕ, ◌*◌, ◌/◌, ◌%◌, ◌^◌, ◌≤◌, ◌<◌}
use native.Mathlib.Omega.{arith}
use mathlib.Core.Path.{◌≡◌, sym, ap, ◌∙◌}
use Rattle.numbers.proofs.BytesLaws.{product_fits}
use Rattle.tile.specs.AnnexB.{cells_of, cell_area}
use Rattle.tile.specs.declared.annex_b.Side.{Side}
use Rattle.std.specs.Prelude.{Ok}
use Rattle.tile.proofs.AnnexBLaws.{laid_is, cells_most, columns_positive, column_inside, row_inside, grid_past, grid_inside}
use Rattle.tile.proofs.annex_b.in_cells.Goals as goal

-- the test is of the definition's numbers
module _ (x y : Side) (tile : ℕ) {columns rows : ℕ} (n : columns ≡ cells_of x) (m : rows ≡ cells_of y) where
  past : columns * rows ≤ tile → cells_of x * cells_of y ≤ tile
  past h = rw (← n, ← m) h

  inside : tile < columns * rows → tile < cells_of x * cells_of y
  inside h = rw (← n, ← m) h

pub overflow_mul-columns : goal.overflow_mul-columns
overflow_mul-columns c =
    let n : c.cells-columns.result < 2 ^ 32 = omega (arith, c.cells-columns.ensures, cells_most _ (laid_is _ c.requires.across_value)) in
    let m : c.cells-rows.result < 2 ^ 32 = omega (arith, c.cells-rows.ensures, cells_most _ (laid_is _ c.requires.down_value)) in
    omega (arith, product_fits _ _ n m)

pub returns-then-columns-rows : goal.returns-then-columns-rows
returns-then-columns-rows c = sym (grid_past _ _ _ (past _ _ _ c.cells-columns.ensures c.cells-rows.ensures c.if-columns-rows.true))

pub nonzero_rem-tile : goal.nonzero_rem-tile
nonzero_rem-tile c = omega (arith, columns_positive _ _ _ c.if-columns-rows.false)

pub span_of-x-requires : goal.span_of-x-requires
span_of-x-requires c =
    let h = inside _ _ _ c.cells-columns.ensures c.cells-rows.ensures c.if-columns-rows.false in
    record { side_value = c.requires.across_value; cell_bound = rw c.cells-columns.ensures (column_inside _ _ _ h) }

pub nonzero_div-tile : goal.nonzero_div-tile
nonzero_div-tile c = omega (arith, columns_positive _ _ _ c.if-columns-rows.false)

pub span_of-y-requires : goal.span_of-y-requires
span_of-y-requires c =
    let h = inside _ _ _ c.cells-columns.ensures c.cells-rows.ensures c.if-columns-rows.false in
    record { side_value = c.requires.down_value; cell_bound = rw c.cells-columns.ensures (row_inside _ _ _ h) }

pub returns : goal.returns
unfolding cell_area
returns c =
    let a = c.args in
    let x = c.span_of-x.ensures in
    let y = c.span_of-y.ensures in
    (λ i. Ok (record { x0 = x.0 i; y0 = y.0 i; x1 = x.1 i; y1 = y.1 i }))
    ∙ ap (λ (n : ℕ). Ok (cell_area a.across a.down (a.tile % n) (a.tile / n))) c.cells-columns.ensures
    ∙ sym (grid_inside _ _ _ (inside _ _ _ c.cells-columns.ensures c.cells-rows.ensures c.if-columns-rows.false))
