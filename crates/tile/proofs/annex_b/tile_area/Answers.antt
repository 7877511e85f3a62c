-- Both sides are the definition's, and so are the tests of them.
use mathlib.Core.Path.{◌≡◌, sym, ap, ◌∙◌}
use Rattle.tile.specs.AnnexB.{down, side_at, on_grid, grid_tile}
use Rattle.tile.specs.declared.annex_b.Side.{Side}
use Rattle.tile.proofs.AnnexBLaws.{no_columns, no_rows, some_grid}
use Prim.Native.Nat.{ℕ}
use mathlib.Core.List.{List}
use Rattle.tile.proofs.annex_b.tile_area.Goals as goal

-- the sides as they were read
across_read : (h : List ℕ) (isot : ℕ) (x : Side) → x ≡ side_at h 0 → grid_tile h isot ≡ on_grid x (down h) isot
unfolding grid_tile side_at
across_read h isot x e = ap (λ (s : Side). on_grid s (down h) isot) (sym e)

both_read : (h : List ℕ) (isot : ℕ) (x y : Side) → x ≡ side_at h 0 → y ≡ side_at h 4 → grid_tile h isot ≡ on_grid x y isot
unfolding side_at
both_read h isot x y e f = across_read h isot x e ∙ ap (λ (s : Side). on_grid x s isot) (sym f)

pub returns-then-not-is_laid : goal.returns-then-not-is_laid
returns-then-not-is_laid c =
    sym (across_read _ _ _ c.side_at-across.ensures ∙ no_columns _ _ _ (sym c.is_laid.ensures ∙ c.if-not-is_laid.true))

pub returns-then-not-is_laid-2 : goal.returns-then-not-is_laid-2
returns-then-not-is_laid-2 c =
    sym
    (both_read _ _ _ _ c.side_at-across.ensures c.side_at-down.ensures
    ∙ no_rows _ _ _ (sym c.is_laid-2.ensures ∙ c.if-not-is_laid-2.true))

pub in_cells-requires : goal.in_cells-requires
in_cells-requires c =
    record {
      across_value = sym c.is_laid.ensures ∙ c.if-not-is_laid.false;
      down_value = sym c.is_laid-2.ensures ∙ c.if-not-is_laid-2.false;
    }

pub returns : goal.returns
returns c =
    c.in_cells.ensures
    ∙ sym
    (both_read _ _ _ _ c.side_at-across.ensures c.side_at-down.ensures
    ∙ some_grid _ _ _ (sym c.is_laid.ensures ∙ c.if-not-is_laid.false) (sym c.is_laid-2.ensures ∙ c.if-not-is_laid-2.false))
