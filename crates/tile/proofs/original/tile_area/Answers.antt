-- The fields read are the definition's, so each answer taken apart is one of its axes.
use Prim.Native.Nat.{ℕ}
use mathlib.Core.List.{List}
use mathlib.Core.Path.{◌≡◌, sym, ap, ◌∙◌}
use Rattle.types.specs.Siz.{xsiz, xosiz, xtsiz}
use Rattle.tile.proofs.OriginalLaws.{grid_none, grid_across, grid_down, grid_both}
use Rattle.std.specs.Prelude.{Option}
use Rattle.tile.specs.declared.siz.Span.{Span}
use Rattle.tile.specs.Original.{axis_of, columns_of, in_grid, tile_area}
use Rattle.tile.specs.Siz.{marker}
use Rattle.tile.proofs.original.tile_area.Goals as goal

-- the tile lies in the grid of the columns that were counted
grid : (h : List ℕ) (columns isot : ℕ) → columns ≡ columns_of (xsiz h marker) (xosiz h marker) (xtsiz h marker)
    → tile_area h isot ≡ in_grid h columns isot
unfolding tile_area
grid h columns isot e = ap (λ (n : ℕ). in_grid h n isot) (sym e)

pub returns-then-columns-eq0 : goal.returns-then-columns-eq0
returns-then-columns-eq0 c = sym (grid _ c.columns-columns.result _ (cc) ∙ grid_none _ _ _ c.if-columns-eq0.true)

-- an axis of the fields that were read
axis : {end origin size x y z : ℕ} (cell : ℕ) {found span : Option Span} → end ≡ x → origin ≡ y → size ≡ z
    → found ≡ axis_of end origin size cell → found ≡ span → axis_of x y z cell ≡ span
axis cell e f g told is = sym (told ∙ (λ i. axis_of (e i) (f i) (g i) cell)) ∙ is

pub returns-in_err-across : goal.returns-in_err-across
returns-in_err-across c =
    let x = axis _ c.field-xsiz.ensures c.field-xosiz.ensures c.field-xtsiz.ensures c.span.ensures c.in_err-across.was in
    c.from_residual.ensures ∙ sym (grid _ c.columns-columns.result _ (cc) ∙ grid_across _ _ _ c.if-columns-eq0.false x)

pub returns-in_err-down : goal.returns-in_err-down
returns-in_err-down c =
    let x = axis _ c.field-xsiz.ensures c.field-xosiz.ensures c.field-xtsiz.ensures c.span.ensures c.in_ok-across.was in
    let y = axis _ c.field-ysiz.ensures c.field-yosiz.ensures c.field-ytsiz.ensures c.span-2.ensures c.in_err-down.was in
    c.from_residual-in_err-down.ensures
    ∙ sym (grid _ c.columns-columns.result _ (cc) ∙ grid_down _ _ _ c.if-columns-eq0.false _ x y)

pub returns : goal.returns
returns c =
    let x = axis _ c.field-xsiz.ensures c.field-xosiz.ensures c.field-xtsiz.ensures c.span.ensures c.in_ok-across.was in
    let y = axis _ c.field-ysiz.ensures c.field-yosiz.ensures c.field-ytsiz.ensures c.span-2.ensures c.in_ok-down.was in
    sym (grid _ c.columns-columns.result _ (cc) ∙ grid_both _ _ _ c.if-columns-eq0.false _ _ x y)
