-- The two rules beside each other. Where tile origin and image origin are one, a tile that Annex B tells lies at the same place by the original's rule,
-- unless a sum of that passes 32 bits; and then it is refused. So they agree wherever both tell a tile.
use Prim.Native.Nat.{ℕ, ◌+◌, ◌-◌, ◌*◌, ◌/◌, ◌%◌, ◌^◌, ◌≤◌, ◌<◌}
use native.Mathlib.Omega.{arith}
use mathlib.Core.Path.{◌≡◌, sym, ap, ap₂, ◌∙◌}
use mathlib.Core.Logic.{◌⊎◌, inl, inr, ⊎_elim}
use mathlib.Core.List.{List}
use lib.Dec.{ltb}
use borrow.Author.Tests.{ltb-true, ltb-false}
use Rattle.std.specs.Prelude.{Option, Some, None, Result, Ok, Err}
use Rattle.numbers.specs.Ceiling.{ceil_div}
use Rattle.numbers.proofs.Choice.{by_bool}
use Rattle.types.specs.Refusals.{refusal}
use Rattle.types.specs.Siz.{xosiz, yosiz, xtsiz, ytsiz, xtosiz, ytosiz}
use Rattle.types.specs.declared.Area.{Area}
use Rattle.types.specs.declared.Refusal.{Refusal}
use Rattle.tile.specs.Siz.{marker}
use Rattle.tile.specs.AnnexB.{across, down, cells_of, from_of, to_of, cell_area}
use Rattle.tile.specs.Original.{axis_of, columns_of, in_grid, tile_area}
use Rattle.tile.specs.Rules.{by_original, placed_by}
use Rattle.tile.specs.declared.annex_b.Side.{Side}
use Rattle.tile.specs.declared.siz.Span.{Span}
use Rattle.tile.specs.declared.rules.Rule.TheVariants.{AnnexB, Original}
use Rattle.tile.proofs.AnnexBLaws.{Laid, Found, next_cell, cell_starts, columns_positive, column_inside, row_inside}
use Rattle.tile.proofs.OriginalLaws.{axis_inside, axis_passes, columns_some, grid_across, grid_down, grid_both}
use Rattle.tile.proofs.RulesLaws.{refused_tile, annex_told}
use Rattle.types.specs.declared.Reason.TheVariants.{TileOutside}

-- ---- one axis

spanned : ℕ → ℕ → Option Span
spanned from to = Some (record { from = from; to = to })

module _ (s : Side) (l : Laid s) (same : s.tile_origin ≡ s.origin) where
  columns_same : columns_of s.end s.origin s.size ≡ cells_of s
  unfolding cells_of
  columns_same =
      columns_some s.end s.origin s.size (omega (arith, l.some)) (λ e. omega (arith, l.size))
      ∙ ap (λ (o : ℕ). ceil_div (s.end - o) s.size) (sym same)

  module _ (cell : ℕ) (inside : cell < cells_of s) where
    axis_same : s.tile_origin + (cell + 1) * s.size < 2 ^ 32 → axis_of s.end s.origin s.size cell ≡ Some (record { from = from_of s cell; to = to_of s cell })
    unfolding from_of to_of spanned
    axis_same fits =
        axis_inside s.end s.origin s.size cell (omega (arith, next_cell cell s.size)) (omega (arith, cell_starts s l cell inside))
        ∙ ap₂ spanned (omega arith) (omega (arith, next_cell cell s.size))

    axis_past : 2 ^ 32 ≤ s.tile_origin + (cell + 1) * s.size → axis_of s.end s.origin s.size cell ≡ None
    axis_past h = axis_passes s.end s.origin s.size cell (omega (arith, next_cell cell s.size))

-- ---- the tile

-- tile origin and image origin are one
pub record OneOrigin (h : List ℕ) : Type 0 where
  pub x : xtosiz h marker ≡ xosiz h marker
  pub y : ytosiz h marker ≡ yosiz h marker

-- the last sum on the way to where a tile ends, across and down
abbrev pub last_x : List ℕ → ℕ → ℕ
last_x h tile = xtosiz h marker + (tile % cells_of (across h) + 1) * xtsiz h marker

abbrev pub last_y : List ℕ → ℕ → ℕ
last_y h tile = ytosiz h marker + (tile / cells_of (across h) + 1) * ytsiz h marker

module _ (h : List ℕ) (tile : ℕ) (a : Area) (one : OneOrigin h) (told : placed_by AnnexB h tile ≡ Ok a) where
  grid : Found (across h) (down h) tile a
  grid = annex_told h tile a told

  some : cells_of (across h) ≡ 0 → ⊥
  some e = omega (arith, columns_positive _ _ _ grid.inside)

  in_columns : tile_area h tile ≡ in_grid h (cells_of (across h)) tile
  unfolding tile_area
  in_columns = ap (λ (n : ℕ). in_grid h n tile) (columns_same (across h) grid.columns one.x)

  module _ (fits : last_x h tile < 2 ^ 32) where
    across_same : axis_of (across h).end (across h).origin (across h).size (tile % cells_of (across h)) ≡ Some (record { from = from_of (across h) (tile % cells_of (across h)); to = to_of (across h) (tile % cells_of (across h)) })
    across_same = axis_same (across h) grid.columns one.x _ (column_inside _ _ _ grid.inside) fits

    -- Where both sums fit, it lies there by the original's rule too.
    pub original_follows : last_y h tile < 2 ^ 32 → placed_by Original h tile ≡ Ok a
    unfolding placed_by by_original cell_area
    original_follows low =
        ap by_original
        (in_columns
        ∙ grid_both h (cells_of (across h)) tile some _ _ across_same (axis_same (down h) grid.rows one.y _ (row_inside _ _ _ grid.inside) low)
        ∙ ap Some (sym grid.area))

    past_down : 2 ^ 32 ≤ last_y h tile → tile_area h tile ≡ None
    past_down high =
        in_columns
        ∙ grid_down h (cells_of (across h)) tile some _ across_same (axis_past (down h) grid.rows one.y _ (row_inside _ _ _ grid.inside) high)

  past_across : 2 ^ 32 ≤ last_x h tile → tile_area h tile ≡ None
  past_across high =
      in_columns ∙ grid_across h (cells_of (across h)) tile some (axis_past (across h) grid.columns one.x _ (column_inside _ _ _ grid.inside) high)

  -- Where one passes 32 bits, the original's rule refuses it.
  pub original_passes : (2 ^ 32 ≤ last_x h tile) ⊎ (2 ^ 32 ≤ last_y h tile) → placed_by Original h tile ≡ Err (refusal TileOutside marker)
  unfolding placed_by by_original
  original_passes high =
      ap by_original
      (⊎_elim past_across
      (λ y. by_bool (ltb (last_x h tile) (2 ^ 32)) (λ x. past_down (ltb-true _ _ x) y) (λ x. past_across (ltb-false _ _ x)))
      high)

  -- And only then.
  pub original_refused : (r : Refusal) → placed_by Original h tile ≡ Err r → (2 ^ 32 ≤ last_x h tile) ⊎ (2 ^ 32 ≤ last_y h tile)
  original_refused r e =
      by_bool (ltb (last_x h tile) (2 ^ 32))
      (λ x. by_bool (ltb (last_y h tile) (2 ^ 32))
      (λ y. absurd (refused_tile (sym e ∙ original_follows (ltb-true _ _ x) (ltb-true _ _ y))))
      (λ y. inr (ltb-false _ _ y)))
      (λ x. inl (ltb-false _ _ x))

pub tile_same : {a b : Area} → ◌≡◌ {A = Result Area Refusal} (Ok a) (Ok b) → a ≡ b
tile_same e = cc

-- The two rules agree where both tell a tile.
pub rules_agree : (h : List ℕ) (tile : ℕ) (a b : Area) → OneOrigin h → placed_by AnnexB h tile ≡ Ok a → placed_by Original h tile ≡ Ok b → a ≡ b
rules_agree h tile a b one e f =
    by_bool (ltb (last_x h tile) (2 ^ 32))
    (λ x. by_bool (ltb (last_y h tile) (2 ^ 32))
    (λ y. tile_same (sym (original_follows h tile a one e (ltb-true _ _ x) (ltb-true _ _ y)) ∙ f))
    (λ y. refuses (inr (ltb-false _ _ y))))
    (λ x. refuses (inl (ltb-false _ _ x)))
  where
    refuses : (2 ^ 32 ≤ last_x h tile) ⊎ (2 ^ 32 ≤ last_y h tile) → a ≡ b
    refuses past = absurd (refused_tile (sym (original_passes h tile a one e past) ∙ f))
