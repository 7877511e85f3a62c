-- Where a tile lies by a rule: what each rule's answer becomes, and that a tile that is told lies within the image.
use Prim.Native.Nat.{ℕ, ◌<◌}
use native.Mathlib.Omega.{arith}
use mathlib.Core.Path.{◌≡◌, refl, sym, ap, ◌∙◌}
use mathlib.Core.Logic.{◌⊎◌, inl, inr}
use mathlib.Core.List.{List}
use Rattle.std.specs.Prelude.{Option, Some, None, Result, Ok, Err, IsErrAnd, ok_or}
use Rattle.types.specs.Area.{Inside}
use Rattle.types.specs.Refusals.{refusal}
use Rattle.types.specs.declared.Area.{Area}
use Rattle.types.specs.declared.Refusal.{Refusal}
use Rattle.types.specs.declared.Reason.TheVariants.{TileOutside}
use Rattle.tile.specs.Siz.{marker}
use Rattle.tile.specs.AnnexB.{across, down, cell_area, grid_tile}
use Rattle.tile.specs.Original.{tile_area}
use Rattle.tile.specs.Rules.{image_area, by_annex_b, by_original, placed_by}
use Rattle.tile.specs.declared.annex_b.NoTile.{NoTile}
use Rattle.tile.specs.declared.rules.Rule.{Rule}
use Rattle.tile.specs.declared.rules.Rule.TheVariants.{AnnexB, Original, InPlace}
use Rattle.tile.proofs.AnnexBLaws.{Found, found, span_some, span_from, span_to, column_inside, row_inside}
use Rattle.tile.proofs.OriginalLaws as original

-- a refusal that is passed on by a `?` as it is
pub passed_on : {T : Type 0} (r : Result T Refusal) (e : Refusal) → IsErrAnd r (λ x. x ≡ e) → r ≡ Err e
passed_on (Ok x) e h = absurd h
passed_on (Err x) e h = ap Err h

-- ---- a tile that is told

pub refused_tile : {r : Refusal} {a : Area} → ◌≡◌ {A = Result Area Refusal} (Err r) (Ok a) → ⊥
refused_tile e = cc

grid_told : (g : Result Area NoTile) (a : Area) → by_annex_b g ≡ Ok a → g ≡ Ok a
unfolding by_annex_b
grid_told (Ok b) a e = let p : b ≡ a = cc in ap Ok p
grid_told (Err why) a e = cc

original_told : (t : Option Area) (a : Area) → by_original t ≡ Ok a → t ≡ Some a
unfolding by_original
original_told (Some b) a e = let p : b ≡ a = cc in ap Some p
original_told None a e = cc

module _ (h : List ℕ) (tile : ℕ) (a : Area) where
  -- by Annex B it is a cell of the grid
  pub annex_told : placed_by AnnexB h tile ≡ Ok a → Found (across h) (down h) tile a
  unfolding placed_by grid_tile
  annex_told e = found (across h) (down h) tile a (grid_told (grid_tile h tile) a e)

  pub original_is : placed_by Original h tile ≡ Ok a → tile_area h tile ≡ Some a
  unfolding placed_by
  original_is e = original_told (tile_area h tile) a e

  -- and has a point along each axis
  pub tile_some : placed_by AnnexB h tile ≡ Ok a → (a.x0 < a.x1) × (a.y0 < a.y1)
  unfolding cell_area
  tile_some e =
      let f : Found (across h) (down h) tile a = annex_told e in
      rw f.area (span_some (across h) f.columns _ (column_inside _ _ _ f.inside), span_some (down h) f.rows _ (row_inside _ _ _ f.inside))

  annex_within : placed_by AnnexB h tile ≡ Ok a → Inside a (image_area h)
  unfolding image_area cell_area
  annex_within e =
      let f : Found (across h) (down h) tile a = annex_told e in
      let some = tile_some e in
      record {
        left = rw f.area (span_from (across h) _);
        wide = omega (arith, some.0);
        right = rw f.area (span_to (across h) _);
        top = rw f.area (span_from (down h) _);
        high = omega (arith, some.1);
        bottom = rw f.area (span_to (down h) _);
      }

-- every rule but the original's tells what Annex B does
pub told_annex : (rule : Rule) (h : List ℕ) (tile : ℕ) → (rule ≡ AnnexB) ⊎ (rule ≡ InPlace) → placed_by rule h tile ≡ by_annex_b (grid_tile h tile)
unfolding placed_by
told_annex rule h tile (inl e) = ap (λ (r : Rule). placed_by r h tile) e
told_annex rule h tile (inr e) = ap (λ (r : Rule). placed_by r h tile) e

step_fails : (t : Option Area) → by_original t ≡ ok_or t (refusal TileOutside marker)
unfolding by_original
step_fails (Some a) = refl
step_fails None = refl

-- and that one's tile is there, or a step fails
pub told_original : (rule : Rule) (h : List ℕ) (tile : ℕ) → rule ≡ Original → placed_by rule h tile ≡ ok_or (tile_area h tile) (refusal TileOutside marker)
unfolding placed_by
told_original rule h tile e = ap (λ (r : Rule). placed_by r h tile) e ∙ step_fails (tile_area h tile)

-- A tile that is kept in its place is told as by Annex B.
pub kept_annex : (h : List ℕ) (tile : ℕ) → placed_by InPlace h tile ≡ placed_by AnnexB h tile
unfolding placed_by
kept_annex h tile = refl

-- A tile lies in the image, and ends no sooner than it starts.
pub tile_within : (rule : Rule) (h : List ℕ) (tile : ℕ) (a : Area) → placed_by rule h tile ≡ Ok a → Inside a (image_area h)
tile_within AnnexB h tile a e = annex_within h tile a e
tile_within Original h tile a e = original.tile_within h tile a (original_is h tile a e)
tile_within InPlace h tile a e = annex_within h tile a (sym (kept_annex h tile) ∙ e)
