-- The tiles that Annex B tells partition the image, and the samples of each component: what its cells do, said of a header.
use Prim.Native.Nat.{ℕ, ◌*◌, ◌/◌, ◌%◌, ◌<◌}
use mathlib.Core.Path.{◌≡◌, ap, ◌∙◌}
use mathlib.Core.List.{List}
use lib.Dec.{lit<}
use Rattle.std.specs.Prelude.{Ok}
use Rattle.numbers.proofs.BytesLaws.{ceil_one}
use Rattle.types.specs.Area.{Has}
use Rattle.types.specs.declared.Area.{Area}
use Rattle.tile.specs.AnnexB.{across, down, cells_of, cell_area, grid_tile}
use Rattle.tile.specs.Rules.{image_area, by_annex_b, placed_by}
use Rattle.tile.specs.declared.annex_b.Side.{Side}
use Rattle.tile.specs.declared.rules.Rule.TheVariants.{AnnexB}
use Rattle.tile.proofs.AnnexBLaws.{Laid, Found, is_laid, some_grid, grid_inside}
use Rattle.tile.proofs.AnnexBCells.{Once, HasSample, InTile, grid_partition}
use Rattle.tile.proofs.RulesLaws.{annex_told}

-- a tile whose area a statement holds of, and it holds of no other tile's
pub record OneTile (h : List ℕ) (P : Area → Type 0) : Type 0 where
  pub tile : ℕ
  pub area : Area
  pub below : tile < cells_of (across h) * cells_of (down h)
  pub found : placed_by AnnexB h tile ≡ Ok area
  pub has : P area
  pub only : (u : ℕ) (b : Area) → placed_by AnnexB h u ≡ Ok b → P b → u ≡ tile

-- Statements that say the same of every area have the same tile.
pub one_tile_lem : {h : List ℕ} {P Q : Area → Type 0} → ((a : Area) → P a → Q a) → ((a : Area) → Q a → P a) → OneTile h P → OneTile h Q
one_tile_lem f g o =
    record { tile = o.tile; area = o.area; below = o.below; found = o.found; has = f _ o.has; only = λ u b e q. o.only u b e (g b q) }

-- samples one apart are points
module _ (px py : ℕ) (a : Area) where
  point_of : HasSample a 1 1 px py → Has a px py
  point_of i = record { left = rw ceil_one at i.left; right = rw ceil_one at i.right; top = rw ceil_one at i.top; bottom = rw ceil_one at i.bottom }

  sample_of : Has a px py → HasSample a 1 1 px py
  sample_of i = record { left = rw ceil_one i.left; right = rw ceil_one i.right; top = rw ceil_one i.top; bottom = rw ceil_one i.bottom }

module _ (h : List ℕ) (lx : Laid (across h)) (ly : Laid (down h)) where
  -- Each sample of a component of the image lies in one tile, and in no other.
  pub samples_partition : (xr yr : ℕ) → 0 < xr → 0 < yr → (px py : ℕ) → HasSample (image_area h) xr yr px py → OneTile h (λ a. HasSample a xr yr px py)
  unfolding image_area placed_by grid_tile
  samples_partition xr yr sx sy px py i =
      let x : Side = across h in
      let y : Side = down h in
      let o : Once (InTile x y xr yr px py) = grid_partition x y xr yr px py lx ly sx sy i.left i.right i.top i.bottom in
      let t : ℕ = o.which in
      record {
        tile = t;
        area = cell_area x y (t % cells_of x) (t / cells_of x);
        below = o.holds.below;
        found = ap by_annex_b (some_grid x y t (is_laid x lx) (is_laid y ly) ∙ grid_inside x y t o.holds.below);
        has = o.holds.has;
        only = λ u b e k. let f : Found x y u b = annex_told h u b e in o.only u (record { below = f.inside; has = rw (← f.area) k });
      }

  -- Each point of the image lies in one tile, and in no other.
  pub tiles_partition : (px py : ℕ) → Has (image_area h) px py → OneTile h (λ a. Has a px py)
  tiles_partition px py i =
      one_tile_lem (point_of px py) (sample_of px py) (samples_partition 1 1 (lit< tt) (lit< tt) px py (sample_of px py (image_area h) i))
