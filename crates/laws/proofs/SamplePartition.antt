-- The premise of the partition of the image by Annex B's tiles, that there is a grid: sample A has one, so that each of its points and samples lies in one
-- tile; and without one no tile holds a point.
use Prim.Native.Nat.{ℕ}
use native.Mathlib.Omega.{arith}
use mathlib.Core.Path.{◌≡◌, refl}
use Rattle.std.specs.Prelude.{Err}
use Rattle.types.specs.Area.{Has}
use Rattle.types.specs.Refusals.{refusal}
use Rattle.tile.specs.AnnexB.{across, down}
use Rattle.tile.specs.Rules.{image_area, placed_by}
use Rattle.tile.specs.declared.rules.Rule.TheVariants.{AnnexB}
use Rattle.tile.proofs.AnnexBLaws.{Laid}
use Rattle.tile.proofs.RulesPartition.{OneTile, tiles_partition}
use Rattle.reader.proofs.ComponentsPartition.{OneTileOf, component_partition}
use Rattle.laws.specs.Sample.{grid, A}
use Rattle.laws.proofs.SampleComputing.{components}
use Rattle.laws.proofs.SampleEdges.{component_0}
use Rattle.types.specs.declared.Reason.TheVariants.{NoGrid}

-- ---- it is met

A-across : Laid (across A)
unfolding components
A-across = record { first = omega arith; some = omega arith; size = omega arith; reach = omega arith }

A-down : Laid (down A)
unfolding components
A-down = record { first = omega arith; some = omega arith; size = omega arith; reach = omega arith }

-- the last point of A
pub A-point : OneTile A (λ a. Has a 9 5)
unfolding components
A-point = tiles_partition A A-across A-down 9 5 (record { left = omega arith; right = omega arith; top = omega arith; bottom = omega arith })

-- and the last sample of its component
pub A-sample : OneTileOf A 0 9 5
unfolding components
A-sample = component_partition A 0 _ component_0 A-across A-down 9 5 (record { left = omega arith; right = omega arith; top = omega arith; bottom = omega arith })

-- ---- it is needed

-- XTOsiz 1 past XOsiz 0: the image has the point 0, 0, and every tile is refused
pub point_there : Has (image_area (grid 2 1 0 0 1 1 1 0)) 0 0
unfolding components
point_there = record { left = omega arith; right = omega arith; top = omega arith; bottom = omega arith }

pub no_tile_there : (tile : ℕ) → placed_by AnnexB (grid 2 1 0 0 1 1 1 0) tile ≡ Err (refusal NoGrid 2)
unfolding components
no_tile_there tile = refl
