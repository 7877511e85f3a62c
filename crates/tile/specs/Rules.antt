-- Where the image lies on the reference grid, and where a tile does by a rule (docs/RULES.md, "Tiles").
use Rattle.std.specs.Prelude.{ℕ, List, Option, Some, None, Result, Ok, Err, cond, eqb}
use Rattle.types.specs.Refusals.{refusal}
use Rattle.types.specs.Siz.{xsiz, ysiz, xosiz, yosiz}
use Rattle.types.specs.declared.Area.{Area}
use Rattle.tile.specs.Siz.{marker}
use Rattle.tile.specs.AnnexB.{grid_tile}
use Rattle.tile.specs.Original.{tile_area}
use Rattle.tile.specs.declared.annex_b.NoTile.{NoTile}
use Rattle.tile.specs.declared.annex_b.NoTile.TheVariants.{NoGrid, PastGrid}
use Rattle.tile.specs.declared.rules.Rule.{Rule}
use Rattle.tile.specs.declared.rules.Rule.TheVariants.{AnnexB, Original, InPlace}
use Rattle.types.specs.declared.Refusal.{Refusal}
use Rattle.types.specs.declared.Reason.TheVariants as reason

-- the image on the reference grid
unfoldable pub image_area : List ℕ → Area
image_area h = record { x0 = xosiz h marker; y0 = yosiz h marker; x1 = xsiz h marker; y1 = ysiz h marker }

-- no grid is 30, no such tile in it 31
abbrev pub refusal_for : NoTile → Refusal
refusal_for NoGrid = refusal reason.NoGrid marker
refusal_for PastGrid = refusal reason.NoSuchTile marker

unfoldable pub by_annex_b : Result Area NoTile → Result Area Refusal
by_annex_b (Ok a) = Ok a
by_annex_b (Err why) = Err (refusal_for why)

-- a step that fails is 10
unfoldable pub by_original : Option Area → Result Area Refusal
by_original (Some a) = Ok a
by_original None = Err (refusal reason.TileOutside marker)

-- where a tile lies, or why none is told
unfoldable pub placed_by : Rule → List ℕ → ℕ → Result Area Refusal
unfolding by_annex_b by_original
placed_by AnnexB h tile = by_annex_b (grid_tile h tile)
placed_by Original h tile = by_original (tile_area h tile)
placed_by InPlace h tile = by_annex_b (grid_tile h tile)

-- the rule as C gives it: 0 is Annex B's, 1 the original's, 2 keeps a tile in its place, and any other number means the default, which is 0
unfoldable pub rule_of : ℕ → Rule
rule_of n = cond (eqb n 1) Original (cond (eqb n 2) InPlace AnnexB)
