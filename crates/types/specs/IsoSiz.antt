-- The SIZ marker segment as ISO/IEC 15444-1 has it (A.5.1, tables A.9 to A.11): its fields as rows of a width and a value, and their ranges.
use Rattle.std.specs.Prelude.{ℕ, ◌+◌, ◌-◌, ◌*◌, ◌^◌, ◌≤◌, ◌<◌, Bool, cond, List, [], ◌∷◌, length}
use Rattle.numbers.specs.Rows.{Row, row}
use Rattle.types.specs.Markers.{SOC, SIZ}

-- a component: Ssiz is its bit depth less one, with 128 added for signed samples
pub record Component : Type 0 where
  pub depth : ℕ
  pub signed : Bool
  pub XRsiz : ℕ
  pub YRsiz : ℕ

abbrev pub ssiz_of : Component → ℕ
ssiz_of c = cond c.signed 128 0 + (c.depth - 1)

pub record Size : Type 0 where
  pub Rsiz : ℕ
  pub Xsiz : ℕ
  pub Ysiz : ℕ
  pub XOsiz : ℕ
  pub YOsiz : ℕ
  pub XTsiz : ℕ
  pub YTsiz : ℕ
  pub XTOsiz : ℕ
  pub YTOsiz : ℕ
  pub first : Component
  pub others : List Component

abbrev pub Csiz : Size → ℕ
Csiz z = 1 + length z.others

unfoldable pub component_rows : List Component → List Row
component_rows [] = []
component_rows (c ∷ more) = row 1 (ssiz_of c) ∷ row 1 c.XRsiz ∷ row 1 c.YRsiz ∷ component_rows more

-- SOC, and SIZ directly after it
unfoldable pub siz_rows : Size → List Row
unfolding component_rows
siz_rows z =
    row 2 SOC
    ∷ row 2 SIZ
    ∷ row 2 (38 + 3 * Csiz z)
    ∷ row 2 z.Rsiz
    ∷ row 4 z.Xsiz
    ∷ row 4 z.Ysiz
    ∷ row 4 z.XOsiz
    ∷ row 4 z.YOsiz
    ∷ row 4 z.XTsiz
    ∷ row 4 z.YTsiz
    ∷ row 4 z.XTOsiz
    ∷ row 4 z.YTOsiz
    ∷ row 2 (Csiz z)
    ∷ component_rows (z.first ∷ z.others)

-- the ranges of the fields that are asked for
pub record Ranges (z : Size) : Type 0 where
  pub Xsiz : z.Xsiz < 2 ^ 32
  pub Ysiz : z.Ysiz < 2 ^ 32
  pub XOsiz : z.XOsiz < z.Xsiz
  pub YOsiz : z.YOsiz < z.Ysiz
  pub Csiz : Csiz z ≤ 16384
  pub depth : (1 ≤ z.first.depth) × (z.first.depth ≤ 38)

-- the tiles' fields, with B-3 and B-4: the first tile starts at or before the image and reaches into it
pub record TileRanges (z : Size) : Type 0 where
  pub XTsiz : (1 ≤ z.XTsiz) × (z.XTsiz < 2 ^ 32)
  pub YTsiz : (1 ≤ z.YTsiz) × (z.YTsiz < 2 ^ 32)
  pub XTOsiz : (z.XTOsiz ≤ z.XOsiz) × (z.XOsiz < z.XTOsiz + z.XTsiz)
  pub YTOsiz : (z.YTOsiz ≤ z.YOsiz) × (z.YOsiz < z.YTOsiz + z.YTsiz)
