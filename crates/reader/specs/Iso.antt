-- Boxes and JP2 files as ISO/IEC 15444-1 has them (I.4, I.5): its tables written as rows of a width and a value, from which the bytes follow; and
-- the components of a SIZ (types, IsoSiz), their ranges and areas.
-- That our reading gives these values back, and those of SIZ, is proved in proofs/Iso.antt, and of components in proofs/IsoComponents.antt.
use Rattle.std.specs.Prelude.{ℕ, ◌+◌, ◌^◌, ◌≤◌, ◌<◌, List, [], ◌∷◌, ◌++◌, ◌≡◌, length}
use Rattle.numbers.specs.Bytes.{bytes_of}
use Rattle.numbers.specs.Rows.{Row, row, bytes_of_rows}
use Rattle.numbers.specs.Ceiling.{ceil_div}
use Rattle.types.specs.IsoSiz.{Component, Size, Ranges}
use Rattle.types.specs.declared.Area.{Area}
use Rattle.reader.specs.Search.{JP2C}
use Rattle.reader.specs.declared.components.ComponentInfo.{ComponentInfo}

-- ---- boxes (annex I.4)

-- How LBox gives the length: itself, 8 or more; 1, with the length in XLBox, 16 or more; 0, to the end of the file. 2 to 7 are reserved.
pub data Form : Type 0 where
  plain : Form
  extended : Form
  last : Form

pub record IsoBox : Type 0 where
  pub form : Form
  pub TBox : ℕ
  pub DBox : List ℕ

-- LBox, TBox and XLBox of a box whose content has a size
unfoldable pub box_rows : Form → ℕ → ℕ → List Row
box_rows plain TBox size = row 4 (8 + size) ∷ row 4 TBox ∷ []
box_rows extended TBox size = row 4 1 ∷ row 4 TBox ∷ row 8 (16 + size) ∷ []
box_rows last TBox size = row 4 0 ∷ row 4 TBox ∷ []

unfoldable pub header_size : Form → ℕ
header_size plain = 8
header_size extended = 16
header_size last = 8

unfoldable pub box_bytes : IsoBox → List ℕ
unfolding bytes_of_rows box_rows
box_bytes b = bytes_of_rows (box_rows b.form b.TBox (length b.DBox)) ++ b.DBox

-- the length is held by its field, and nothing follows a box that reaches to the end
unfoldable pub Stands : Form → ℕ → List ℕ → Type 0
Stands plain size rest = 8 + size < 2 ^ 32
Stands extended size rest = 16 + size < 2 ^ 64
Stands last size rest = length rest ≤ 0

unfoldable pub boxes_bytes : List IsoBox → List ℕ
boxes_bytes [] = []
boxes_bytes (b ∷ boxes) = box_bytes b ++ boxes_bytes boxes

-- the signature box (annex I.5.1), the first of a JP2 file
unfoldable pub signature : IsoBox
signature = record { form = plain; TBox = 0x6a50_2020; DBox = bytes_of 4 0x0d0a_870a }

-- a JP2 file: the signature box, boxes of other types than jp2c, the jp2c box, and anything behind it
unfoldable pub jp2_file : List IsoBox → IsoBox → List ℕ → List ℕ
jp2_file boxes c rest = boxes_bytes (signature ∷ boxes) ++ (box_bytes c ++ rest)

unfoldable pub Others : List IsoBox → List ℕ → Type 0
Others [] rest = Unit {0}
Others (b ∷ more) rest =
    (b.TBox < 2 ^ 32) × ((b.TBox ≡ JP2C → ⊥) × (Stands b.form (length b.DBox) (boxes_bytes more ++ rest) × Others more rest))

-- ---- components (A.5.1, B.2, B.3)

-- the ranges of a component's fields
pub record ComponentRanges (c : Component) : Type 0 where
  pub depth : (1 ≤ c.depth) × (c.depth ≤ 38)
  pub XRsiz : (1 ≤ c.XRsiz) × (c.XRsiz ≤ 255)
  pub YRsiz : (1 ≤ c.YRsiz) × (c.YRsiz ≤ 255)

unfoldable pub EachRanges : List Component → Type 0
EachRanges [] = Unit {0}
EachRanges (c ∷ more) = ComponentRanges c × EachRanges more

-- those of the image, and of every component
pub record AllRanges (z : Size) : Type 0 where
  pub image : Ranges z
  pub each : EachRanges (z.first ∷ z.others)

-- the image on the reference grid
unfoldable pub image_of : Size → Area
image_of z = record { x0 = z.XOsiz; y0 = z.YOsiz; x1 = z.Xsiz; y1 = z.Ysiz }

-- a component's part of the image (B.2) or of a tile (B.3): each end divided by its step and rounded up
unfoldable pub part_of : Component → Area → Area
part_of c a =
    record {
      x0 = ceil_div a.x0 c.XRsiz;
      y0 = ceil_div a.y0 c.YRsiz;
      x1 = ceil_div a.x1 c.XRsiz;
      y1 = ceil_div a.y1 c.YRsiz;
    }

-- all that is asked of a component in an area
unfoldable pub info_of : Component → Area → ComponentInfo
unfolding part_of
info_of c a = record { bits = c.depth; is_signed = c.signed; xrsiz = c.XRsiz; yrsiz = c.YRsiz; area = part_of c a }
