-- How edges say what is listed; and trees of the standard's boxes. A JP2 file that holds sample A: signature, file type, a header with image header, colour and resolution, and the
-- codestream, of length 0. And superboxes, one in the other.
use Prim.Native.Nat.{ℕ, zero, suc, ◌*◌, ◌≤◌}
use native.Mathlib.Omega.{arith}
use mathlib.Core.Path.{◌≡◌, refl}
use mathlib.Core.List.{List, [], ◌∷◌, ◌++◌}
use lib.ListN.{length, length-append}
use Rattle.numbers.specs.Rows.{row, bytes_of_rows}
use Rattle.types.specs.Refusals.{refusal}
use Rattle.types.specs.declared.Reason.{Reason}
use Rattle.reader.specs.Search.{JP2C}
use Rattle.reader.specs.Iso.{Form, plain, last, IsoBox, box_rows, header_size, box_bytes, Stands, signature}
use Rattle.reader.specs.Boxes.{Listing, refused}
use Rattle.reader.specs.IsoBoxes.{Tree, none, leaf, node, holding, tree_bytes, tree_entries, Ends, StandsIn, IsoTree, IsoFile, TopEnds, Listable}
use Rattle.reader.specs.declared.box_row.BoxEntry.{BoxEntry}
use Rattle.reader.proofs.Iso.{length_box}
use Rattle.laws.specs.Sample.{A, JP2H, RES, IHDR, RESC}
use Rattle.laws.proofs.SampleComputing.{box_trees}

-- a box: its depth and type, where it starts, where its content does, and how long that is
abbrev pub listed_as : ℕ → ℕ → ℕ → ℕ → ℕ → BoxEntry
listed_as depth kind start content long = record { depth = depth; kind = kind; start = record { 0 = start }; content = record { 0 = content }; length = long }

abbrev pub unlisted : Reason → ℕ → Listing
unlisted reason place = refused (refusal reason place)

unfoldable pub tree_bytes_lem : Unit {0}
unfolding box_trees bytes_of_rows box_rows header_size box_bytes tree_bytes tree_entries signature
tree_bytes_lem = tt

-- ---- superboxes, one in the other

unfoldable pub nested : ℕ → Tree
nested zero = none
nested (suc n) = node plain JP2H (nested n) none

nested_long : (n : ℕ) → length (tree_bytes (nested n)) ≡ 8 * n
unfolding nested tree_bytes header_size
nested_long zero = refl
nested_long (suc n) =
    let b : IsoBox = holding plain JP2H (tree_bytes (nested n)) in
    omega (arith, length-append (box_bytes b) [], length_box b, nested_long n)

pub nested_iso : (n : ℕ) → n ≤ 9 → (within : Form) → IsoTree within (nested n)
unfolding nested IsoTree StandsIn Stands Ends box_trees
nested_iso zero h within = tt
nested_iso (suc n) h within = (refl, (omega arith, omega (arith, nested_long n), tt), nested_iso n (omega arith) plain, tt)

-- ---- the file

-- "jp2 " for the brand and the one compatible with it
abbrev ftyp : IsoBox
ftyp = holding plain 0x6674_7970 (bytes_of_rows (row 4 0x6a70_3220 ∷ row 4 0 ∷ row 4 0x6a70_3220 ∷ []))

-- 6 high, 10 wide, one component of 8 bits, compressed as the standard has it
abbrev ihdr : IsoBox
ihdr = holding plain IHDR (bytes_of_rows (row 4 6 ∷ row 4 10 ∷ row 2 1 ∷ row 1 7 ∷ row 1 7 ∷ row 1 0 ∷ row 1 0 ∷ []))

-- greyscale
abbrev colr : IsoBox
colr = holding plain 0x636f_6c72 (bytes_of_rows (row 1 1 ∷ row 1 0 ∷ row 1 0 ∷ row 4 17 ∷ []))

-- 300 / 254 * 10^4 a metre, down and across
abbrev resc : IsoBox
resc = holding plain RESC (bytes_of_rows (row 2 300 ∷ row 2 254 ∷ row 2 300 ∷ row 2 254 ∷ row 1 4 ∷ row 1 4 ∷ []))

abbrev pub picture : Tree
picture =
    leaf signature
    (leaf ftyp
    (node plain JP2H (leaf ihdr (leaf colr (node plain RES (leaf resc none) none)))
    (leaf (holding last JP2C A) none)))

pub picture_long : length (tree_bytes picture) ≡ 200
unfolding tree_bytes_lem
picture_long = refl

pub picture_iso : IsoFile picture
unfolding tree_bytes_lem IsoTree StandsIn Stands Ends
picture_iso = (
  refl,
  (omega arith, omega arith, tt),
  (
    refl,
    (omega arith, omega arith, tt),
    (
      refl,
      (omega arith, omega arith, tt),
      (
        refl,
        (omega arith, omega arith, tt),
        (
          refl,
          (omega arith, omega arith, tt),
          (refl, (omega arith, omega arith, tt), (refl, (omega arith, omega arith, tt), tt), tt),
        ),
      ),
      (refl, (omega arith, omega arith, refl), tt),
    ),
  ),
)

pub picture_listable : Listable 1 picture
unfolding tree_bytes_lem Listable TopEnds
picture_listable = (
  omega arith,
  tt,
  (
    omega arith,
    tt,
    (
      omega arith,
      tt,
      (omega arith, tt, (omega arith, tt, (omega arith, tt, (omega arith, tt, tt), tt))),
      (omega arith, refl, tt),
    ),
  ),
)

-- its boxes in file order: before the codestream, and with it
abbrev pub picture_front : List BoxEntry
picture_front =
    listed_as 1 0x6a50_2020 0 8 4 ∷ listed_as 1 0x6674_7970 12 20 12 ∷ listed_as 1 JP2H 32 40 63 ∷ listed_as 2 IHDR 40 48 14 ∷ listed_as 2 0x636f_6c72 62 70 7
    ∷ listed_as 2 RES 77 85 18 ∷ listed_as 3 RESC 85 93 10 ∷ []

abbrev pub picture_boxes : List BoxEntry
picture_boxes = picture_front ++ (listed_as 1 JP2C 103 111 89 ∷ [])

pub picture_entries : tree_entries 1 0 picture ≡ picture_boxes
unfolding tree_bytes_lem
picture_entries = refl
