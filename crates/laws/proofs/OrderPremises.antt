-- The premises of the laws on the order of a tile's tile-parts: each is needed, by a smallest input without it, and is met by something real.
use Prim.Native.Nat.{ℕ}
use native.Mathlib.Omega.{arith}
use mathlib.Core.Path.{◌≡◌, refl, ◌∙◌}
use mathlib.Core.Bool.{true, false}
use mathlib.Core.List.{List, [], ◌∷◌, ◌++◌, map}
use lib.ListN.{length}
use Rattle.types.specs.Row.{rows_of, records_in}
use Rattle.types.specs.declared.PartNumbers.TheVariants.{Known}
use Rattle.types.specs.declared.TilePartEntry.{TilePartEntry}
use Rattle.types.proofs.RowReading.{none, more}
use Rattle.parts.specs.Scan.{entries_from}
use Rattle.parts.specs.Split.{parts_of}
use Rattle.parts.specs.Tiles.{of_tile, bytes_at, AllLong}
use Rattle.parts.specs.Order.{numbers_of, in_order}
use Rattle.parts.proofs.OrderAnswers.{extended}
use Rattle.parts.specs.Tiles as parts
use Rattle.tile.specs.Assembly.{parts_in, assembled}
use Rattle.tile.specs.declared.rules.Rule.{Rule}
use Rattle.tile.specs.declared.rules.Rule.TheVariants.{AnnexB, Original, InPlace}
use Rattle.laws.specs.Sample.{two, four, sot, head, A}
use Rattle.laws.proofs.SampleComputing.{orders, split_runs, tiles}
use Rattle.laws.proofs.SampleEdges.{numbered, A-in-order}
use Rattle.laws.proofs.Demand3Order.{numbers_in, joined_numbers, assembled_in_order}
use Rattle.laws.proofs.Rows.{order_agrees}

abbrev entry : ℕ → ℕ → ℕ → TilePartEntry
entry index offset long = record { tile_index = index; numbers = Known 0 1; offset = record { 0 = offset }; length = long }

-- ---- `extended`: the parts that are added are of other tiles

pub alone : in_order 7 (entry 7 0 12 ∷ []) ≡ true
unfolding orders
alone = refl

pub added_to_itself : in_order 7 ((entry 7 0 12 ∷ []) ++ (entry 7 12 12 ∷ [])) ≡ false
unfolding orders
added_to_itself = refl

-- sample A: tile 5 behind tile 0
pub A-extended : in_order 0 (entry 0 57 14 ∷ entry 5 71 16 ∷ []) ≡ in_order 0 (entry 0 57 14 ∷ [])
A-extended = extended 0 (entry 0 57 14 ∷ []) (more (λ z. omega (arith, z)) none)

-- ---- `many_not`: TPsot is a byte. As it is in every scan and in every table of rows: `scan_many_not`, `rows_many_not`.

pub past_a_byte : in_order 7 (numbered 257 0) ≡ true
unfolding orders numbered
past_a_byte = refl

-- ---- `order_agrees`: a record's fields fit their widths in a row

pub index_too_wide : in_order 65_536 (entry 65_536 0 12 ∷ []) ≡ true
unfolding orders
index_too_wide = refl

pub index_cut : in_order 65_536 (records_in (rows_of (entry 65_536 0 12 ∷ []))) ≡ false
unfolding orders
index_cut = refl

pub A-rows : in_order 5 (records_in (rows_of (entry 0 57 14 ∷ entry 5 71 16 ∷ []))) ≡ in_order 5 (entry 0 57 14 ∷ entry 5 71 16 ∷ [])
A-rows =
    order_agrees 5
    (more (record { index = omega arith; offset = omega arith; length = omega arith })
    (more (record { index = omega arith; offset = omega arith; length = omega arith }) none))

-- ---- `joined_numbers`, `assembled_in_order`: the tile's entries are 12 bytes or longer

-- 10 bytes, the last two of the SOT segment being EOC: no part is split off
abbrev ten : List ℕ
ten = two 0xff90 ++ two 10 ++ two 0 ++ four 10 ++ two 0xffd9

pub ten_numbers : numbers_of 0 (entries_from ten 0) ≡ Known 0xff 0xd9 ∷ []
unfolding orders
ten_numbers = refl

pub ten_joined : map numbers_in (parts_of (parts.joined ten (of_tile 0 (entries_from ten 0)))) ≡ []
unfolding orders split_runs parts.joined bytes_at
ten_joined = refl

-- 4 bytes, Isot being EOC: in order; and behind an empty header the scan of what is assembled finds no tile-part
pub four_in_order : in_order 0xffd9 (entries_from (sot 0xffd9 4) 0) ≡ true
unfolding orders
four_in_order = refl

pub four_assembled : (rule : Rule) → in_order 0 (entries_from (assembled rule [] (parts_in (sot 0xffd9 4) (of_tile 0xffd9 (entries_from (sot 0xffd9 4) 0)))) 0) ≡ false
unfolding orders tiles
four_assembled AnnexB = refl
four_assembled Original = refl
four_assembled InPlace = refl

-- sample A, tile 5
A-long : AllLong (of_tile 5 (entries_from A 57))
unfolding orders AllLong
A-long = (omega arith, tt)

pub A-joined : map numbers_in (parts_of (parts.joined A (of_tile 5 (entries_from A 57)))) ≡ numbers_of 5 (entries_from A 57)
A-joined = joined_numbers A 57 5 A-long

pub A-assembled : (rule : Rule) → in_order 0 (entries_from (assembled rule head (parts_in A (of_tile 5 (entries_from A 57)))) (length head)) ≡ true
A-assembled rule = assembled_in_order rule head A 57 5 A-long ∙ A-in-order
