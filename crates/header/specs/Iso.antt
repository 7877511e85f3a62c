-- Markers and marker segments in a main header, as ISO/IEC 15444-1 has them (A.1.2, A.1.3, tables A.1 and A.2): which stand there, what is read at a
-- position, and the bytes of a segment. `proofs/Iso.antt` says where our step agrees.
use Rattle.std.specs.Prelude.{ℕ, ◌+◌, ◌^◌, ◌<◌, ◌≡◌, Bool, true, false, cond, ◌||◌, ◌&&◌, List, [], ◌∷◌, ◌++◌, length, leb, eqb}
use Rattle.numbers.specs.Bytes.{be}
use Rattle.numbers.specs.Rows.{row, bytes_of_rows}
use Rattle.types.specs.Markers.{SOC, SOT, SOD, EOC, PLT, PPT, SOP, EPH}

-- ---- which markers stand there

-- a marker: FF and a byte from 01 to FE
unfoldable pub is_marker : ℕ → Bool
is_marker m = leb 0xff01 m && leb m 0xfffe

-- reserved for markers without parameters: FF30 to FF3F
unfoldable pub is_bare : ℕ → Bool
is_bare m = leb 0xff30 m && leb m 0xff3f

-- specified, and not to stand in a main header: SOC, SOD and EOC delimit, PLT and PPT stand in a tile-part's header, SOP and EPH in the bit stream
unfoldable pub is_outside : ℕ → Bool
is_outside m = eqb m SOC || (eqb m SOD || (eqb m EOC || (eqb m PLT || (eqb m PPT || (eqb m SOP || eqb m EPH)))))

-- ---- what is read at a position

-- the SOT that ends the header, a marker without parameters, a marker segment, or nothing that the standard lets stand there whole. A number is the
-- position after it. Of a segment that is not specified the length is all that is read (A.1.3).
pub data Item : Type 0 where
  tile_part : Item
  marker : ℕ → Item
  segment : ℕ → Item
  none : Item

-- the length parameter counts itself and what follows it, and not the marker
unfoldable pub item_at : List ℕ → ℕ → Item
unfolding is_marker is_bare is_outside
item_at s at =
    cond (leb (at + 2) (length s))
    (cond (is_marker (be 2 s at))
    (cond (eqb (be 2 s at) SOT) tile_part
    (cond (is_bare (be 2 s at)) (marker (at + 2))
    (cond (is_outside (be 2 s at)) none
    (cond (leb (at + 4) (length s))
    (cond (leb 2 (be 2 s (at + 2)) && leb (at + (2 + be 2 s (at + 2))) (length s)) (segment (at + (2 + be 2 s (at + 2)))) none)
    none))))
    none)
    none

-- ---- a segment's bytes

-- its marker, and its parameters behind the length
pub record Segment : Type 0 where
  pub marker : ℕ
  pub parameters : List ℕ

unfoldable pub segment_bytes : Segment → List ℕ
segment_bytes g = bytes_of_rows (row 2 g.marker ∷ row 2 (2 + length g.parameters) ∷ []) ++ g.parameters

-- one that may stand in a main header
pub record InMain (g : Segment) : Type 0 where
  pub marker : is_marker g.marker ≡ true
  pub parameters : is_bare g.marker ≡ false
  pub inside : is_outside g.marker ≡ false
  pub tile_part : g.marker ≡ SOT → ⊥
  pub fits : 2 + length g.parameters < 2 ^ 16
