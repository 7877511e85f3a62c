-- A length table and the tile-parts behind it, as ISO/IEC 15444-1 has them: what A.7.1 asks of the segments together, and what their table is to list.
-- `proofs/Iso*.antt` say that our check compares these.
use Rattle.std.specs.Prelude.{ℕ, ◌≡◌, List, [], ◌∷◌, ◌++◌}
use Rattle.numbers.specs.Bytes.{bytes_of}
use Rattle.types.specs.Markers.{EOC}
use Rattle.header.specs.Tlm.{Entry}
use Rattle.header.specs.Iso.{Segment}
use Rattle.header.specs.IsoTlm.{TlmSegment}
use Rattle.header.specs.IsoMain.{Piece, main_header}
use Rattle.parts.specs.Iso.{TilePart, part_bytes, length_of, parts_bytes}

-- none of these has this Ztlm
unfoldable pub Apart : ℕ → List TlmSegment → Type 0
Apart z [] = Unit {0}
Apart z (t ∷ more) = (z ≡ t.Ztlm → ⊥) × Apart z more

-- Ztlm is the index of a segment among those of the header: no two are the same
unfoldable pub Distinct : List TlmSegment → Type 0
unfolding Apart
Distinct [] = Unit {0}
Distinct (t ∷ more) = Apart t.Ztlm more × Distinct more

-- Ttlm and Ptlm of each tile-part, in the order of the codestream: its tile's index, and its length
unfoldable pub part_entries : List TilePart → List Entry
part_entries [] = []
part_entries (t ∷ more) = record { index = t.Isot; bytes = length_of t } ∷ part_entries more

-- the main header, tile-parts each with its own Psot, EOC, and what stands behind it
abbrev pub codestream : Segment → List Piece → List TilePart → List ℕ → List ℕ
codestream siz pieces parts behind = main_header siz pieces ++ (parts_bytes parts ++ (bytes_of 2 EOC ++ behind))

-- the same where the last tile-part's Psot is 0: it reaches to EOC, which ends the codestream
abbrev pub open_ended : Segment → List Piece → List TilePart → TilePart → List ℕ
open_ended siz pieces parts last = main_header siz pieces ++ (parts_bytes parts ++ (part_bytes 0 last ++ bytes_of 2 EOC))
