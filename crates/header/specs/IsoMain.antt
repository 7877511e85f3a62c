-- A main header as ISO/IEC 15444-1 has it (A.3, table A.2): SOC, SIZ directly after it, and other marker segments in any order. COD and QCD have to be
-- among them, which no law here asks. `proofs/IsoMain.antt` says that our walk accepts it.
use Rattle.std.specs.Prelude.{ℕ, ◌+◌, ◌^◌, ◌<◌, ◌≡◌, List, [], ◌∷◌, ◌++◌, length}
use Rattle.numbers.specs.Bytes.{bytes_of}
use Rattle.numbers.specs.Rows.{bytes_of_rows}
use Rattle.types.specs.Markers.{SOC, SIZ, TLM}
use Rattle.header.specs.Iso.{Segment, segment_bytes, InMain}
use Rattle.header.specs.IsoTlm.{TlmSegment, tlm_rows, TlmRanges}

-- a segment behind SIZ: a piece of the length table, or another
pub data Piece : Type 0 where
  tlm : TlmSegment → Piece
  other : Segment → Piece

unfoldable pub piece_bytes : Piece → List ℕ
piece_bytes (tlm t) = bytes_of_rows (tlm_rows t)
piece_bytes (other g) = segment_bytes g

unfoldable pub pieces_bytes : List Piece → List ℕ
unfolding piece_bytes
pieces_bytes [] = []
pieces_bytes (p ∷ more) = piece_bytes p ++ pieces_bytes more

-- SOC, SIZ, the others
unfoldable pub main_header : Segment → List Piece → List ℕ
unfolding pieces_bytes
main_header siz pieces = bytes_of 2 SOC ++ (segment_bytes siz ++ pieces_bytes pieces)

unfoldable pub Sound : Piece → Type 0
Sound (tlm t) = TlmRanges t
Sound (other g) = InMain g × (g.marker ≡ TLM → ⊥)

unfoldable pub AllSound : List Piece → Type 0
AllSound [] = Unit {0}
AllSound (p ∷ more) = Sound p × AllSound more

-- SIZ, and what stands behind it
pub record IsMain (g : Segment) (ps : List Piece) : Type 0 where
  pub siz : g.marker ≡ SIZ
  pub fits : 2 + length g.parameters < 2 ^ 16
  pub pieces : AllSound ps

-- the length table's segments, in file order
unfoldable pub tables : List Piece → List TlmSegment
tables [] = []
tables (tlm t ∷ more) = t ∷ tables more
tables (other g ∷ more) = tables more

-- how many entries they have together
unfoldable pub pointer_count : List TlmSegment → ℕ
pointer_count [] = 0
pointer_count (t ∷ more) = length t.pointers + pointer_count more

-- the header without them
unfoldable pub without : List Piece → List Piece
without [] = []
without (tlm t ∷ more) = without more
without (other g ∷ more) = other g ∷ without more
