-- The extended capabilities of ISO/IEC 15444-1:2019, A.5.2: the CAP segment, with a bit of Pcap for each part of the standard and a word Ccap for each
-- part that is used; and a main header that has the segment where SIZ announces it. `proofs/IsoCap.antt` says where our newer edition agrees.
use Rattle.std.specs.Prelude.{ℕ, ◌+◌, ◌^◌, ◌<◌, ◌≡◌, cond, List, [], ◌∷◌, length, eqb}
use Rattle.numbers.specs.Bits.{bit}
use Rattle.numbers.specs.Bytes.{be}
use Rattle.numbers.specs.Rows.{Row, row, bytes_of_rows}
use Rattle.types.specs.Markers.{CAP}
use Rattle.header.specs.Iso.{Segment}
use Rattle.header.specs.IsoMain.{Piece, tlm, other}

-- ---- the segment

-- a part of the standard: nothing of it is used, or something is, and its word says what
pub data Capability : Type 0 where
  unused : Capability
  used : ℕ → Capability

-- Pcap: a bit for each part, the first part's the highest
unfoldable pub pcap_of : List Capability → ℕ
pcap_of [] = 0
pcap_of (unused ∷ more) = pcap_of more
pcap_of (used word ∷ more) = 2 ^ length more + pcap_of more

-- Ccap: the words of the parts that are used, in order
unfoldable pub ccap_rows : List Capability → List Row
ccap_rows [] = []
ccap_rows (unused ∷ more) = ccap_rows more
ccap_rows (used word ∷ more) = row 2 word ∷ ccap_rows more

-- Lcap is what any segment's length is
unfoldable pub cap_segment : List Capability → Segment
unfolding pcap_of ccap_rows
cap_segment parts = record { marker = CAP; parameters = bytes_of_rows (row 4 (pcap_of parts) ∷ ccap_rows parts) }

unfoldable pub WordsHeld : List Capability → Type 0
WordsHeld [] = Unit {0}
WordsHeld (unused ∷ more) = WordsHeld more
WordsHeld (used word ∷ more) = (word < 2 ^ 16) × WordsHeld more

-- parts 1 to 32
pub record IsCap (parts : List Capability) : Type 0 where
  pub all : length parts ≡ 32
  pub held : WordsHeld parts

-- ---- a main header that has it

-- Rsiz, the first of SIZ's parameters
abbrev pub rsiz : Segment → ℕ
rsiz siz = be 2 siz.parameters 0

-- the CAP segments, in file order
unfoldable pub caps_of : List Piece → List Segment
caps_of [] = []
caps_of (tlm t ∷ more) = caps_of more
caps_of (other g ∷ more) = cond (eqb g.marker CAP) (g ∷ caps_of more) (caps_of more)

-- bit 14 of Rsiz says whether there is one
pub data Announced (siz : Segment) (pieces : List Piece) : Type 0 where
  with : (parts : List Capability) → IsCap parts → bit 14 (rsiz siz) ≡ 1 → caps_of pieces ≡ cap_segment parts ∷ [] → Announced siz pieces
  without : bit 14 (rsiz siz) ≡ 0 → caps_of pieces ≡ [] → Announced siz pieces
