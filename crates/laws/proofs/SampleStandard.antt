-- Sample A is a codestream by the standard's own definitions: its header is made of the standard's SIZ and TLM, its tile-parts of the standard's SOT.
-- So the laws that hold our reading to those definitions speak of it, and their premises are met by something real.
use native.Mathlib.Omega.{arith}
use mathlib.Core.Path.{◌≡◌, refl}
use mathlib.Core.Bool.{false}
use mathlib.Core.List.{List, [], ◌∷◌, ◌++◌}
use lib.ListN.{length, drop}
use Rattle.numbers.specs.Bytes.{bytes_of}
use Rattle.numbers.specs.Rows.{bytes_of_rows}
use Rattle.types.specs.Markers.{SIZ, EOC}
use Rattle.types.specs.IsoSiz.{Size, component_rows, siz_rows}
use Rattle.header.specs.Iso.{Segment, segment_bytes}
use Rattle.header.specs.IsoTlm.{TlmSegment, pointer_rows, tlm_rows, Held, numbered, numbered_on, insert, ordered, iso_table}
use Rattle.header.specs.IsoMain.{tlm, piece_bytes, pieces_bytes, main_header, Sound, AllSound, IsMain}
use Rattle.parts.specs.Iso.{TilePart, sot_rows, part_bytes, parts_bytes, AllRanges}
use Rattle.laws.specs.Sample.{A}
use Rattle.laws.proofs.SampleComputing.{samples}

-- 10 by 6 in tiles of 4 by 4, one component of 8 bits
abbrev pub size : Size
size =
    record {
      Rsiz = 0;
      Xsiz = 10;
      Ysiz = 6;
      XOsiz = 0;
      YOsiz = 0;
      XTsiz = 4;
      YTsiz = 4;
      XTOsiz = 0;
      YTOsiz = 0;
      first = record { depth = 8; signed = false; XRsiz = 1; YRsiz = 1 };
      others = [];
    }

-- SIZ as a segment: what its rows have behind SOC, marker and length
abbrev pub siz : Segment
siz = record { marker = SIZ; parameters = drop 6 (bytes_of_rows (siz_rows size)) }

-- two lengths, with indices of 1 byte
abbrev pub lengths : TlmSegment
lengths = record { Ztlm = 0; ST = 1; SP = 0; pointers = record { Ttlm = 0; Ptlm = 14 } ∷ record { Ttlm = 5; Ptlm = 16 } ∷ [] }

abbrev pub first : TilePart
first = record { Isot = 0; TPsot = 0; TNsot = 1; header = []; packets = [] }

abbrev pub second : TilePart
second = record { Isot = 5; TPsot = 0; TNsot = 1; header = []; packets = 0xaa ∷ 0xbb ∷ [] }

abbrev pub parts : List TilePart
parts = first ∷ second ∷ []

unfoldable pub standards : Unit {0}
unfolding samples bytes_of_rows component_rows siz_rows segment_bytes pointer_rows tlm_rows piece_bytes pieces_bytes main_header sot_rows part_bytes parts_bytes
standards = tt

-- the sample, byte for byte
pub A-standard : A ≡ main_header siz (tlm lengths ∷ []) ++ (parts_bytes parts ++ (bytes_of 2 EOC ++ []))
unfolding standards
A-standard = refl

-- its header meets what the laws of main headers ask
pub A-main : IsMain siz (tlm lengths ∷ [])
unfolding standards Sound AllSound Held
A-main =
    record {
      siz = refl;
      fits = omega arith;
      pieces = (record { Ztlm = omega arith; ST = omega arith; SP = omega arith; Ltlm = omega arith; held = ((λ _. omega arith, omega arith), ((λ _. omega arith, omega arith), tt)) }, tt);
    }

pub siz_length : length (segment_bytes siz) ≡ 43
unfolding standards
siz_length = refl

-- and its tile-parts what those of scans ask
pub A-parts : AllRanges parts
unfolding AllRanges
A-parts =
    (record { Isot = omega arith; TPsot = omega arith; TNsot = omega arith; Psot = omega arith }, (record { Isot = omega arith; TPsot = omega arith; TNsot = omega arith; Psot = omega arith }, tt))

-- the standard's table of lengths
pub A-lengths : iso_table (lengths ∷ []) ≡ record { index = 0; bytes = 14 } ∷ record { index = 5; bytes = 16 } ∷ []
unfolding iso_table ordered insert numbered_on numbered
A-lengths = refl
