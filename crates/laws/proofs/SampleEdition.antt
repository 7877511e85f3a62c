-- A high-throughput header by the standard's own definitions: SIZ announces CAP, and CAP says that something of part 15 is used. So the law of the newer
-- edition speaks of something real; and its premise on SIZ is needed.
use native.Mathlib.Omega.{arith}
use mathlib.Core.Path.{◌≡◌, refl, ◌∙◌}
use mathlib.Core.List.{List, [], ◌∷◌, ◌++◌}
use lib.ListN.{drop, replicate}
use Rattle.std.specs.Prelude.{Ok, Err}
use Rattle.numbers.specs.Bits.{bit}
use Rattle.numbers.specs.Bytes.{bytes_of}
use Rattle.numbers.specs.Rows.{bytes_of_rows}
use Rattle.types.specs.Markers.{SIZ}
use Rattle.types.specs.Refusals.{refusal}
use Rattle.types.specs.IsoSiz.{Size, component_rows, siz_rows}
use Rattle.header.specs.Iso.{Segment, segment_bytes}
use Rattle.header.specs.IsoMain.{Piece, other, piece_bytes, pieces_bytes, main_header, Sound, AllSound, IsMain, tables, pointer_count}
use Rattle.header.specs.IsoMain as iso
use Rattle.header.specs.IsoTlm.{without_index}
use Rattle.header.specs.IsoCap.{Capability, unused, used, pcap_of, ccap_rows, cap_segment, WordsHeld, IsCap, caps_of, Announced, with, without}
use Rattle.header.specs.Reading.{newer_by}
use Rattle.header.specs.Parse.{judged_by, judged_as}
use Rattle.header.specs.declared.numbering.Numbering.TheVariants.{CarriedOn}
use Rattle.header.specs.declared.reading.Reading.{Reading}
use Rattle.header.specs.declared.parse.MainHeaderInfo.{MainHeaderInfo}
use Rattle.header.proofs.IsoMain.{up_to_sot, main_standard}
use Rattle.header.proofs.IsoNumbering.{carried_standard}
use Rattle.header.proofs.IsoCap.{cap_in_main, newer_standard}
use Rattle.laws.proofs.SampleComputing.{samples, editions}
use Rattle.laws.proofs.SampleStandard.{size}
use Rattle.types.specs.declared.Reason.TheVariants.{CapOutOfPlace}

abbrev newer : Reading
newer = newer_by CarriedOn

-- sample A's, with bit 14 of Rsiz
abbrev announcing : Size
announcing =
    record {
      Rsiz = 0x4000;
      Xsiz = size.Xsiz;
      Ysiz = size.Ysiz;
      XOsiz = size.XOsiz;
      YOsiz = size.YOsiz;
      XTsiz = size.XTsiz;
      YTsiz = size.YTsiz;
      XTOsiz = size.XTOsiz;
      YTOsiz = size.YTOsiz;
      first = size.first;
      others = size.others;
    }

abbrev siz : Segment
siz = record { marker = SIZ; parameters = drop 6 (bytes_of_rows (siz_rows announcing)) }

abbrev parts : List Capability
parts = replicate 14 unused ++ (used 0x20 ∷ replicate 17 unused)

abbrev pieces : List Piece
pieces = other (cap_segment parts) ∷ []

unfoldable standards : Unit {0}
unfolding samples bit bytes_of_rows component_rows siz_rows segment_bytes pcap_of ccap_rows cap_segment caps_of piece_bytes pieces_bytes main_header tables pointer_count iso.without without_index
standards = tt

-- Pcap, as such files have it
pub part_15 : pcap_of parts ≡ 0x2_0000
unfolding standards
part_15 = refl

cap : IsCap parts
unfolding WordsHeld
cap = record { all = refl; held = (omega arith, tt) }

main : IsMain siz pieces
unfolding standards AllSound Sound
main = record { siz = refl; fits = omega arith; pieces = ((cap_in_main parts cap, λ e. omega arith), tt) }

pub high_announced : Announced siz pieces
unfolding standards
high_announced = with parts cap refl refl

-- accepted, by the law
pub high_accepted : (h : MainHeaderInfo) → judged_by CarriedOn (up_to_sot siz pieces []) ≡ Ok h → judged_as newer (up_to_sot siz pieces []) ≡ Ok h
unfolding standards
high_accepted h judged = newer_standard CarriedOn siz pieces [] main (omega arith) high_announced h judged

-- the older accepts it
pub high_judged : judged_by CarriedOn (up_to_sot siz pieces []) ≡ Ok (record { first_sot_offset = record { 0 = 55 }; decode_header_length = 55; tlm_entries = 0; fillers = 0 })
unfolding standards bytes_of
high_judged = carried_standard siz pieces [] main (omega arith) ∙ main_standard siz pieces [] main (omega arith)

-- ---- SIZ without Rsiz: the SOT announces CAP, and the standard's SIZ does not

abbrev none : Segment
none = record { marker = SIZ; parameters = [] }

pub none_main : IsMain none []
unfolding AllSound
none_main = record { siz = refl; fits = omega arith; pieces = tt }

pub none_announced : Announced none []
unfolding standards
none_announced = without refl refl

pub none_refused : judged_as newer (up_to_sot none [] []) ≡ Err (refusal CapOutOfPlace 2)
unfolding editions standards
none_refused = refl
