-- The starred edges (docs/RULES.md, "Edges"), in the order there, each as a comment over its theorems; and the two of growth, which have no star. All are
-- computed but these, which are of every codestream of a length or with a first SOT at a place, and those of 65,535 TLM entries and more, which go by counts.
use Prim.Native.Nat.{ℕ, zero, suc, ◌+◌, ◌≤◌, min}
use native.Mathlib.Omega.{arith}
use mathlib.Core.Path.{◌≡◌, refl, sym, ap, ◌∙◌}
use mathlib.Core.Bool.{Bool, true, false, ◌&&◌, ◌||◌}
use mathlib.Core.List.{List, [], ◌∷◌, ◌++◌, map, flatten}
use lib.ListN.{length, take, replicate}
use lib.Dec.{eqb}
use borrow.Author.Tests.{ne_eqb}
use Rattle.std.specs.Prelude.{Option, Some, None, Result, Ok, Err}
use Rattle.numbers.specs.Bytes.{bytes_of}
use Rattle.types.specs.Markers.{SOC, CAP, SOT, EOC}
use Rattle.types.specs.Refusals.{refusal}
use Rattle.types.specs.Row.{row_of, rows_of, records_in}
use Rattle.types.specs.declared.Area.{Area}
use Rattle.types.specs.declared.PartNumbers.{PartNumbers}
use Rattle.types.specs.declared.PartNumbers.TheVariants.{Known, NotKnown}
use Rattle.types.specs.declared.TilePartEntry.{TilePartEntry}
use Rattle.types.specs.declared.CodestreamOffset.{CodestreamOffset}
use Rattle.header.specs.Step.{step_at}
use Rattle.header.specs.Extent.{extent_of, enough_of, enough}
use Rattle.header.specs.Walk.{walk_from}
use Rattle.header.specs.Strip.{decode_header}
use Rattle.header.specs.Numbering.{unindexed_segments}
use Rattle.header.specs.Edition.{edition_of}
use Rattle.header.specs.Reading.{newer_by, by_default}
use Rattle.header.specs.Parse.{judged, judged_by, judged_as, parsed, tlm_table, table_by}
use Rattle.header.specs.IsoMain.{main_header}
use Rattle.header.specs.declared.numbering.Numbering.TheVariants.{CarriedOn, Restarting}
use Rattle.header.specs.declared.edition.Edition.TheVariants.{Older, Newer}
use Rattle.header.specs.declared.reading.Reading.{Reading}
use Rattle.header.proofs.ExtentPrefix.{complete_reached}
use Rattle.header.proofs.Numberings.{tables_agree}
use Rattle.header.proofs.EditionLaws.{as_refused}
use Rattle.header.proofs.IsoMain.{up_to_sot}
use Rattle.header.specs.Find.{finding}
use Rattle.header.specs.declared.step.HeaderStep.TheVariants.{Delimiter, Segment}
use Rattle.parts.specs.Scan.{entries_from, scanned, scanned_table}
use Rattle.parts.specs.Split.{parts_of}
use Rattle.parts.specs.Tiles.{of_tile}
use Rattle.parts.specs.Order.{in_order}
use Rattle.parts.proofs.OrderAnswers.{TPsotByte}
use Rattle.lengths.specs.Check.{differing}
use Rattle.lengths.specs.Check as lengths
use Rattle.lengths.specs.declared.check.Said.{Said}
use Rattle.index.specs.Index.{key_of, index_of}
use Rattle.index.specs.Index.{numbered as numbered-entries}
use Rattle.index.specs.Merge.{merged}
use Rattle.index.specs.Run.{run_in}
use Rattle.index.specs.Extend.{extended, index_after}
use Rattle.index.specs.Entries.{picked, entries_by}
use Rattle.index.specs.Entries as entries
use Rattle.index.proofs.Lookup.{run_there}
use Rattle.index.proofs.IndexLaws.{run_of_tile, pair}
use Rattle.index.proofs.IndexLaws as index-laws
use Rattle.tile.specs.Rewrite.{from_zero, tile_size, rewritten, rewrite_answer, rewrite_out}
use Rattle.tile.specs.Assembly.{assembly_answer, assembly_out}
use Rattle.tile.specs.declared.rules.Rule.{Rule}
use Rattle.tile.specs.declared.rules.Rule.TheVariants.{AnnexB, Original, InPlace}
use Rattle.reader.specs.Components.{components_read, components_in_tile, component_of, component_in_tile}
use Rattle.reader.specs.Search.{JP2C, found_in, codestream}
use Rattle.reader.specs.Boxes.{boxes, boxes_of, entries_of}
use Rattle.reader.specs.Boxes as tree
use Rattle.reader.specs.Growth.{region_at, grown}
use Rattle.reader.proofs.GrowthLaws.{region_pow, whole_suffices, truncated_not, grown_end, grown_on}
use Rattle.reader.proofs.GrowthFirst.{grown_only}
use Rattle.laws.proofs.SampleComputing.{samples, extents, walks, numberings, editions, findings, scan_runs, length_tables, orders, indexes, split_runs, tiles, searches, box_trees, siz_readings, components}
use Rattle.laws.proofs.SampleNumbering.{three}
use Rattle.laws.proofs.SampleLengths.{segments}
use Rattle.laws.proofs.SampleLengths as table
use Rattle.laws.proofs.SampleBoxes.{listed_as, unlisted}
use Rattle.laws.specs.Sample.{two, zeros, siz_of, header, grid, counting, tlm_of, tlm, announcing, cap, sot_of, sot, part, head, with_tlm, listing, A, lean, signature, jp2c, JP2H, RES, UINF, IHDR, RESC, ULST, UUID, box_head, long_head, box, nest}
use Rattle.laws.proofs.SampleStandard as standard
use Rattle.laws.proofs.SampleNumbering as many
use Rattle.reader.specs.Siz as siz-reading
use Rattle.reader.specs.declared.components.ComponentInfo.{ComponentInfo}
use Rattle.reader.specs.declared.components.Components.{Components}
use Rattle.lengths.specs.declared.check.Difference.{Difference}
use Rattle.header.specs.declared.parse.MainHeaderInfo.{MainHeaderInfo}
use Rattle.types.specs.declared.Refusal.{Refusal}
use Rattle.types.specs.declared.Reason.{Reason}
use Rattle.types.specs.declared.Reason.TheVariants.{NoSoc, NoSiz, SegmentPastEnd, TlmTooShort, TlmFormUnknown, NoTilePart, TilePartCutShort, TilePartPastEnd, TileOutside, BoxCutShort, NoCodestreamBox, CodestreamBoxTooShort, BoxTooLong, OutputTooSmall, TableTooSmall, SizNotFound, ImageEndsBeforeItStarts, ComponentsNotHeld, SubsamplingOf0, TlmTooManyEntries, BoxDoesNotFit, BoxLengthWrong, BoxesTooDeep, NoGrid, NoSuchTile, TlmNumberRepeated, CapOutOfPlace, CapLengthWrong}

abbrev newer : Reading
newer = newer_by CarriedOn

-- ---- sample A

pub A-length : length A ≡ 89
unfolding samples
A-length = refl

-- a main header: first SOT, decode header, TLM entries and fillers
abbrev filled : ℕ → ℕ → ℕ → ℕ → Result MainHeaderInfo Refusal
filled first long entries fillers =
    Ok (record { first_sot_offset = record { 0 = first }; decode_header_length = long; tlm_entries = entries; fillers = fillers })

-- one without fillers
abbrev accepted : ℕ → ℕ → ℕ → Result MainHeaderInfo Refusal
accepted first long entries = filled first long entries 0

abbrev recorded : PartNumbers → ℕ → ℕ → ℕ → TilePartEntry
recorded numbers index offset long = record { tile_index = index; numbers = numbers; offset = record { 0 = offset }; length = long }

-- of TLM, and of an SOT that says 0 of 1
abbrev entry : ℕ → ℕ → ℕ → TilePartEntry
entry = recorded NotKnown

abbrev only : ℕ → ℕ → ℕ → TilePartEntry
only = recorded (Known 0 1)

-- where a marker is found
abbrev at : ℕ → Result (Option CodestreamOffset) Refusal
at offset = Ok (Some (record { 0 = offset }))

pub A-header : judged A ≡ accepted 57 45 2
unfolding walks
A-header = refl

pub A-decode-header : decode_header A (walk_from A 2).visits ≡ head
unfolding walks
A-decode-header = refl

pub A-table : tlm_table A ≡ entry 0 57 14 ∷ entry 5 71 16 ∷ []
unfolding walks
A-table = refl

-- its tile-parts
pub A-scan : entries_from A 57 ≡ only 0 57 14 ∷ only 5 71 16 ∷ []
unfolding scan_runs
A-scan = refl

-- ---- * A: extent of 58 bytes Truncated, of 59 Complete(57); as a main header 58 bytes are refused, and 59 accepted as the whole is.

pub extent_58 : extent_of (take 58 A) ≡ None
unfolding extents
extent_58 = refl

pub extent_59 : extent_of (take 59 A) ≡ Some (record { 0 = 57 })
unfolding extents
extent_59 = refl

pub header_58 : judged_as by_default (take 58 A) ≡ Err (refusal NoTilePart 58)
unfolding editions
header_58 = refl

pub header_59 : judged_as by_default (take 59 A) ≡ accepted 57 45 2
unfolding editions
header_59 = refl

-- ---- * A, tile 5: width 2, height 2; assembled 63 bytes. Tile 0: header unchanged, 61 bytes. By either rule. Kept in its place tile 5 lies from
-- 8, 4 to 10, 6, and tile 0, of full size, is written too.

-- the rows of a tile's entries in A
abbrev lent : ℕ → List ℕ
lent tile = rows_of (of_tile tile (entries_from A 57))

abbrev area : ℕ → ℕ → ℕ → ℕ → Area
area x0 y0 x1 y1 = record { x0 = x0; y0 = y0; x1 = x1; y1 = y1 }

-- where a rule puts tile 5
abbrev put_5 : Rule → Area
put_5 AnnexB = from_zero 2 2
put_5 Original = from_zero 2 2
put_5 InPlace = area 8 4 10 6

-- and the header there
abbrev header_5 : Rule → List ℕ
header_5 AnnexB = header 2 2 0 0 2 2
header_5 Original = header 2 2 0 0 2 2
header_5 InPlace = grid 10 6 8 4 2 2 8 4

-- and for tile 0
abbrev header_0 : Rule → List ℕ
header_0 AnnexB = head
header_0 Original = head
header_0 InPlace = header 4 4 0 0 4 4

pub tile_5 : (rule : Rule) → tile_size rule head 5 ≡ Ok (Some (put_5 rule))
unfolding tiles
tile_5 AnnexB = refl
tile_5 Original = refl
tile_5 InPlace = refl

pub tile_5_header : (rule : Rule) → rewritten rule head 5 ≡ header_5 rule
unfolding tiles
tile_5_header AnnexB = refl
tile_5_header Original = refl
tile_5_header InPlace = refl

pub tile_5_assembled : (rule : Rule) → assembly_answer rule head (lent 5) A 63 ≡ Ok 63
unfolding scan_runs tiles
tile_5_assembled AnnexB = refl
tile_5_assembled Original = refl
tile_5_assembled InPlace = refl

pub tile_5_bytes : (rule : Rule) → assembly_out rule head (lent 5) A (replicate 64 1) ≡ header_5 rule ++ part 0 16 (0xaa ∷ 0xbb ∷ []) ++ (0xff ∷ 0xd9 ∷ 1 ∷ [])
unfolding scan_runs tiles
tile_5_bytes AnnexB = refl
tile_5_bytes Original = refl
tile_5_bytes InPlace = refl

pub tile_0 : (rule : Rule) → rewritten rule head 0 ≡ header_0 rule
unfolding tiles
tile_0 AnnexB = refl
tile_0 Original = refl
tile_0 InPlace = refl

pub tile_0_assembled : (rule : Rule) → assembly_answer rule head (lent 0) A 61 ≡ Ok 61
unfolding scan_runs tiles
tile_0_assembled AnnexB = refl
tile_0_assembled Original = refl
tile_0_assembled InPlace = refl

-- ---- * A, tile 6: y0 is 8, past 6: refusal TileOutside by the original's rule, and 31 by Annex B and in place, as there are six tiles.

pub tile_6 : rewrite_answer Original head 6 45 ≡ Err (refusal TileOutside 2)
unfolding tiles
tile_6 = refl

pub tile_6_annex : rewrite_answer AnnexB head 6 45 ≡ Err (refusal NoSuchTile 2)
unfolding tiles
tile_6_annex = refl

pub tile_6_in_place : rewrite_answer InPlace head 6 45 ≡ Err (refusal NoSuchTile 2)
unfolding tiles
tile_6_in_place = refl

-- ---- * In place: XTOsiz 0, XOsiz 3, XTsiz 4, Xsiz 10, tile 0: from 3 to 4; tile 1, of full size: from 4 to 8. YTsiz 0: refusal NoGrid.

pub in_place_clipped : rewritten InPlace (grid 10 4 3 0 4 4 0 0) 0 ≡ grid 4 4 3 0 1 4 3 0
unfolding tiles
in_place_clipped = refl

pub in_place_full : rewritten InPlace (grid 10 4 3 0 4 4 0 0) 1 ≡ grid 8 4 4 0 4 4 4 0
unfolding tiles
in_place_full = refl

pub in_place_no_grid : rewrite_answer InPlace (header 10 6 0 0 4 0) 0 45 ≡ Err (refusal NoGrid 2)
unfolding tiles
in_place_no_grid = refl

-- ---- * Markers of A: SIZ at 2, TLM at 45; SOC, the first SOT and PPM are none.

pub marker_siz : finding A 0xff51 ≡ at 2
unfolding findings
marker_siz = refl

pub marker_tlm : finding A 0xff55 ≡ at 45
unfolding findings
marker_tlm = refl

pub marker_soc : finding A 0xff4f ≡ Ok None
unfolding findings
marker_soc = refl

pub marker_sot : finding A 0xff90 ≡ Ok None
unfolding findings
marker_sot = refl

pub marker_ppm : finding A 0xff60 ≡ Ok None
unfolding findings
marker_ppm = refl

-- ---- * PPM twice behind SIZ: the first, at 45. FF60 in the text of a COM, or behind the first SOT: none. 7F60: another marker.

abbrev ppm : List ℕ
ppm = 0xff ∷ 0x60 ∷ 0 ∷ 3 ∷ 0 ∷ []

pub ppm_first : finding (with_tlm (ppm ++ ppm)) 0xff60 ≡ at 45
unfolding findings
ppm_first = refl

pub ppm_in_text : finding (with_tlm (0xff ∷ 0x64 ∷ 0 ∷ 6 ∷ 0 ∷ 1 ∷ 0xff ∷ 0x60 ∷ [])) 0xff60 ≡ Ok None
unfolding findings
ppm_in_text = refl

pub ppm_behind : finding (head ++ part 0 19 ppm) 0xff60 ≡ Ok None
unfolding findings
ppm_behind = refl

pub ppm_high_byte : finding (with_tlm (0x7f ∷ 0x60 ∷ 0 ∷ 3 ∷ 0 ∷ [])) 0xff60 ≡ Ok None
unfolding findings
ppm_high_byte = refl

-- ---- * A marker of no byte: refusal NoSoc. Of A without its last TLM entry's byte, so that the walk comes to no SOT: 3, also where the marker was passed.

pub marker_of_nothing : finding [] 0xff60 ≡ Err (refusal NoSoc 0)
unfolding findings
marker_of_nothing = refl

pub marker_refused : finding (take 56 A) 0xff51 ≡ Err (refusal SegmentPastEnd 45)
unfolding findings
marker_refused = refl

-- ---- * Behind SIZ FF30: no filler. 0030, 4192, FE3F: one each, and behind FF30 all three. 0040, which is a segment: none.

pub filler_ff30 : judged (with_tlm (two 0xff30)) ≡ accepted 47 47 0
unfolding walks
filler_ff30 = refl

pub filler_0030 : judged (with_tlm (two 0x0030)) ≡ filled 47 47 0 1
unfolding walks
filler_0030 = refl

pub filler_4192 : judged (with_tlm (two 0x4192)) ≡ filled 47 47 0 1
unfolding walks
filler_4192 = refl

pub filler_fe3f : judged (with_tlm (two 0xfe3f)) ≡ filled 47 47 0 1
unfolding walks
filler_fe3f = refl

pub filler_three : judged (with_tlm (two 0xff30 ++ two 0x0030 ++ two 0x4192 ++ two 0xfe3f)) ≡ filled 53 53 0 3
unfolding walks
filler_three = refl

pub filler_segment : judged (with_tlm (two 0x0040 ++ two 2)) ≡ accepted 49 49 0
unfolding walks
filler_segment = refl

-- what the step says of them
pub step_ff30 : step_at (with_tlm (two 0xff30)) 45 ≡ Delimiter (record { code = 0xff30; high_ff = true; next = 47 })
unfolding walks
step_ff30 = refl

pub step_0030 : step_at (with_tlm (two 0x0030)) 45 ≡ Delimiter (record { code = 0x0030; high_ff = false; next = 47 })
unfolding walks
step_0030 = refl

pub step_0040 : step_at (with_tlm (two 0x0040 ++ two 2)) 45 ≡ Segment (record { code = 0x0040; high_ff = false; next = 49 })
unfolding walks
step_0040 = refl

-- ---- * 0130 reached through a segment of L 1: one filler. Of L 3, which takes the 30 along: none.

pub filler_reached : judged (with_tlm (two 0xff64 ++ two 1 ++ (0x30 ∷ []))) ≡ filled 50 50 0 1
unfolding walks
filler_reached = refl

pub filler_taken : judged (with_tlm (two 0xff64 ++ two 3 ++ (0x30 ∷ []))) ≡ accepted 50 50 0
unfolding walks
filler_taken = refl

-- ---- * 0030 in the text of a COM, or behind the first SOT: none.

pub filler_in_text : judged (with_tlm (two 0xff64 ++ two 6 ++ two 1 ++ two 0x0030)) ≡ accepted 53 53 0
unfolding walks
filler_in_text = refl

pub filler_behind : judged (head ++ (two SOT ++ two 0x0030)) ≡ accepted 45 45 0
unfolding walks
filler_behind = refl

-- ---- * Ltlm 3: refusal TlmTooShort. Ltlm 4: no entries.

-- no Stlm
pub ltlm_3 : judged (with_tlm (0xff ∷ 0x55 ∷ 0 ∷ 3 ∷ 0 ∷ [])) ≡ Err (refusal TlmTooShort 45)
unfolding walks
ltlm_3 = refl

pub ltlm_4 : judged (with_tlm (tlm 0x10 [])) ≡ accepted 51 45 0
unfolding walks
ltlm_4 = refl

-- ---- * ST 1, SP 0, Ltlm 6: no entries. Ltlm 7: one.

pub ltlm_6 : judged (with_tlm (tlm 0x10 (0 ∷ 0 ∷ []))) ≡ accepted 53 45 0
unfolding walks
ltlm_6 = refl

pub ltlm_7 : judged (with_tlm (tlm 0x10 (0 ∷ 0 ∷ 14 ∷ []))) ≡ accepted 54 45 1
unfolding walks
ltlm_7 = refl

-- ---- * Two TLM segments, ST 0, two entries each: restarting, indices 0, 1, 0, 1; carried on, 0, 1, 2, 3.

abbrev two_segments : List ℕ
two_segments = with_tlm (tlm 0 (0 ∷ 20 ∷ 0 ∷ 30 ∷ []) ++ tlm 0 (0 ∷ 40 ∷ 0 ∷ 50 ∷ []))

pub from_0 : tlm_table two_segments ≡ entry 0 65 20 ∷ entry 1 85 30 ∷ entry 0 115 40 ∷ entry 1 155 50 ∷ []
unfolding walks
from_0 = refl

pub restarted : table_by Restarting two_segments ≡ entry 0 65 20 ∷ entry 1 85 30 ∷ entry 0 115 40 ∷ entry 1 155 50 ∷ []
unfolding numberings
restarted = refl

pub carried_on : table_by CarriedOn two_segments ≡ entry 0 65 20 ∷ entry 1 85 30 ∷ entry 2 115 40 ∷ entry 3 155 50 ∷ []
unfolding numberings
carried_on = refl

-- both accept it; two segments have entries without an index, one more than the law on agreement asks
pub carried_accepted : judged_by CarriedOn two_segments ≡ accepted 65 45 4
unfolding numberings
carried_accepted = refl

pub two_unindexed : unindexed_segments two_segments (walk_from two_segments 2).visits ≡ 2
unfolding numberings
two_unindexed = refl

-- ---- * An indexed segment between two of ST 0 does not move the count, and its index 65,535 stays: 0, 65,535, 1. Restarting: 0, 65,535, 0.

abbrev between : List ℕ
between = with_tlm (tlm 0 (0 ∷ 20 ∷ []) ++ tlm 0x20 (0xff ∷ 0xff ∷ 0 ∷ 30 ∷ []) ++ tlm 0 (0 ∷ 40 ∷ []))

pub carried_between : table_by CarriedOn between ≡ entry 0 71 20 ∷ entry 65_535 91 30 ∷ entry 1 121 40 ∷ []
unfolding numberings
carried_between = refl

pub restarted_between : table_by Restarting between ≡ entry 0 71 20 ∷ entry 65_535 91 30 ∷ entry 0 121 40 ∷ []
unfolding numberings
restarted_between = refl

-- ---- * One segment of ST 0 behind an indexed one: 7, 0, 1 by either.

abbrev single : List ℕ
single = with_tlm (tlm 0x10 (7 ∷ 0 ∷ 20 ∷ []) ++ tlm 0 (0 ∷ 30 ∷ 0 ∷ 40 ∷ []))

pub one_unindexed : unindexed_segments single (walk_from single 2).visits ≤ 1
unfolding numberings
one_unindexed = omega arith

pub single_agrees : table_by CarriedOn single ≡ table_by Restarting single
single_agrees = tables_agree single one_unindexed

pub single_carried : table_by CarriedOn single ≡ entry 7 64 20 ∷ entry 0 84 30 ∷ entry 1 114 40 ∷ []
unfolding numberings
single_carried = refl

-- ---- * 65,535 entries of ST 0, in segments of 32,765, 32,765 and 5: accepted. 65,536: 26 at the third; restarting accepts them.

pub carried_65535 : judged_by CarriedOn (up_to_sot standard.siz (three 32_765 5) []) ≡ accepted 131_133 45 65_535
carried_65535 = many.carried 32_765 5 (omega arith) (omega arith) (omega arith)

pub carried_65536 : judged_by CarriedOn (up_to_sot standard.siz (three 32_765 6) []) ≡ Err (refusal TlmTooManyEntries 131_117)
unfolding bytes_of
carried_65536 = many.past 32_765 6 (omega arith) (omega arith) (omega arith) (omega arith) (bytes_of 2 SOT ++ []) (omega arith)

pub restarting_65536 : judged_by Restarting (up_to_sot standard.siz (three 32_765 6) []) ≡ accepted 131_135 45 65_536
restarting_65536 = many.restarting 32_765 6 (omega arith) (omega arith)

-- ---- * 65,536 of them, and behind them a segment that is cut: 26 at the third of theirs; restarting, 3.

pub past_before_3 : judged_by CarriedOn (main_header standard.siz (three 32_765 6) ++ many.cut) ≡ Err (refusal TlmTooManyEntries 131_117)
past_before_3 = many.past 32_765 6 (omega arith) (omega arith) (omega arith) (omega arith) many.cut (omega arith)

pub restarting_3 : judged_by Restarting (main_header standard.siz (three 32_765 6) ++ many.cut) ≡ Err (refusal SegmentPastEnd 131_135)
restarting_3 = many.own_restarts 32_765 6 (omega arith) (omega arith) many.cut (omega arith) SegmentPastEnd many.cut_there

-- ---- * 65,536 of them, and behind them one segment more with one: 26 at the third, where the number first passes.

pub past_before_past : judged_by CarriedOn (main_header standard.siz (three 32_765 6) ++ many.one_more) ≡ Err (refusal TlmTooManyEntries 131_117)
past_before_past = many.past 32_765 6 (omega arith) (omega arith) (omega arith) (omega arith) many.one_more (omega arith)

-- ---- * 65,535 of them, and behind them one that is cut, with Ltlm 3, or with ST 3: 3, 4, 5 there.

pub at_65535_3 : judged_by CarriedOn (main_header standard.siz (three 32_765 5) ++ many.cut) ≡ Err (refusal SegmentPastEnd 131_133)
at_65535_3 = many.own_carries 32_765 5 (omega arith) (omega arith) many.cut (omega arith) SegmentPastEnd many.cut_there (omega arith)

pub at_65535_4 : judged_by CarriedOn (main_header standard.siz (three 32_765 5) ++ many.ltlm_3) ≡ Err (refusal TlmTooShort 131_133)
at_65535_4 = many.own_carries 32_765 5 (omega arith) (omega arith) many.ltlm_3 (omega arith) TlmTooShort many.ltlm_3_there (omega arith)

pub at_65535_5 : judged_by CarriedOn (main_header standard.siz (three 32_765 5) ++ many.st_3) ≡ Err (refusal TlmFormUnknown 131_133)
at_65535_5 = many.own_carries 32_765 5 (omega arith) (omega arith) many.st_3 (omega arith) TlmFormUnknown many.st_3_there (omega arith)

-- ---- * `FF4F FF51 0002 FF90`: bytes 6 and 7 are the SOT, whose bit 14 is set. In the newer edition 33 at 2; the older accepts. With Rsiz 0 before the
-- SOT the newer accepts.

abbrev shortest : List ℕ
shortest = 0xff ∷ 0x4f ∷ 0xff ∷ 0x51 ∷ 0 ∷ 2 ∷ 0xff ∷ 0x90 ∷ []

pub sot_announces : judged_as newer shortest ≡ Err (refusal CapOutOfPlace 2)
unfolding editions
sot_announces = refl

pub sot_older : judged_as by_default shortest ≡ accepted 6 6 0
unfolding editions
sot_older = refl

pub rsiz_0 : judged_as newer (announcing 0 []) ≡ accepted 8 8 0
unfolding editions
rsiz_0 = refl

-- ---- * Rsiz 4000: 33 at 2 without CAP, accepted with one. Rsiz BFFF: accepted without, 33 at the CAP with one.

pub cap_missing : judged_as newer (announcing 0x4000 []) ≡ Err (refusal CapOutOfPlace 2)
unfolding editions
cap_missing = refl

pub cap_once : judged_as newer (announcing 0x4000 (cap 6 0 [])) ≡ accepted 16 16 0
unfolding editions
cap_once = refl

pub cap_unannounced : judged_as newer (announcing 0xbfff []) ≡ accepted 8 8 0
unfolding editions
cap_unannounced = refl

pub cap_unwanted : judged_as newer (announcing 0xbfff (cap 6 0 [])) ≡ Err (refusal CapOutOfPlace 8)
unfolding editions
cap_unwanted = refl

-- ---- * Two CAP: announced, 33 at the second; not announced, at the first.

pub cap_repeated : judged_as newer (announcing 0x4000 (cap 6 0 [] ++ cap 6 0 [])) ≡ Err (refusal CapOutOfPlace 16)
unfolding editions
cap_repeated = refl

pub caps_unwanted : judged_as newer (announcing 0 (cap 6 0 [] ++ cap 6 0 [])) ≡ Err (refusal CapOutOfPlace 8)
unfolding editions
caps_unwanted = refl

-- ---- * Lcap 5: 34. Lcap 6: accepted if Pcap is 0, and 34 with a one. Lcap 8: 34, accepted. 32 ones: Lcap 68 34, Lcap 70 accepted.

pub lcap_5 : judged_as newer (announcing 0x4000 (two CAP ++ two 5 ++ zeros 3)) ≡ Err (refusal CapLengthWrong 8)
unfolding editions
lcap_5 = refl

pub lcap_6_one : judged_as newer (announcing 0x4000 (cap 6 1 [])) ≡ Err (refusal CapLengthWrong 8)
unfolding editions
lcap_6_one = refl

pub lcap_8_none : judged_as newer (announcing 0x4000 (cap 8 0 (zeros 2))) ≡ Err (refusal CapLengthWrong 8)
unfolding editions
lcap_8_none = refl

pub lcap_8_one : judged_as newer (announcing 0x4000 (cap 8 0x2_0000 (zeros 2))) ≡ accepted 18 18 0
unfolding editions
lcap_8_one = refl

pub lcap_68 : judged_as newer (announcing 0x4000 (cap 68 0xffff_ffff (zeros 62))) ≡ Err (refusal CapLengthWrong 8)
unfolding editions
lcap_68 = refl

pub lcap_70 : judged_as newer (announcing 0x4000 (cap 70 0xffff_ffff (zeros 64))) ≡ accepted 80 80 0
unfolding editions
lcap_70 = refl

-- ---- * A wrong Lcap and a second CAP: 33 at the second, whichever is the wrong one.

pub cap_33_first : judged_as newer (announcing 0x4000 (cap 6 1 [] ++ cap 6 0 [])) ≡ Err (refusal CapOutOfPlace 16)
unfolding editions
cap_33_first = refl

pub cap_33_too : judged_as newer (announcing 0x4000 (cap 6 0 [] ++ cap 6 1 [])) ≡ Err (refusal CapOutOfPlace 16)
unfolding editions
cap_33_too = refl

-- ---- * CAP missing, and behind it a segment that is cut: 3. CAP not wanted, and numbers past 65,534 before it: 26.

pub cap_after_3 : judged_as newer (announcing 0x4000 (two 0xff64 ++ two 0xffff)) ≡ Err (refusal SegmentPastEnd 8)
unfolding editions
cap_after_3 = refl

pub cap_after_26 : judged_as newer (main_header standard.siz (three 32_765 6) ++ (two CAP ++ two 2 ++ two SOT)) ≡ Err (refusal TlmTooManyEntries 131_117)
unfolding two bytes_of
cap_after_26 =
    as_refused newer _ (refusal TlmTooManyEntries 131_117) (many.past 32_765 6 (omega arith) (omega arith) (omega arith) (omega arith) (two CAP ++ two 2 ++ two SOT) (omega arith))

-- ---- * CAP missing, and no room: 33; in the older edition 18, then 17. A wrong Lcap, and no room: 34.

pub cap_before_18 : parsed newer (announcing 0x4000 (tlm 0x10 (5 ∷ 0 ∷ 14 ∷ []))) 0 0 ≡ Err (refusal CapOutOfPlace 2)
unfolding editions
cap_before_18 = refl

pub older_18 : parsed by_default (announcing 0x4000 (tlm 0x10 (5 ∷ 0 ∷ 14 ∷ []))) 0 0 ≡ Err (refusal TableTooSmall 1)
unfolding editions
older_18 = refl

pub lcap_before_17 : parsed newer (announcing 0x4000 (cap 6 1 [])) 0 0 ≡ Err (refusal CapLengthWrong 8)
unfolding editions
lcap_before_17 = refl

pub older_17 : parsed by_default (announcing 0x4000 (cap 6 1 [])) 0 0 ≡ Err (refusal OutputTooSmall 16)
unfolding editions
older_17 = refl

-- ---- * CAP inside a segment, and behind the first SOT: none.

pub cap_inside : judged_as newer (announcing 0 (two 0xff64 ++ two 10 ++ cap 6 0 [])) ≡ accepted 20 20 0
unfolding editions
cap_inside = refl

pub cap_behind : judged_as newer (announcing 0x4000 [] ++ cap 6 0 []) ≡ Err (refusal CapOutOfPlace 2)
unfolding editions
cap_behind = refl

-- ---- * As C gives it: 0 and any number but 1 mean the older edition.

pub edition_0 : edition_of 0 ≡ Older
unfolding edition_of
edition_0 = refl

pub edition_1 : edition_of 1 ≡ Newer
unfolding edition_of
edition_1 = refl

pub edition_2 : edition_of 2 ≡ Older
unfolding edition_of
edition_2 = refl

-- ---- * Psot equal to the rest: accepted; one more: 9.

pub psot_rest : scanned (part 0 14 []) 0 1 ≡ Ok 1
unfolding scan_runs
psot_rest = refl

pub psot_past : scanned (part 0 15 []) 0 1 ≡ Err (refusal TilePartPastEnd 0)
unfolding scan_runs
psot_past = refl

-- ---- * SOT, Isot 0, Psot 5, then 10 zero bytes: one entry of 5, accepted. Without the zeros: 7 at 5.

pub psot_5 : scanned (sot 0 5 ++ zeros 10) 0 1 ≡ Ok 1
unfolding scan_runs
psot_5 = refl

pub psot_5_entry : entries_from (sot 0 5 ++ zeros 10) 0 ≡ only 0 0 5 ∷ []
unfolding scan_runs
psot_5_entry = refl

pub psot_5_short : scanned (sot 0 5) 0 1 ≡ Err (refusal TilePartCutShort 5)
unfolding scan_runs
psot_5_short = refl

-- ---- * One byte after the last part: 7. Twelve zero bytes after it: accepted.

pub one_after : scanned (part 0 14 [] ++ zeros 1) 0 1 ≡ Err (refusal TilePartCutShort 14)
unfolding scan_runs
one_after = refl

pub twelve_after : scanned (part 0 14 [] ++ zeros 12) 0 1 ≡ Ok 1
unfolding scan_runs
twelve_after = refl

-- ---- * A, tile 5; tile 1, which has no entry; by TLM's records, whose numbers are not known.

pub A-in-order : in_order 5 (entries_from A 57) ≡ true
unfolding orders
A-in-order = refl

pub A-no-entry : in_order 1 (entries_from A 57) ≡ false
unfolding orders
A-no-entry = refl

pub A-by-tlm : in_order 5 (tlm_table A) ≡ false
unfolding orders walks
A-by-tlm = refl

-- ---- * One tile-part, its TPsot and TNsot: 0 and 1; 0 and 0; 0 and 2; 1 and 1; 1 and 0.

-- the tile-parts of tile 7 with these numbers, SOT by SOT
abbrev parts7 : List (ℕ × ℕ) → List ℕ
parts7 ns = flatten (map (λ (n : ℕ × ℕ). sot_of 7 12 n.0 n.1) ns)

abbrev order7 : List (ℕ × ℕ) → Bool
order7 ns = in_order 7 (entries_from (parts7 ns) 0)

pub one_of_1 : order7 ((0, 1) ∷ []) ≡ true
unfolding orders
one_of_1 = refl

pub one_of_none_given : order7 ((0, 0) ∷ []) ≡ true
unfolding orders
one_of_none_given = refl

pub one_of_2 : order7 ((0, 2) ∷ []) ≡ false
unfolding orders
one_of_2 = refl

pub number_1_alone : order7 ((1, 1) ∷ []) ≡ false
unfolding orders
number_1_alone = refl

pub number_1_silent : order7 ((1, 0) ∷ []) ≡ false
unfolding orders
number_1_silent = refl

-- ---- * Two: (0, 2), (1, 2); swapped; (0, 0), (1, 2); (0, 2), (1, 0); (0, 2), (1, 1); (0, 2), (0, 2). The third before the second.

pub two_of_2 : order7 ((0, 2) ∷ (1, 2) ∷ []) ≡ true
unfolding orders
two_of_2 = refl

pub swapped : order7 ((1, 2) ∷ (0, 2) ∷ []) ≡ false
unfolding orders
swapped = refl

pub given_late : order7 ((0, 0) ∷ (1, 2) ∷ []) ≡ true
unfolding orders
given_late = refl

pub given_once : order7 ((0, 2) ∷ (1, 0) ∷ []) ≡ true
unfolding orders
given_once = refl

pub given_apart : order7 ((0, 2) ∷ (1, 1) ∷ []) ≡ false
unfolding orders
given_apart = refl

pub number_twice : order7 ((0, 2) ∷ (0, 2) ∷ []) ≡ false
unfolding orders
number_twice = refl

pub third_before_second : order7 ((0, 3) ∷ (2, 3) ∷ (1, 3) ∷ []) ≡ false
unfolding orders
third_before_second = refl

-- ---- * Two of tile 7 with one of tile 9 between, before or behind them; with a record of tile 7 whose numbers are not known behind them.

abbrev of_7 : ℕ → TilePartEntry
of_7 n = recorded (Known n 2) 7 0 12

abbrev of_9 : TilePartEntry
of_9 = recorded (Known 5 1) 9 0 12

pub another_between : in_order 7 (of_7 0 ∷ of_9 ∷ of_7 1 ∷ []) ≡ true
unfolding orders
another_between = refl

pub another_before : in_order 7 (of_9 ∷ of_7 0 ∷ of_7 1 ∷ []) ≡ true
unfolding orders
another_before = refl

pub another_behind : in_order 7 (of_7 0 ∷ of_7 1 ∷ of_9 ∷ []) ≡ true
unfolding orders
another_behind = refl

pub not_known_behind : in_order 7 (of_7 0 ∷ of_7 1 ∷ entry 7 0 12 ∷ []) ≡ false
unfolding orders
not_known_behind = refl

-- ---- * The first of a row's last 3 bytes, the others being 0 and 1: 0; 1; 2.

abbrev row7 : ℕ → List ℕ
row7 known = take 18 (row_of (only 7 0 12)) ++ (known ∷ 0 ∷ 1 ∷ [])

pub row_known : in_order 7 (records_in (row7 1)) ≡ true
unfolding orders
row_known = refl

pub row_not_known : in_order 7 (records_in (row7 0)) ≡ false
unfolding orders
row_not_known = refl

pub row_2 : in_order 7 (records_in (row7 2)) ≡ false
unfolding orders
row_2 = refl

-- a partial row is none
pub row_short : in_order 7 (records_in (take 20 (row7 1))) ≡ false
unfolding orders
row_short = refl

-- ---- * 256 tile-parts with TPsot 0 to 255 and TNsot 0; the last one's TNsot 255. One more, whatever its numbers are.

-- so many from a number on
unfoldable pub numbered : ℕ → ℕ → List TilePartEntry
numbered zero n = []
numbered (suc k) n = recorded (Known n 0) 7 0 12 ∷ numbered k (n + 1)

pub parts_256 : in_order 7 (numbered 256 0) ≡ true
unfolding orders numbered
parts_256 = refl

pub parts_255_given : in_order 7 (numbered 255 0 ++ (recorded (Known 255 255) 7 0 12 ∷ [])) ≡ false
unfolding orders numbered
parts_255_given = refl

pub parts_257 : (numbers : PartNumbers) → TPsotByte numbers → in_order 7 (numbered 256 0 ++ (recorded numbers 7 0 12 ∷ [])) ≡ false
unfolding orders numbered
parts_257 (Known t m) byte = ap (λ (b : Bool). (b && (eqb m 0 || eqb m 257)) && true) (ne_eqb t 256 (λ z. omega arith))
parts_257 NotKnown byte = refl

-- ---- * Index of A's scan: tile 0; 5; 1. Two entries of tiles 5 and 0; of one tile.

abbrev key : ℕ → ℕ → ℕ
key tile number = key_of tile number

pub A-index : index_of (entries_from A 57) ≡ key 0 0 ∷ key 5 1 ∷ []
unfolding indexes
A-index = ap index_of A-scan ∙ pair (only 0 57 14) (only 5 71 16) (omega arith) (omega arith)

A-few : length (entries_from A 57) ≤ numbered-entries
A-few = omega (arith, ap length A-scan)

pub A-run-0 : run_in (index_of (entries_from A 57)) 0 ≡ key 0 0 ∷ []
unfolding scan_runs indexes
A-run-0 = run_there 0 (entries_from A 57) (omega arith) A-few

pub A-run-5 : run_in (index_of (entries_from A 57)) 5 ≡ key 5 1 ∷ []
unfolding scan_runs indexes
A-run-5 = run_there 5 (entries_from A 57) (omega arith) A-few

pub A-run-1 : run_in (index_of (entries_from A 57)) 1 ≡ []
unfolding scan_runs indexes
A-run-1 = run_there 1 (entries_from A 57) (omega arith) A-few

pub A-tile-5 : entries_by (index_of (entries_from A 57)) 5 (entries_from A 57) ≡ only 5 71 16 ∷ []
unfolding scan_runs
A-tile-5 = run_of_tile 5 (entries_from A 57) (omega arith) A-few

pub tile_falls : index_of (only 5 0 14 ∷ only 0 14 14 ∷ []) ≡ key 0 1 ∷ key 5 0 ∷ []
unfolding indexes
tile_falls = pair (only 5 0 14) (only 0 14 14) (omega arith) (omega arith)

pub one_tile_lem : index_of (only 7 0 14 ∷ only 7 14 14 ∷ []) ≡ key 7 0 ∷ key 7 1 ∷ []
unfolding indexes
one_tile_lem = pair (only 7 0 14) (only 7 14 14) (omega arith) (omega arith)

-- ---- * Index of two entries into room for two; one. Scratch for two; one. One of them old: scratch for one; none. Three said to be old: scratch for two; one.

pub two_fit : extended 2 0 2 2 ≡ Ok 2
unfolding indexes
two_fit = refl

pub no_key : extended 2 0 1 2 ≡ Err (refusal TableTooSmall 2)
unfolding indexes
no_key = refl

pub no_scratch : extended 2 0 2 1 ≡ Err (refusal TableTooSmall 2)
unfolding indexes
no_scratch = refl

pub one_old : extended 2 1 2 1 ≡ Ok 2
unfolding indexes
one_old = refl

pub one_old_no_scratch : extended 2 1 2 0 ≡ Err (refusal TableTooSmall 2)
unfolding indexes
one_old_no_scratch = refl

pub too_old : extended 2 3 2 2 ≡ Ok 2
unfolding indexes
too_old = refl

pub too_old_no_scratch : extended 2 3 2 1 ≡ Err (refusal TableTooSmall 2)
unfolding indexes
too_old_no_scratch = refl

-- ---- * Index of 2^48 entries; one more, with any room.

pub most_numbered : extended 0x1_0000_0000_0000 0 0x1_0000_0000_0000 0x1_0000_0000_0000 ≡ Ok 0x1_0000_0000_0000
unfolding indexes
most_numbered = refl

pub too_many : extended 0x1_0000_0000_0001 0 0x1_0000_0000_0001 0x1_0000_0000_0001 ≡ Err (refusal TableTooSmall 0x1_0000_0000_0001)
unfolding indexes
too_many = refl

-- ---- * Extended by a part of tile 5 where tile 5 has one, and tile 0; by none. Where the old keys are no index.

pub gains : index_after (Ok 3) (only 5 0 14 ∷ only 0 14 14 ∷ only 5 28 14 ∷ []) 2 (key 0 1 ∷ key 5 0 ∷ 9 ∷ []) ≡ key 0 1 ∷ key 5 0 ∷ key 5 2 ∷ []
unfolding indexes
gains = ap (λ (l : List ℕ). merged (key 0 1 ∷ key 5 0 ∷ []) l ++ []) (index-laws.single 2 (only 5 28 14) (omega arith))

pub gains_before : index_after (Ok 3) (only 5 0 14 ∷ only 0 14 14 ∷ only 0 28 14 ∷ []) 2 (key 0 1 ∷ key 5 0 ∷ 9 ∷ []) ≡ key 0 1 ∷ key 0 2 ∷ key 5 0 ∷ []
unfolding indexes
gains_before = ap (λ (l : List ℕ). merged (key 0 1 ∷ key 5 0 ∷ []) l ++ []) (index-laws.single 2 (only 0 28 14) (omega arith))

pub no_index : index_after (Ok 3) (only 5 0 14 ∷ only 0 14 14 ∷ only 0 28 14 ∷ []) 2 (key 5 0 ∷ key 0 1 ∷ 9 ∷ []) ≡ key 5 0 ∷ key 0 1 ∷ key 0 2 ∷ []
unfolding indexes
no_index = ap (λ (l : List ℕ). merged (key 5 0 ∷ key 0 1 ∷ []) l ++ []) (index-laws.single 2 (only 0 28 14) (omega arith))

-- ---- * Entries of tile 5 where a key says the second of one; where it says one of tile 0; both, and one that is its own. Rows for one; for none.

pub past_the_table : picked 5 (only 5 0 14 ∷ []) (key 5 1 ∷ []) ≡ []
unfolding indexes
past_the_table = refl

pub of_another : picked 5 (only 0 0 14 ∷ []) (key 5 0 ∷ []) ≡ []
unfolding indexes
of_another = refl

pub its_own : picked 5 (only 0 0 14 ∷ only 5 14 14 ∷ []) (key 5 0 ∷ key 5 1 ∷ key 5 2 ∷ []) ≡ only 5 14 14 ∷ []
unfolding indexes
its_own = refl

pub entry_in_row : entries.given 1 1 ≡ Ok 1
unfolding indexes
entry_in_row = refl

pub entry_no_row : entries.given 1 0 ≡ Err (refusal TableTooSmall 1)
unfolding indexes
entry_no_row = refl

-- ---- * A passes, of its first 59 bytes, of all, and of more than there are; of 58: 6; of none: 1.

abbrev refuses : Reason → ℕ → Result (Option Difference) Refusal
refuses reason place = Err (refusal reason place)

abbrev says : ℕ → ℕ → Option Said
says tile length = Some (record { tile = tile; length = length })

pub check_A : lengths.checked A 89 ≡ Ok None
unfolding length_tables
check_A = refl

pub check_59 : lengths.checked A 59 ≡ Ok None
unfolding length_tables
check_59 = refl

pub check_58 : lengths.checked A 58 ≡ refuses NoTilePart 58
unfolding length_tables
check_58 = refl

pub check_0 : lengths.checked A 0 ≡ refuses NoSoc 0
unfolding length_tables
check_0 = refl

pub check_most : lengths.checked A 0xffff_ffff_ffff_ffff ≡ Ok None
unfolding length_tables
check_most = refl

-- ---- * A with a length of 15 for 14: differs at 0; with index 4 for 5: at 1; without its second entry: at 1; with a third: at 2, where EOC stands.

pub other_length : lengths.checked (listing (0 ∷ 0 ∷ 15 ∷ 5 ∷ 0 ∷ 16 ∷ [])) 89 ≡ differing 0 57 (says 0 15) (says 0 14)
unfolding length_tables
other_length = refl

pub other_index : lengths.checked (listing (0 ∷ 0 ∷ 14 ∷ 4 ∷ 0 ∷ 16 ∷ [])) 89 ≡ differing 1 71 (says 4 16) (says 5 16)
unfolding length_tables
other_index = refl

pub entry_missing : lengths.checked (listing (0 ∷ 0 ∷ 14 ∷ [])) 86 ≡ differing 1 68 None (says 5 16)
unfolding length_tables
entry_missing = refl

pub entry_surplus : lengths.checked (listing (0 ∷ 0 ∷ 14 ∷ 5 ∷ 0 ∷ 16 ∷ 7 ∷ 0 ∷ 12 ∷ [])) 92 ≡ differing 2 90 (says 7 12) None
unfolding length_tables
entry_surplus = refl

-- ---- * No TLM segment; one without entries: differs at 0.

pub no_segment : lengths.checked (with_tlm []) 59 ≡ differing 0 45 None (says 0 14)
unfolding length_tables
no_segment = refl

pub no_entries : lengths.checked (with_tlm (tlm 0 [])) 65 ≡ differing 0 51 None (says 0 14)
unfolding length_tables
no_entries = refl

-- ---- * Two segments of the same Ztlm: 32 at the second; of two: none. The third repeats the first: at the third. Two that repeat: at the first of them.

pub same_ztlm : lengths.checked (lean (tlm_of 0 0 [] ++ tlm_of 0 0 []) (sot 0 12)) 30 ≡ refuses TlmNumberRepeated 12
unfolding length_tables
same_ztlm = refl

pub other_ztlm : lengths.checked (lean (tlm_of 0 0 [] ++ tlm_of 1 0 []) (sot 0 12)) 30 ≡ differing 0 18 None (says 0 12)
unfolding length_tables
other_ztlm = refl

pub third_repeats : lengths.checked (lean (tlm_of 0 0 [] ++ tlm_of 1 0 [] ++ tlm_of 0 0 []) (sot 0 12)) 36 ≡ refuses TlmNumberRepeated 18
unfolding length_tables
third_repeats = refl

pub first_that_repeats : lengths.checked (lean (tlm_of 0 0 [] ++ tlm_of 0 0 [] ++ tlm_of 1 0 [] ++ tlm_of 1 0 []) (sot 0 12)) 42 ≡ refuses TlmNumberRepeated 12
unfolding length_tables
first_that_repeats = refl

-- ---- * The same Ztlm, and no SOT; a segment behind it that is cut: 6; 3. A tile-part that passes the end; an SOT that is cut: 32; of two Ztlm 9; 7.

pub six_before_32 : lengths.checked (lean (tlm_of 0 0 [] ++ tlm_of 0 0 []) []) 18 ≡ refuses NoTilePart 18
unfolding length_tables
six_before_32 = refl

pub three_before_32 : lengths.checked (lean (tlm_of 0 0 [] ++ tlm_of 0 0 []) (two 0xff64 ++ two 4)) 22 ≡ refuses SegmentPastEnd 18
unfolding length_tables
three_before_32 = refl

pub thirty_two_before_9 : lengths.checked (lean (tlm_of 0 0 [] ++ tlm_of 0 0 []) (sot 0 13)) 30 ≡ refuses TlmNumberRepeated 12
unfolding length_tables
thirty_two_before_9 = refl

pub nine_of_two : lengths.checked (lean (tlm_of 0 0 [] ++ tlm_of 1 0 []) (sot 0 13)) 30 ≡ refuses TilePartPastEnd 18
unfolding length_tables
nine_of_two = refl

pub thirty_two_before_7 : lengths.checked (lean (tlm_of 0 0 [] ++ tlm_of 0 0 []) (two SOT)) 20 ≡ refuses TlmNumberRepeated 12
unfolding length_tables
thirty_two_before_7 = refl

pub seven_of_two : lengths.checked (lean (tlm_of 0 0 [] ++ tlm_of 1 0 []) (two SOT)) 20 ≡ refuses TilePartCutShort 18
unfolding length_tables
seven_of_two = refl

-- ---- * An entry that differs, and behind it a tile-part that passes the end: 9 there.

pub nine_behind : lengths.checked (lean (tlm_of 0 0 (0 ∷ 13 ∷ [])) (sot 0 12 ++ sot 0 13)) 38 ≡ refuses TilePartPastEnd 26
unfolding length_tables
nine_behind = refl

-- ---- * An entry of tile 9 in the first segment, and in the second the one that stands there: differs at 0, and does not go on in the second.

pub stops_in_the_first : lengths.checked (lean (tlm_of 0 0x10 (9 ∷ 0 ∷ 12 ∷ []) ++ tlm_of 1 0x10 (0 ∷ 0 ∷ 12 ∷ [])) (sot 0 12)) 36 ≡ differing 0 24 (says 9 12) (says 0 12)
unfolding length_tables
stops_in_the_first = refl

-- ---- * Two segments of one entry each, of which the second differs: at 1, counted over both.

pub counted_over_both : lengths.checked (lean (tlm_of 0 0x10 (0 ∷ 0 ∷ 12 ∷ []) ++ tlm_of 1 0x10 (9 ∷ 0 ∷ 12 ∷ [])) (sot 0 12 ++ sot 0 12)) 48 ≡ differing 1 36 (says 9 12) (says 0 12)
unfolding length_tables
counted_over_both = refl

-- ---- * Two segments of one length without an index, 12 with Ztlm 1 and 13 with Ztlm 0, before parts of 13 and 12: passes; their Ztlm swapped: differs at 0.

pub by_ztlm : lengths.checked (lean (tlm_of 1 0 (0 ∷ 12 ∷ []) ++ tlm_of 0 0 (0 ∷ 13 ∷ [])) (sot 0 13 ++ (0 ∷ sot 1 12))) 47 ≡ Ok None
unfolding length_tables
by_ztlm = refl

pub by_file_order : lengths.checked (lean (tlm_of 0 0 (0 ∷ 12 ∷ []) ++ tlm_of 1 0 (0 ∷ 13 ∷ [])) (sot 0 13 ++ (0 ∷ sot 1 12))) 47 ≡ differing 0 22 (says 0 12) (says 0 13)
unfolding length_tables
by_file_order = refl

-- ---- * Without an index; with index 7; without: numbered 0, 7, 1 in the order of Ztlm, which is the file's in reverse.

pub numbered_by_ztlm : lengths.checked (lean (tlm_of 9 0 (0 ∷ 12 ∷ []) ++ tlm_of 8 0x10 (7 ∷ 0 ∷ 13 ∷ []) ++ tlm_of 4 0 (0 ∷ 14 ∷ [])) (part 0 14 [] ++ sot 7 13 ++ (0 ∷ sot 1 12))) 70 ≡ Ok None
unfolding length_tables
numbered_by_ztlm = refl

-- ---- * 5 entries without an index with Ztlm 2, then two segments of 32,765 with Ztlm 0 and 1, then an SOT that is cut: 7. 6 entries: 26 at the first in the
-- file. 6 with Ztlm 0, as the next: 32 at that.

pub check_65535 : let s = up_to_sot standard.siz (segments 2 0 1 32_765 5) [] in lengths.checked s (length s) ≡ refuses TilePartCutShort 131_133
check_65535 = table.check_fits 2 0 1 32_765 5 (omega arith) (omega arith) (omega arith) (omega arith) (omega arith) (omega arith) (omega arith) (omega arith)

pub check_65536 : let s = up_to_sot standard.siz (segments 2 0 1 32_765 6) [] in lengths.checked s (length s) ≡ refuses TlmTooManyEntries 45
check_65536 = table.check_past 2 0 1 32_765 6 (omega arith) (omega arith) (omega arith) (omega arith) (omega arith) (omega arith) (omega arith) (omega arith) (omega arith)

pub thirty_two_before_26 : let s = up_to_sot standard.siz (segments 0 0 1 32_765 6) [] in lengths.checked s (length s) ≡ refuses TlmNumberRepeated 63
thirty_two_before_26 = table.check_repeated 0 0 1 32_765 6 (omega arith) (omega arith) (omega arith) (omega arith) (omega arith) refl

-- ---- * Psot 0: to the codestream's end. With EOC the table, which leaves it out, differs; without it passes.

pub eoc_counted : lengths.checked (lean (tlm_of 0 0 (0 ∷ 12 ∷ [])) (sot 0 0 ++ two EOC)) 28 ≡ differing 0 14 (says 0 12) (says 0 14)
unfolding length_tables
eoc_counted = refl

pub no_eoc : lengths.checked (lean (tlm_of 0 0 (0 ∷ 12 ∷ [])) (sot 0 0)) 26 ≡ Ok None
unfolding length_tables
no_eoc = refl

-- ---- * Split of a part with Psot 14 and 11 more bytes: one part.

pub eleven_more : parts_of (part 0 14 [] ++ zeros 11) ≡ part 0 14 [] ∷ []
unfolding split_runs
eleven_more = refl

-- ---- * JP2 signature only: 14 at 12. Then jp2c of length 8: empty content; 7: refusal CodestreamBoxTooShort.

pub signature_only : found_in signature ≡ Err (refusal NoCodestreamBox 12)
unfolding searches
signature_only = refl

pub jp2c_8 : found_in (signature ++ jp2c 8) ≡ Ok (codestream (record { 0 = 20 }) 0)
unfolding searches
jp2c_8 = refl

pub jp2c_7 : found_in (signature ++ jp2c 7) ≡ Err (refusal CodestreamBoxTooShort 12)
unfolding searches
jp2c_7 = refl

-- ---- * Boxes of no byte: none, accepted. Of 1, and of 7: 27. Of 8 with length 8: one; 9: 27.

pub boxes_0 : boxes_of [] ≡ boxes []
unfolding box_trees
boxes_0 = refl

pub boxes_1 : boxes_of (zeros 1) ≡ unlisted BoxDoesNotFit 0
unfolding box_trees
boxes_1 = refl

pub boxes_7 : boxes_of (zeros 7) ≡ unlisted BoxDoesNotFit 0
unfolding box_trees
boxes_7 = refl

pub box_8 : boxes_of (box_head 8 UUID) ≡ boxes (listed_as 1 UUID 0 8 0 ∷ [])
unfolding box_trees
box_8 = refl

pub box_9 : boxes_of (box_head 9 UUID) ≡ unlisted BoxDoesNotFit 0
unfolding box_trees
box_9 = refl

-- ---- * A box, and behind it 1 byte; 7: 27 there. In jp2h likewise, also where the file goes on behind it. A jp2h that its box fills.

pub left_1 : boxes_of (box UUID [] ++ zeros 1) ≡ unlisted BoxDoesNotFit 8
unfolding box_trees
left_1 = refl

pub left_7 : boxes_of (box UUID [] ++ zeros 7) ≡ unlisted BoxDoesNotFit 8
unfolding box_trees
left_7 = refl

pub held_1 : boxes_of (box JP2H (zeros 1)) ≡ unlisted BoxDoesNotFit 8
unfolding box_trees
held_1 = refl

pub held_7 : boxes_of (box JP2H (zeros 7) ++ box UUID []) ≡ unlisted BoxDoesNotFit 8
unfolding box_trees
held_7 = refl

pub held_8 : boxes_of (box JP2H (box UUID [])) ≡ boxes (listed_as 1 JP2H 0 8 8 ∷ listed_as 2 UUID 8 16 0 ∷ [])
unfolding box_trees
held_8 = refl

-- ---- * Length 1 with 8 bytes left; 15: 13. With 16, and XLBox 16: an empty box. In jp2h likewise, whose end counts and not the file's.

pub xlbox_8 : boxes_of (box_head 1 UUID) ≡ unlisted BoxCutShort 0
unfolding box_trees
xlbox_8 = refl

pub xlbox_15 : boxes_of (take 15 (long_head 16 UUID)) ≡ unlisted BoxCutShort 0
unfolding box_trees
xlbox_15 = refl

pub xlbox_16 : boxes_of (long_head 16 UUID) ≡ boxes (listed_as 1 UUID 0 16 0 ∷ [])
unfolding box_trees
xlbox_16 = refl

pub held_xlbox_8 : boxes_of (box JP2H (box_head 1 UUID) ++ box UUID []) ≡ unlisted BoxCutShort 8
unfolding box_trees
held_xlbox_8 = refl

pub held_xlbox_15 : boxes_of (box JP2H (take 15 (long_head 16 UUID)) ++ box UUID []) ≡ unlisted BoxCutShort 8
unfolding box_trees
held_xlbox_15 = refl

pub held_xlbox_16 : boxes_of (box JP2H (long_head 16 UUID) ++ box UUID []) ≡ boxes (listed_as 1 JP2H 0 8 16 ∷ listed_as 2 UUID 8 24 0 ∷ listed_as 1 UUID 24 32 0 ∷ [])
unfolding box_trees
held_xlbox_16 = refl

-- ---- * Length 2; 7: 28; 8 is accepted above. XLBox 0; 15: 28; 16 is accepted above. XLBox 24 of a jp2h that holds a box: its content starts at 16.

pub length_2 : boxes_of (box_head 2 UUID) ≡ unlisted BoxLengthWrong 0
unfolding box_trees
length_2 = refl

pub length_7 : boxes_of (box_head 7 UUID) ≡ unlisted BoxLengthWrong 0
unfolding box_trees
length_7 = refl

pub xlbox_says_0 : boxes_of (long_head 0 UUID) ≡ unlisted BoxLengthWrong 0
unfolding box_trees
xlbox_says_0 = refl

pub xlbox_says_15 : boxes_of (long_head 15 UUID) ≡ unlisted BoxLengthWrong 0
unfolding box_trees
xlbox_says_15 = refl

pub xlbox_opened : boxes_of (long_head 24 JP2H ++ box UUID []) ≡ boxes (listed_as 1 JP2H 0 16 8 ∷ listed_as 2 UUID 16 24 0 ∷ [])
unfolding box_trees
xlbox_opened = refl

-- ---- * Length 0 at the top: to the end of the file, of a box or of a superbox, which is opened. Below the top 28, also in a jp2h of length 0.

pub to_the_end : boxes_of (box_head 0 JP2C ++ (1 ∷ 2 ∷ [])) ≡ boxes (listed_as 1 JP2C 0 8 2 ∷ [])
unfolding box_trees
to_the_end = refl

pub opened_to_the_end : boxes_of (box_head 0 JP2H ++ box UUID []) ≡ boxes (listed_as 1 JP2H 0 8 8 ∷ listed_as 2 UUID 8 16 0 ∷ [])
unfolding box_trees
opened_to_the_end = refl

pub length_0_below : boxes_of (box JP2H (box_head 0 UUID)) ≡ unlisted BoxLengthWrong 8
unfolding box_trees
length_0_below = refl

pub length_0_twice : boxes_of (box_head 0 JP2H ++ box_head 0 UUID) ≡ unlisted BoxLengthWrong 8
unfolding box_trees
length_0_twice = refl

-- ---- * XLBox 2^64-1 at 0: 27, as it passes the file alone; at 8: 16. At 8 with 2^64-8: 16; 2^64-9: 27.

pub most_at_0 : boxes_of (long_head 0xffff_ffff_ffff_ffff UUID) ≡ unlisted BoxDoesNotFit 0
unfolding box_trees
most_at_0 = refl

pub most_at_8 : boxes_of (box UUID [] ++ long_head 0xffff_ffff_ffff_ffff UUID) ≡ unlisted BoxTooLong 8
unfolding box_trees
most_at_8 = refl

pub passes_64 : boxes_of (box UUID [] ++ long_head 0xffff_ffff_ffff_fff8 UUID) ≡ unlisted BoxTooLong 8
unfolding box_trees
passes_64 = refl

pub reaches_64 : boxes_of (box UUID [] ++ long_head 0xffff_ffff_ffff_fff7 UUID) ≡ unlisted BoxDoesNotFit 8
unfolding box_trees
reaches_64 = refl

-- ---- * A box that ends one byte past its jp2h, in the file or at its end: 27 at the box; where its jp2h ends: accepted, above.

pub past_its_parent : boxes_of (box JP2H (box_head 9 UUID) ++ box UUID []) ≡ unlisted BoxDoesNotFit 8
unfolding box_trees
past_its_parent = refl

pub past_both : boxes_of (box JP2H (box_head 9 UUID)) ≡ unlisted BoxDoesNotFit 8
unfolding box_trees
past_both = refl

-- ---- * Eight superboxes, one in the other, the innermost empty, also by XLBox: eight boxes. With a byte in the innermost, and nine: 29 at the eighth. Seven around a uuid.

pub eight_deep : map (λ e. e.depth) (entries_of (boxes_of (nest 8 []))) ≡ 1 ∷ 2 ∷ 3 ∷ 4 ∷ 5 ∷ 6 ∷ 7 ∷ 8 ∷ []
unfolding box_trees
eight_deep = refl

pub eight_by_xlbox : tree.listed (nest 7 (long_head 16 JP2H)) 8 ≡ Ok 8
unfolding box_trees
eight_by_xlbox = refl

pub eight_with_content : boxes_of (nest 8 (zeros 1)) ≡ unlisted BoxesTooDeep 56
unfolding box_trees
eight_with_content = refl

pub nine_deep : boxes_of (nest 9 []) ≡ unlisted BoxesTooDeep 56
unfolding box_trees
nine_deep = refl

pub uuid_at_8 : tree.listed (nest 7 (box UUID (zeros 1))) 8 ≡ Ok 8
unfolding box_trees
uuid_at_8 = refl

-- ---- * A uuid that holds the bytes of a jp2h, or of no box: one box. uinf and res hold boxes: res in jp2h one at depth 3.

pub uuid_shut : boxes_of (box UUID (box JP2H [])) ≡ boxes (listed_as 1 UUID 0 8 8 ∷ [])
unfolding box_trees
uuid_shut = refl

pub uuid_any : boxes_of (box UUID (zeros 1)) ≡ boxes (listed_as 1 UUID 0 8 1 ∷ [])
unfolding box_trees
uuid_any = refl

pub uinf_opened : boxes_of (box UINF (box ULST (1 ∷ []))) ≡ boxes (listed_as 1 UINF 0 8 9 ∷ listed_as 2 ULST 8 16 1 ∷ [])
unfolding box_trees
uinf_opened = refl

pub resc_at_3 : boxes_of (box JP2H (box RES (box RESC (1 ∷ [])))) ≡ boxes (listed_as 1 JP2H 0 8 17 ∷ listed_as 2 RES 8 16 9 ∷ listed_as 3 RESC 16 24 1 ∷ [])
unfolding box_trees
resc_at_3 = refl

-- ---- * jp2h that holds ihdr and an empty res, then jp2c: in file order, at depths 1, 2, 2, 1.

pub in_file_order : boxes_of (box JP2H (box IHDR (7 ∷ 7 ∷ []) ++ box RES []) ++ box JP2C (1 ∷ []))
    ≡ boxes (listed_as 1 JP2H 0 8 18 ∷ listed_as 2 IHDR 8 16 2 ∷ listed_as 2 RES 18 26 0 ∷ listed_as 1 JP2C 26 34 1 ∷ [])
unfolding box_trees
in_file_order = refl

-- ---- * 13 before 28 and 27: length 1 with 15 bytes left in its jp2h, where the file goes on so that XLBox is 15; 32. 28 before 27: length 0 below the top, where
-- the file goes on. 16 before 27 is above.

pub thirteen_before_28 : boxes_of (box JP2H (take 15 (long_head 15 UUID)) ++ (15 ∷ box UUID [])) ≡ unlisted BoxCutShort 8
unfolding box_trees
thirteen_before_28 = refl

pub thirteen_before_27 : boxes_of (box JP2H (take 15 (long_head 32 UUID)) ++ (32 ∷ zeros 16)) ≡ unlisted BoxCutShort 8
unfolding box_trees
thirteen_before_27 = refl

pub twenty_eight_before_27 : boxes_of (box JP2H (box_head 0 UUID) ++ box UUID []) ≡ unlisted BoxLengthWrong 8
unfolding box_trees
twenty_eight_before_27 = refl

-- ---- * 28, 16 and 27 before 29: at depth 8 a jp2h with content, of length 0; with XLBox 2^64-1; that ends one byte past what holds it.

pub twenty_eight_before_29 : boxes_of (nest 7 (box_head 0 JP2H ++ zeros 1)) ≡ unlisted BoxLengthWrong 56
unfolding box_trees
twenty_eight_before_29 = refl

pub sixteen_before_29 : boxes_of (nest 7 (long_head 0xffff_ffff_ffff_ffff JP2H)) ≡ unlisted BoxTooLong 56
unfolding box_trees
sixteen_before_29 = refl

pub twenty_seven_before_29 : boxes_of (nest 7 (box_head 9 JP2H)) ≡ unlisted BoxDoesNotFit 56
unfolding box_trees
twenty_seven_before_29 = refl

-- ---- * What a superbox holds before what stands behind it: length 2 in jp2h, and behind it 1 byte: 28 at 8. Length 8: 27 at 16.

pub inner_first : boxes_of (box JP2H (box_head 2 UUID) ++ zeros 1) ≡ unlisted BoxLengthWrong 8
unfolding box_trees
inner_first = refl

pub then_behind : boxes_of (box JP2H (box_head 8 UUID) ++ zeros 1) ≡ unlisted BoxDoesNotFit 16
unfolding box_trees
then_behind = refl

-- ---- * 18 last: 8 boxes and 8 rows; 7: 18 with 8. No row: for no box accepted, for a file that is refused 27.

pub eight_rows : tree.listed (nest 8 []) 8 ≡ Ok 8
unfolding box_trees
eight_rows = refl

pub seven_rows : tree.listed (nest 8 []) 7 ≡ Err (refusal TableTooSmall 8)
unfolding box_trees
seven_rows = refl

pub none_into_none : tree.listed [] 0 ≡ Ok 0
unfolding box_trees
none_into_none = refl

pub eighteen_last : tree.listed (box UUID [] ++ zeros 1) 0 ≡ Err (refusal BoxDoesNotFit 8)
unfolding box_trees
eighteen_last = refl

-- ---- * One box into a table of 28 bytes, which has no row: 18, and nothing is written; 29: its row. Two into 60: their rows, and 2 bytes as they were. Where it refuses any table
-- is left as it was.

pub no_row_for_one : tree.listed (box UUID []) 0 ≡ Err (refusal TableTooSmall 1)
unfolding box_trees
no_row_for_one = refl

pub table_28 : tree.listed_table (box UUID []) (replicate 28 7) ≡ replicate 28 7
unfolding box_trees
table_28 = refl

pub table_29 : tree.listed_table (box UUID []) (replicate 29 7) ≡ (1 ∷ 0x75 ∷ 0x75 ∷ 0x69 ∷ 0x64 ∷ zeros 8) ++ (zeros 7 ++ (8 ∷ zeros 8))
unfolding box_trees
table_29 = refl

pub table_60 : tree.listed_table (box JP2H (box IHDR (5 ∷ []))) (replicate 60 7)
    ≡ (1 ∷ 0x6a ∷ 0x70 ∷ 0x32 ∷ 0x68 ∷ zeros 8) ++ (zeros 7 ++ (8 ∷ (zeros 7 ++ (9 ∷ []))))
    ++ ((2 ∷ 0x69 ∷ 0x68 ∷ 0x64 ∷ 0x72 ∷ zeros 7) ++ (8 ∷ (zeros 7 ++ (16 ∷ (zeros 7 ++ (1 ∷ []))))))
    ++ (7 ∷ 7 ∷ [])
unfolding box_trees
table_60 = refl

pub table_kept : (rows : List ℕ) → tree.listed_table (box UUID [] ++ zeros 1) rows ≡ rows
unfolding box_trees
table_kept rows = refl

-- ---- * A with XOsiz 1, XTsiz 2^32-1, Xsiz 2, tile 0: refusal TileOutside by the original's rule. By Annex B, which has no such bound, 1 wide and 4 high.

pub past_32 : tile_size Original (header 2 6 1 0 0xffffffff 4) 0 ≡ Err (refusal TileOutside 2)
unfolding tiles
past_32 = refl

pub past_32_annex : tile_size AnnexB (header 2 6 1 0 0xffffffff 4) 0 ≡ Ok (Some (from_zero 1 4))
unfolding tiles
past_32_annex = refl

-- ---- Codestream of 65,536 bytes: no enlargement; of 65,537 with no SOT: one.

pub region_65536 : (s : List ℕ) → length s ≤ 65536 → grown s ≡ record { region = length s; enlargements = 0 }
unfolding grown
region_65536 s h =
    let whole : region_at (length s) 0 ≡ length s = region_pow (length s) 0 ∙ omega arith in
    grown_end s 0 (whole_suffices s _ whole) ∙ (λ i. record { region = whole i; enlargements = 0 })

-- no SOT in the first region
pub region_65537 : (s : List ℕ) → length s ≡ 65537 → extent_of (take 65536 s) ≡ None → grown s ≡ record { region = 65537; enlargements = 1 }
unfolding grown
region_65537 s h t =
    let first : region_at (length s) 0 ≡ 65536 = region_pow (length s) 0 ∙ omega arith in
    let second : region_at (length s) 1 ≡ 65537 = region_pow (length s) 1 ∙ omega arith in
    grown_on s 0 (rw first (truncated_not s 65536 (λ e. omega arith) t))
    ∙ grown_end s 1 (whole_suffices s _ (second ∙ sym h))
    ∙ (λ i. record { region = second i; enlargements = 1 })

-- ---- First SOT at 65,534 or before: no enlargement; at 65,535: one.

pub sot_65534 : (s : List ℕ) (at : CodestreamOffset) → extent_of s ≡ Some at → at.0 ≤ 65534 → grown s ≡ record { region = min 65536 (length s); enlargements = 0 }
unfolding enough enough_of
sot_65534 s at e h =
    let first : region_at (length s) 0 ≡ min 65536 (length s) = region_pow (length s) 0 ∙ omega arith in
    let bytes : enough s ≡ at.0 + 2 = ap (enough_of (length s)) e in
    let inside = (complete_reached s at e).inside in
    grown_only s 0 (record { has = omega (arith, first, bytes, inside); none = λ j l. absurd (omega arith) })
    ∙ (λ i. record { region = first i; enlargements = 0 })

pub sot_65535 : (s : List ℕ) → extent_of s ≡ Some (record { 0 = 65535 }) → grown s ≡ record { region = min 131072 (length s); enlargements = 1 }
unfolding enough enough_of
sot_65535 s e =
    let first : region_at (length s) 0 ≡ min 65536 (length s) = region_pow (length s) 0 ∙ omega arith in
    let second : region_at (length s) 1 ≡ min 131072 (length s) = region_pow (length s) 1 ∙ omega arith in
    let bytes : enough s ≡ 65537 = ap (enough_of (length s)) e in
    let inside = (complete_reached s (record { 0 = 65535 }) e).inside in
    grown_only s 1
    (record {
      has = omega (arith, second, bytes, inside);
      none = λ j l. let zeroth : j ≡ 0 = omega arith in omega (arith, ap (region_at (length s)) zeroth, first, bytes);
    })
    ∙ (λ i. record { region = second i; enlargements = 1 })

-- an accepted check of a count, and a component that is found
abbrev checked : ℕ → Area → Result Components Refusal
checked count a = Ok (record { count = count; area = a })

abbrev given : ℕ → Bool → ℕ → ℕ → Area → Result (Option ComponentInfo) Refusal
given bits signed xr yr a = Ok (Some (record { bits = bits; is_signed = signed; xrsiz = xr; yrsiz = yr; area = a }))

-- ---- * No byte; three bytes of A; four, which end with the marker of SIZ: 1, 2, 3.

pub no_soc : components_read [] ≡ Err (refusal NoSoc 0)
unfolding components
no_soc = refl

pub no_siz : components_read (take 3 A) ≡ Err (refusal NoSiz 2)
unfolding components
no_siz = refl

pub no_length : components_read (take 4 A) ≡ Err (refusal SegmentPastEnd 2)
unfolding components
no_length = refl

-- ---- * A, its first 44 bytes: 3. Its first 45: one component, 10 by 6.

pub siz_cut : components_read (take 44 A) ≡ Err (refusal SegmentPastEnd 2)
unfolding components
siz_cut = refl

pub siz_whole_lem : components_read (take 45 A) ≡ checked 1 (area 0 0 10 6)
unfolding components
siz_whole_lem = refl

-- ---- * Lsiz 40: 24. 41 of one component is A's.

pub lsiz_40 : components_read (counting 40 0 0 1 (7 ∷ 1 ∷ [])) ≡ Err (refusal ComponentsNotHeld 2)
unfolding components
lsiz_40 = refl

pub lsiz_41 : components_read (counting 41 0 0 1 (7 ∷ 1 ∷ 1 ∷ [])) ≡ checked 1 (area 0 0 10 6)
unfolding components
lsiz_41 = refl

-- no component
pub csiz_0 : components_read (counting 38 0 0 0 []) ≡ Err (refusal ComponentsNotHeld 2)
unfolding components
csiz_0 = refl

-- ---- * Csiz 2 with Lsiz 41: 24; with 44: accepted.

pub csiz_2_short : components_read (counting 41 0 0 2 (7 ∷ 1 ∷ 1 ∷ [])) ≡ Err (refusal ComponentsNotHeld 2)
unfolding components
csiz_2_short = refl

pub csiz_2 : components_read (counting 44 0 0 2 (7 ∷ 1 ∷ 1 ∷ 7 ∷ 2 ∷ 2 ∷ [])) ≡ checked 2 (area 0 0 10 6)
unfolding components
csiz_2 = refl

-- ---- * XRsiz or YRsiz 0, of the first component or of the last: 25; 1: accepted, as A.

pub xrsiz_0 : components_read (counting 41 0 0 1 (7 ∷ 0 ∷ 1 ∷ [])) ≡ Err (refusal SubsamplingOf0 2)
unfolding components
xrsiz_0 = refl

pub yrsiz_0 : components_read (counting 41 0 0 1 (7 ∷ 1 ∷ 0 ∷ [])) ≡ Err (refusal SubsamplingOf0 2)
unfolding components
yrsiz_0 = refl

pub last_yrsiz_0 : components_read (counting 44 0 0 2 (7 ∷ 1 ∷ 1 ∷ 7 ∷ 1 ∷ 0 ∷ [])) ≡ Err (refusal SubsamplingOf0 2)
unfolding components
last_yrsiz_0 = refl

-- ---- * XOsiz one past Xsiz, YOsiz one past Ysiz: 22. Equal: an image without a column.

pub xosiz_11 : components_read (counting 41 11 0 1 (7 ∷ 1 ∷ 1 ∷ [])) ≡ Err (refusal ImageEndsBeforeItStarts 2)
unfolding components
xosiz_11 = refl

pub yosiz_7 : components_read (counting 41 0 7 1 (7 ∷ 1 ∷ 1 ∷ [])) ≡ Err (refusal ImageEndsBeforeItStarts 2)
unfolding components
yosiz_7 = refl

pub xosiz_10 : components_read (counting 41 10 0 1 (7 ∷ 1 ∷ 1 ∷ [])) ≡ checked 1 (area 10 0 10 6)
unfolding components
xosiz_10 = refl

-- ---- * A in tile 5: from 8, 4 to 10, 6. In tile 6: 31, and 10 by the original's rule.

pub in_tile_5 : (rule : Rule) → components_in_tile rule A 5 ≡ checked 1 (area 8 4 10 6)
unfolding components
in_tile_5 AnnexB = refl
in_tile_5 Original = refl
in_tile_5 InPlace = refl

pub in_tile_6 : components_in_tile AnnexB A 6 ≡ Err (refusal NoSuchTile 2)
unfolding components
in_tile_6 = refl

pub in_tile_6_original : components_in_tile Original A 6 ≡ Err (refusal TileOutside 2)
unfolding components
in_tile_6_original = refl

-- ---- * A, component 0: 8 bits, 10 by 6. Component 1, and 2^64-1: no such.

pub component_0 : component_of A 0 ≡ given 8 false 1 1 (area 0 0 10 6)
unfolding components
component_0 = refl

pub component_1 : component_of A 1 ≡ Ok None
unfolding components
component_1 = refl

pub component_most : component_of A 0xffffffffffffffff ≡ Ok None
unfolding components
component_most = refl

-- ---- * XRsiz 4, from 1 to 10: from 1 to 3, two columns, as both ends are divided; a width of 9 divided would be three. YRsiz 2: three rows, in
-- tile 1 two. Tile 1 starts at 4, and by the original's rule at 5.

pub both_ends : component_of (counting 41 1 0 1 (7 ∷ 4 ∷ 2 ∷ [])) 0 ≡ given 8 false 4 2 (area 1 0 3 3)
unfolding components
both_ends = refl

pub both_ends_tile : component_in_tile AnnexB (counting 41 1 0 1 (7 ∷ 4 ∷ 2 ∷ [])) 1 0 ≡ given 8 false 4 2 (area 1 0 2 2)
unfolding components
both_ends_tile = refl

pub both_ends_original : component_in_tile Original (counting 41 1 0 1 (7 ∷ 4 ∷ 2 ∷ [])) 1 0 ≡ given 8 false 4 2 (area 2 0 3 2)
unfolding components
both_ends_original = refl

-- ---- * Ssiz 37: 38 bits, the standard's most. 38: 39 bits. 255: 128 bits and a sign.

pub ssiz_37 : component_of (counting 41 0 0 1 (37 ∷ 1 ∷ 1 ∷ [])) 0 ≡ given 38 false 1 1 (area 0 0 10 6)
unfolding components
ssiz_37 = refl

pub ssiz_38 : component_of (counting 41 0 0 1 (38 ∷ 1 ∷ 1 ∷ [])) 0 ≡ given 39 false 1 1 (area 0 0 10 6)
unfolding components
ssiz_38 = refl

pub ssiz_255 : component_of (counting 41 0 0 1 (255 ∷ 1 ∷ 1 ∷ [])) 0 ≡ given 128 true 1 1 (area 0 0 10 6)
unfolding components
ssiz_255 = refl

-- ---- * 3 before 24, 24 before 25, 25 before 22, 22 before 30, 31 and 10, and these before no such component.

pub three_first : components_read (counting 40 0 0 1 (7 ∷ [])) ≡ Err (refusal SegmentPastEnd 2)
unfolding components
three_first = refl

pub twenty_four_first : components_read (counting 44 0 0 1 (7 ∷ 0 ∷ 0 ∷ 7 ∷ 0 ∷ 0 ∷ [])) ≡ Err (refusal ComponentsNotHeld 2)
unfolding components
twenty_four_first = refl

pub twenty_five_first : components_read (counting 41 11 0 1 (7 ∷ 0 ∷ 1 ∷ [])) ≡ Err (refusal SubsamplingOf0 2)
unfolding components
twenty_five_first = refl

pub twenty_two_first : (rule : Rule) → components_in_tile rule (counting 41 11 0 1 (7 ∷ 1 ∷ 1 ∷ [])) 6 ≡ Err (refusal ImageEndsBeforeItStarts 2)
unfolding components
twenty_two_first AnnexB = refl
twenty_two_first Original = refl
twenty_two_first InPlace = refl

pub ten_first : component_in_tile Original A 6 1 ≡ Err (refusal TileOutside 2)
unfolding components
ten_first = refl

pub thirty_one_first : component_in_tile AnnexB A 6 1 ≡ Err (refusal NoSuchTile 2)
unfolding components
thirty_one_first = refl

pub thirty_before_none : component_in_tile AnnexB (header 10 6 10 0 4 4) 0 1 ≡ Err (refusal NoGrid 2)
unfolding components
thirty_before_none = refl

-- what Annex B tells of a tile of SIZ with an Xsiz, XOsiz, XTsiz and XTOsiz, 1 high in tiles of 1; and of one so many high, 1 wide
abbrev across : ℕ → ℕ → ℕ → ℕ → ℕ → Result (Option Area) Refusal
across x xo xt xto tile = tile_size AnnexB (grid x 1 xo 0 xt 1 xto 0) tile

abbrev down : ℕ → ℕ → ℕ → ℕ → ℕ → Result (Option Area) Refusal
down y yo yt yto tile = tile_size AnnexB (grid 1 y 0 yo 1 yt 0 yto) tile

abbrev no_grid : Result (Option Area) Refusal
no_grid = Err (refusal NoGrid 2)

-- ---- * XTOsiz 1 past XOsiz 0: 30. XOsiz 1: accepted. Down likewise.

pub xto_past : across 2 0 1 1 0 ≡ no_grid
unfolding tiles
xto_past = refl

pub xto_level : across 2 1 1 1 0 ≡ Ok None
unfolding tiles
xto_level = refl

pub yto_past : down 2 0 1 1 0 ≡ no_grid
unfolding tiles
yto_past = refl

pub yto_level : down 2 1 1 1 0 ≡ Ok None
unfolding tiles
yto_level = refl

-- ---- * XOsiz equal to Xsiz: 30. One less: accepted. Down likewise.

pub no_columns : across 1 1 2 0 0 ≡ no_grid
unfolding tiles
no_columns = refl

pub one_column : across 2 1 2 0 0 ≡ Ok (Some (from_zero 1 1))
unfolding tiles
one_column = refl

pub no_rows : down 1 1 2 0 0 ≡ no_grid
unfolding tiles
no_rows = refl

pub one_row : down 2 1 2 0 0 ≡ Ok (Some (from_zero 1 1))
unfolding tiles
one_row = refl

-- ---- * XTsiz 0: 30. 1: accepted. Down likewise.

pub xt_0 : across 1 0 0 0 0 ≡ no_grid
unfolding tiles
xt_0 = refl

pub xt_1 : across 1 0 1 0 0 ≡ Ok None
unfolding tiles
xt_1 = refl

pub yt_0 : down 1 0 0 0 0 ≡ no_grid
unfolding tiles
yt_0 = refl

pub yt_1 : down 1 0 1 0 0 ≡ Ok None
unfolding tiles
yt_1 = refl

-- ---- * XTOsiz + XTsiz equal to XOsiz: 30. One more: accepted, also where it is past 2^32-1. Down likewise.

pub reach_short : across 3 2 2 0 0 ≡ no_grid
unfolding tiles
reach_short = refl

pub reach_into : across 3 2 3 0 0 ≡ Ok (Some (from_zero 1 1))
unfolding tiles
reach_into = refl

pub reach_far : across 0xffffffff 0xfffffffe 0xffffffff 0xfffffffe 0 ≡ Ok (Some (from_zero 1 1))
unfolding tiles
reach_far = refl

pub reach_short_down : down 3 2 2 0 0 ≡ no_grid
unfolding tiles
reach_short_down = refl

pub reach_into_down : down 3 2 3 0 0 ≡ Ok (Some (from_zero 1 1))
unfolding tiles
reach_into_down = refl

-- ---- * The last tile of six; one more: 31. With 2^32 tiles, and with (2^32-1)^2, Isot 65,535 names one.

pub last_tile : tile_size AnnexB head 5 ≡ Ok (Some (from_zero 2 2))
unfolding tiles
last_tile = refl

pub past_last : tile_size AnnexB head 6 ≡ Err (refusal NoSuchTile 2)
unfolding tiles
past_last = refl

pub many_tiles : tile_size AnnexB (grid 0x10000 0x10000 0 0 1 1 0 0) 0xffff ≡ Ok None
unfolding tiles
many_tiles = refl

pub most_tiles : tile_size AnnexB (grid 0xffffffff 0xffffffff 0 0 1 1 0 0) 0xffff ≡ Ok None
unfolding tiles
most_tiles = refl

-- ---- * XTOsiz 0, XOsiz 3, Xsiz 10, XTsiz 4: tile 0 from 3 to 4, tile 1 from 4 to 8, tile 2 from 8 to 10. By the original's rule from 3 to 7, and from 7 to 10.

pub clipped_0 : components_in_tile AnnexB (grid 10 4 3 0 4 4 0 0) 0 ≡ checked 1 (area 3 0 4 4)
unfolding components
clipped_0 = refl

pub clipped_1 : components_in_tile AnnexB (grid 10 4 3 0 4 4 0 0) 1 ≡ checked 1 (area 4 0 8 4)
unfolding components
clipped_1 = refl

pub clipped_2 : components_in_tile AnnexB (grid 10 4 3 0 4 4 0 0) 2 ≡ checked 1 (area 8 0 10 4)
unfolding components
clipped_2 = refl

pub moved_0 : components_in_tile Original (grid 10 4 3 0 4 4 0 0) 0 ≡ checked 1 (area 3 0 7 4)
unfolding components
moved_0 = refl

pub moved_1 : components_in_tile Original (grid 10 4 3 0 4 4 0 0) 1 ≡ checked 1 (area 7 0 10 4)
unfolding components
moved_1 = refl

-- ---- * A header of 39 bytes, or of 40 with FF52 at 2: unchanged by every rule, whatever stands there; of 40: 30 where there is no grid.

pub bytes_39 : (rule : Rule) → tile_size rule (take 39 (grid 1 1 0 0 0 1 0 0)) 0 ≡ Ok None
unfolding tiles
bytes_39 AnnexB = refl
bytes_39 Original = refl
bytes_39 InPlace = refl

pub bytes_40_other : (rule : Rule) → tile_size rule (two SOC ++ (0xff ∷ 0x52 ∷ zeros 36)) 0 ≡ Ok None
unfolding tiles
bytes_40_other AnnexB = refl
bytes_40_other Original = refl
bytes_40_other InPlace = refl

pub bytes_40 : tile_size AnnexB (take 40 (grid 1 1 0 0 0 1 0 0)) 0 ≡ no_grid
unfolding tiles
bytes_40 = refl

-- ---- * 30 before 31: YTOsiz 1 past YOsiz 0, one column and one row, index 1. 30 and 31 before 17, and nothing is written.

pub thirty_first : tile_size AnnexB (grid 4 4 0 0 4 4 0 1) 1 ≡ no_grid
unfolding tiles
thirty_first = refl

pub thirty_one_alone : tile_size AnnexB (grid 4 4 0 1 4 4 0 1) 1 ≡ Err (refusal NoSuchTile 2)
unfolding tiles
thirty_one_alone = refl

pub thirty_short : rewrite_answer AnnexB (grid 4 4 0 0 4 4 0 1) 0 0 ≡ Err (refusal NoGrid 2)
unfolding tiles
thirty_short = refl

pub thirty_one_short : rewrite_answer AnnexB head 6 0 ≡ Err (refusal NoSuchTile 2)
unfolding tiles
thirty_one_short = refl

pub thirty_one_written : rewrite_out AnnexB head 6 (1 ∷ []) ≡ 1 ∷ []
unfolding tiles
thirty_one_written = refl

-- ---- beside the table: the order of refusals and what is left untouched

-- a table of one row and a byte: the row is written, the byte is not; with no row 18, and nothing
pub row_written : scanned_table (part 0 14 []) 0 (replicate 22 7) ≡ row_of (only 0 0 14) ++ (7 ∷ [])
unfolding scan_runs
row_written = refl

pub no_row : scanned (part 0 14 []) 0 0 ≡ Err (refusal TableTooSmall 1)
unfolding scan_runs
no_row = refl

-- one byte less than the assembly needs: 17
pub no_room : (rule : Rule) → assembly_answer rule head (lent 5) A 62 ≡ Err (refusal OutputTooSmall 63)
unfolding scan_runs tiles
no_room AnnexB = refl
no_room Original = refl
no_room InPlace = refl

-- 10 before 17, and nothing is written
pub tile_6_short : rewrite_out Original head 6 (1 ∷ []) ≡ 1 ∷ []
unfolding tiles
tile_6_short = refl

-- a range that passes the end chooses no tile, and does not stop the rest
pub dropped_first : (rule : Rule) → assembly_answer rule head (row_of (entry 5 73 17) ++ lent 0) A 61 ≡ Ok 61
unfolding scan_runs tiles
dropped_first AnnexB = refl
dropped_first Original = refl
dropped_first InPlace = refl

-- ---- beside the table: component sizes where the standard has others, or none (docs/DIFFERENCES.md, "Components")

-- an image without a column has no tile
pub no_column : components_in_tile AnnexB (header 10 6 10 0 4 4) 0 ≡ Err (refusal NoGrid 2)
unfolding components
no_column = refl

-- XRsiz 2 has no sample from 1 to 2
pub no_sample : component_of (two SOC ++ siz_of 41 2 1 1 0 2 1 1 (7 ∷ 2 ∷ 1 ∷ [])) 0 ≡ given 8 false 2 1 (area 1 0 1 1)
unfolding components
no_sample = refl

-- by the original's rule: XOsiz 1 and XTOsiz 0, where the first tile of the standard ends at 2
pub other_origin : components_in_tile Original (header 3 1 1 0 2 1) 0 ≡ checked 1 (area 1 0 3 1)
unfolding components
other_origin = refl

-- a seventh tile of six
pub past_grid : components_in_tile Original (header 10 8 0 0 4 4) 6 ≡ checked 1 (area 0 8 4 8)
unfolding components
past_grid = refl

-- ---- beside the table: where the SIZ reading stops

pub past_the_end : siz-reading.siz_read (0xff ∷ 0x4f ∷ 0xff ∷ 0x52 ∷ 0xff ∷ 0xff ∷ []) ≡ Err (refusal SizNotFound 65539)
unfolding siz_readings
past_the_end = refl

pub one_left : siz-reading.siz_read (0xff ∷ 0x4f ∷ 0 ∷ []) ≡ Err (refusal SizNotFound 2)
unfolding siz_readings
one_left = refl

pub nothing : siz-reading.siz_read [] ≡ Err (refusal SizNotFound 2)
unfolding siz_readings
nothing = refl
