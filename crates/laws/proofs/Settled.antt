-- Each entry point's contract settles its outcome: nothing is required, and of any two outcomes that it allows the answers and all that was lent are equal.
-- A function stands here by its path; its `ended` and `clauses` are made from its source, so what changes there changes here. In a proof e has an equation
-- of x and y for each `ensures`, in the source's order. They are put in the order of an outcome: the answer, then the parameters, `tt` where none is lent.
-- A function over a type has its theorem for every type that meets the bound; there nothing is required but that the type lives as long as the call.
use Prim.Native.Nat.{ℕ, ◌/◌, min}
use mathlib.Core.Path.{◌≡◌, refl}
use mathlib.Core.List.{List, [], ◌++◌}
use lib.ListN.{length, take, drop}
use Rattle.types.specs.contracts as types
use Rattle.header.specs.contracts as header
use Rattle.header.specs.Parse.{table_in, table_after, out_after}
use Rattle.parts.specs.contracts as parts
use Rattle.lengths.specs.contracts as lengths
use Rattle.types.specs.Row.{row_bytes, records_in}
use Rattle.index.specs.contracts as index
use Rattle.index.specs.Extend.{old_of, index_after, scratch_after, index_made}
use Rattle.index.specs.Entries.{entries_by, given_rows}
use Rattle.records.specs.contracts as records
use Rattle.records.specs.MainHeader.{records_after}
use Rattle.records.specs.Tables.{blank}
use Rattle.tile.specs.contracts as tile
use Rattle.reader.specs.contracts as reader
use Rattle.host.specs.contracts as host
use Rattle.probe.specs.contracts as probe
use mir.Syntax.{Dict}
use denote.RattleType.{RattleType}
use denote.Builtin.{u8}
use Rattle.std.specs.declared.clone.Clone
use Rattle.types.specs.declared.table.Element
use Rattle.settling.specs.Settles.{Settles, SettlesAs, SettlesOver}
use Rattle.settling.proofs.Settling.{last, beside, before, settles, by_one, by_first, over, anywhere}

-- ---- types

pub codestream_at : {M : Type 1} → Settles M types.CodestreamOffset.at.ended (λ 𝓤. types.CodestreamOffset.at.clauses)
codestream_at m κs a g = settles m (last m) λ x y e i. (record { 0 = e i }, x.1)

pub codestream_position : {M : Type 1} → Settles M types.CodestreamOffset.position.ended (λ 𝓤. types.CodestreamOffset.position.clauses)
codestream_position m κs a g = settles m (last m) λ x y e i. (e i, x.1)

pub file_position : {M : Type 1} → Settles M types.FileOffset.position.ended (λ 𝓤. types.FileOffset.position.clauses)
file_position m κs a g = settles m (last m) λ x y e i. (e i, x.1)

pub in_file_lem : {M : Type 1} → Settles M types.CodestreamOffset.in_file.ended (λ 𝓤. types.CodestreamOffset.in_file.clauses)
in_file_lem m κs a g = settles m (last m) λ x y e i. (e i, x.1)

pub in_codestream_lem : {M : Type 1} → Settles M types.FileOffset.in_codestream.ended (λ 𝓤. types.FileOffset.in_codestream.clauses)
in_codestream_lem m κs a g = settles m (last m) λ x y e i. (e i, x.1)

pub tell : {M : Type 1} → Settles M types.tell.ended (λ 𝓤. types.tell.clauses)
tell m κs a g = settles m (before m (last m)) λ x y e i. (e.0 i, (tt, (e.1 i, tt)))

pub refusal_number : {M : Type 1} → Settles M types.Refusal.number.ended (λ 𝓤. types.Refusal.number.clauses)
refusal_number m κs a g = settles m (last m) λ x y e i. (e i, x.1)

pub refuse : {M : Type 1} (T : RattleType) → SettlesOver M (types.refuse.ended T) (λ 𝓤. types.refuse.clauses T) T.lives
refuse T m κs a g = over m (settles m (last m) λ x y e i. (e i, x.1))

-- ---- header

pub main_header_extent : {M : Type 1} → Settles M header.extent.main_header_extent.ended (λ 𝓤. header.extent.main_header_extent.clauses)
main_header_extent m κs a g = settles m (last m) λ x y e i. (e i, x.1)

pub find_marker : {M : Type 1} → Settles M header.find.find_marker.ended (λ 𝓤. header.find.find_marker.clauses)
find_marker m κs a g = settles m (last m) λ x y e i. (e i, x.1)

pub numbering_of_lem : {M : Type 1} → Settles M header.numbering.NumberingFromU32.from.ended (λ 𝓤. header.numbering.NumberingFromU32.from.clauses)
numbering_of_lem m κs a g = settles m (last m) λ x y e i. (e i, x.1)

pub edition_of_lem : {M : Type 1} → Settles M header.edition.EditionFromU32.from.ended (λ 𝓤. header.edition.EditionFromU32.from.clauses)
edition_of_lem m κs a g = settles m (last m) λ x y e i. (e i, x.1)

pub reading_of_lem : {M : Type 1} → Settles M header.reading.ReadingFromReadingNumbers.from.ended (λ 𝓤. header.reading.ReadingFromReadingNumbers.from.clauses)
reading_of_lem m κs a g = settles m (last m) λ x y e i. (e i, x.1)

pub test_front : {M : Type 1} → Settles M header.parse.test_front.ended (λ 𝓤. header.parse.test_front.clauses)
test_front m κs a g = settles m (last m) λ x y e i. (e i, x.1)

pub header_decide : {M : Type 1} → Settles M header.parse.decide.ended (λ 𝓤. header.parse.decide.clauses)
header_decide m κs a g = settles m (last m) λ x y e i. (e i, x.1)

pub header_tell : {M : Type 1} → Settles M header.parse.tell.ended (λ 𝓤. header.parse.tell.clauses)
header_tell m κs a g = settles m (before m (before m (before m (before m (last m))))) λ x y e i. (e.0 i, (tt, (e.1.0 i, (e.1.1.0 i, (e.1.1.1.0 i, (e.1.1.1.1 i, tt))))))

pub parse_into : {M : Type 1} (E : RattleType) (element : Element.Ghosts E.Denot) (element_dict : Dict) (clone : Clone.Ghosts E.Denot) (clone_dict : Dict)
    → SettlesOver M (header.parse.parse_into.ended E element element_dict clone clone_dict) (λ 𝓤. header.parse.parse_into.clauses E element element_dict clone clone_dict) E.lives
parse_into E element element_dict clone clone_dict m κs a g =
    over m (by_first m (λ r. table_in element.layout a.1.0.numbering r a.0.now a.1.1.0.now) (λ r. out_after r a.0.now a.1.1.1.0.now) λ x y e i.
    (e.0 i, (tt, (tt, (e.1 i, (e.2 i, tt))))))

pub parse_main_header : {M : Type 1} → Settles M header.parse.parse_main_header.ended (λ 𝓤. header.parse.parse_main_header.clauses)
parse_main_header m κs a g =
    by_first m (λ r. table_after a.1.0.numbering r a.0.now a.1.1.0.now) (λ r. out_after r a.0.now a.1.1.1.0.now) λ x y e i.
    (e.0 i, (tt, (tt, (e.1 i, (e.2 i, tt)))))

-- ---- parts

pub scan_step : {M : Type 1} → Settles M parts.step.scan_step.ended (λ 𝓤. parts.step.scan_step.clauses)
scan_step m κs a g = settles m (last m) λ x y e i. (e i, x.1)

pub scan_judge : {M : Type 1} → Settles M parts.walk.judge.ended (λ 𝓤. parts.walk.judge.clauses)
scan_judge m κs a g = settles m (last m) λ x y e i. (e i, x.1)

pub parts_decide : {M : Type 1} → Settles M parts.walk.decide.ended (λ 𝓤. parts.walk.decide.clauses)
parts_decide m κs a g = settles m (beside m) λ x y e i. (e i, x.1)

pub scan_judged : {M : Type 1} (E : RattleType) (element : Element.Ghosts E.Denot) (element_dict : Dict) (clone : Clone.Ghosts E.Denot) (clone_dict : Dict)
    → SettlesOver M (parts.scan.scan_judged.ended E element element_dict clone clone_dict) (λ 𝓤. parts.scan.scan_judged.clauses E element element_dict clone clone_dict) E.lives
scan_judged E element element_dict clone clone_dict m κs a g =
    over m (settles m (before m (last m)) λ x y e i. (e.0 i, (tt, (tt, (e.1 i, tt)))))

pub scan_sot_markers : {M : Type 1} → Settles M parts.scan.scan_sot_markers.ended (λ 𝓤. parts.scan.scan_sot_markers.clauses)
scan_sot_markers m κs a g = settles m (before m (last m)) λ x y e i. (e.0 i, (tt, (tt, (e.1 i, tt))))

pub order_step_lem : {M : Type 1} → Settles M parts.order.order_step.ended (λ 𝓤. parts.order.order_step.clauses)
order_step_lem m κs a g = settles m (last m) λ x y e i. (e i, x.1)

pub order_end_lem : {M : Type 1} → Settles M parts.order.order_end.ended (λ 𝓤. parts.order.order_end.clauses)
order_end_lem m κs a g = settles m (last m) λ x y e i. (e i, x.1)

pub order_tell : {M : Type 1} → Settles M parts.order.tell.ended (λ 𝓤. parts.order.tell.clauses)
order_tell m κs a g = settles m (last m) λ x y e i. (e i, x.1)

pub in_order_lem : {M : Type 1} (E : RattleType) (element : Element.Ghosts E.Denot) (element_dict : Dict) (clone : Clone.Ghosts E.Denot) (clone_dict : Dict)
    → SettlesOver M (parts.order.in_order.ended E element element_dict clone clone_dict) (λ 𝓤. parts.order.in_order.clauses E element element_dict clone clone_dict) E.lives
in_order_lem E element element_dict clone clone_dict m κs a g =
    over m (settles m (last m) λ x y e i. (e i, x.1))

pub tile_in_order : {M : Type 1} → Settles M parts.order.tile_in_order.ended (λ 𝓤. parts.order.tile_in_order.clauses)
tile_in_order m κs a g = settles m (last m) λ x y e i. (e i, x.1)

pub split_count : {M : Type 1} → Settles M parts.split.split_count.ended (λ 𝓤. parts.split.split_count.clauses)
split_count m κs a g = settles m (last m) λ x y e i. (e i, x.1)

-- the bytes of the part; not where in the slice they lie
pub split_part : {M : Type 1} → SettlesAs M parts.split.split_part.ended (λ 𝓤. parts.split.split_part.clauses) (λ κs. List ℕ) (λ κs r. r.now)
split_part m κs a g = settles m (last m) λ x y e i. (e i, x.1)

pub split_at : {M : Type 1} → SettlesAs M parts.split.split_at.ended (λ 𝓤. parts.split.split_at.clauses) (λ κs. List ℕ) (λ κs r. r.now)
split_at m κs a g = settles m (last m) λ x y e i. (e i, x.1)

pub split_tell : {M : Type 1} → Settles M parts.split.tell.ended (λ 𝓤. parts.split.tell.clauses)
split_tell m κs a g = settles m (before m (before m (last m))) λ x y e i. (e.0 i, (tt, (e.1.1 i, (e.1.0 i, tt))))

-- ---- lengths

pub check_length_table : {M : Type 1} → Settles M lengths.check.check_length_table.ended (λ 𝓤. lengths.check.check_length_table.clauses)
check_length_table m κs a g = settles m (last m) λ x y e i. (e i, x.1)

pub said_of_entry : {M : Type 1} → Settles M lengths.check.SaidFromTilePartEntry.from.ended (λ 𝓤. lengths.check.SaidFromTilePartEntry.from.clauses)
said_of_entry m κs a g = settles m (last m) λ x y e i. (e i, x.1)

-- ---- index

pub index_tile_of : {M : Type 1} → Settles M index.keys.tile_of.ended (λ 𝓤. index.keys.tile_of.clauses)
index_tile_of m κs a g = settles m (last m) λ x y e i. (e i, x.1)

pub index_number_of : {M : Type 1} → Settles M index.keys.number_of.ended (λ 𝓤. index.keys.number_of.clauses)
index_number_of m κs a g = settles m (last m) λ x y e i. (e i, x.1)

pub index_old_of : {M : Type 1} → Settles M index.extend.old_of.ended (λ 𝓤. index.extend.old_of.clauses)
index_old_of m κs a g = settles m (last m) λ x y e i. (e i, x.1)

pub index_needs : {M : Type 1} → Settles M index.extend.needs.ended (λ 𝓤. index.extend.needs.clauses)
index_needs m κs a g = settles m (last m) λ x y e i. (e i, x.1)

pub index_decide : {M : Type 1} → Settles M index.extend.decide.ended (λ 𝓤. index.extend.decide.clauses)
index_decide m κs a g = settles m (last m) λ x y e i. (e i, x.1)

pub extend : {M : Type 1} (E : RattleType) (element : Element.Ghosts E.Denot) (element_dict : Dict) (clone : Clone.Ghosts E.Denot) (clone_dict : Dict)
    → SettlesOver M (index.extend.extend.ended E element element_dict clone clone_dict) (λ 𝓤. index.extend.extend.clauses E element element_dict clone clone_dict) E.lives
extend E element element_dict clone clone_dict m κs a g =
    over m (by_first m (λ r. index_after r (element.layout.within a.0.now) (old_of a.1.0 (length a.0.now / element.WIDTH)) a.1.1.0.now)
    (λ r. scratch_after r (element.layout.within a.0.now) (old_of a.1.0 (length a.0.now / element.WIDTH)) a.1.1.1.0.now) λ x y e i.
    (e.0 i, (tt, (tt, (e.1 i, (e.2 i, tt))))))

pub extend_index : {M : Type 1} → Settles M index.extend.extend_index.ended (λ 𝓤. index.extend.extend_index.clauses)
extend_index m κs a g =
    by_first m (λ r. index_after r (records_in a.0.now) (old_of a.1.0 (length a.0.now / row_bytes)) a.1.1.0.now)
    (λ r. scratch_after r (records_in a.0.now) (old_of a.1.0 (length a.0.now / row_bytes)) a.1.1.1.0.now) λ x y e i.
    (e.0 i, (tt, (tt, (e.1 i, (e.2 i, tt)))))

pub index_tiles : {M : Type 1} → Settles M index.extend.index_tiles.ended (λ 𝓤. index.extend.index_tiles.clauses)
index_tiles m κs a g =
    by_first m (λ r. index_made r (records_in a.0.now) a.1.0.now) (λ r. index_made r (records_in a.0.now) a.1.1.0.now) λ x y e i.
    (e.0 i, (tt, (e.1 i, (e.2 i, tt))))

-- the keys of the run; not where in the index they lie
pub tile_run : {M : Type 1} → SettlesAs M index.run.tile_run.ended (λ 𝓤. index.run.tile_run.clauses) (λ κs. List ℕ) (λ κs r. r.now)
tile_run m κs a g = settles m (last m) λ x y e i. (e i, x.1)

pub run_tell : {M : Type 1} → Settles M index.run.tell.ended (λ 𝓤. index.run.tell.clauses)
run_tell m κs a g = settles m (before m (before m (last m))) λ x y e i. (e.0 i, (tt, (tt, (e.1.0 i, (e.1.1 i, tt)))))

pub tile_entries : {M : Type 1} → Settles M index.entries.tile_entries.ended (λ 𝓤. index.entries.tile_entries.clauses)
tile_entries m κs a g =
    by_one m (λ r. given_rows r (entries_by a.1.0.now a.1.1.0 (records_in a.0.now)) a.1.1.1.0.now) λ x y e i. (e.0 i, (tt, (tt, (tt, (e.1 i, tt)))))

-- ---- records

pub records_extend_index : {M : Type 1} → Settles M records.by_tile.extend_index.ended (λ 𝓤. records.by_tile.extend_index.clauses)
records_extend_index m κs a g =
    by_first m (λ r. index_after r a.0.now (old_of a.1.0 (length a.0.now)) a.1.1.0.now)
    (λ r. scratch_after r a.0.now (old_of a.1.0 (length a.0.now)) a.1.1.1.0.now) λ x y e i.
    (e.0 i, (tt, (tt, (e.1 i, (e.2 i, tt)))))

pub records_index_tiles : {M : Type 1} → Settles M records.by_tile.index_tiles.ended (λ 𝓤. records.by_tile.index_tiles.clauses)
records_index_tiles m κs a g =
    by_first m (λ r. index_made r a.0.now a.1.0.now) (λ r. index_made r a.0.now a.1.1.0.now) λ x y e i.
    (e.0 i, (tt, (e.1 i, (e.2 i, tt))))

pub records_scan_sot_markers : {M : Type 1} → Settles M records.scan.scan_sot_markers.ended (λ 𝓤. records.scan.scan_sot_markers.clauses)
records_scan_sot_markers m κs a g = settles m (before m (last m)) λ x y e i. (e.0 i, (tt, (tt, (e.1 i, tt))))

pub records_parse_main_header : {M : Type 1} → Settles M records.main_header.parse_main_header.ended (λ 𝓤. records.main_header.parse_main_header.clauses)
records_parse_main_header m κs a g =
    by_first m (λ r. records_after a.1.0.numbering r a.0.now a.1.1.0.now) (λ r. out_after r a.0.now a.1.1.1.0.now) λ x y e i.
    (e.0 i, (tt, (tt, (e.1 i, (e.2 i, tt)))))

pub records_tile_in_order : {M : Type 1} → Settles M records.order.tile_in_order.ended (λ 𝓤. records.order.tile_in_order.clauses)
records_tile_in_order m κs a g = settles m (last m) λ x y e i. (e i, x.1)

pub new_table : {M : Type 1} → Settles M records.tables.new_table.ended (λ 𝓤. records.tables.new_table.clauses)
new_table m κs a g = settles m (last m) λ x y e i. (e i, x.1)

pub scan_into : {M : Type 1} → Settles M records.tables.scan_into.ended (λ 𝓤. records.tables.scan_into.clauses)
scan_into m κs a g = settles m (before m (last m)) λ x y e i. (record { answer = e.0 i; table = e.1 i }, x.1)

pub header_into : {M : Type 1} → Settles M records.tables.header_into.ended (λ 𝓤. records.tables.header_into.clauses)
header_into m κs a g =
    by_first m (λ r. records_after a.1.0.numbering r a.0.now (take (min a.1.1.1.0 2048) a.1.1.0) ++ drop (min a.1.1.1.0 2048) a.1.1.0)
    (λ r. out_after r a.0.now a.1.1.1.1.0.now) λ x y e i.
    (record { answer = e.0 i; table = e.1 i }, (tt, (tt, (tt, (tt, (e.2 i, tt))))))

pub order_within : {M : Type 1} → Settles M records.tables.order_within.ended (λ 𝓤. records.tables.order_within.clauses)
order_within m κs a g = settles m (last m) λ x y e i. (e i, x.1)

pub index_within : {M : Type 1} → Settles M records.tables.index_within.ended (λ 𝓤. records.tables.index_within.clauses)
index_within m κs a g =
    by_first m (λ r. index_after r (take (min a.1.0 2048) a.0) (old_of a.1.1.0 (min a.1.0 2048)) a.1.1.1.0.now)
    (λ r. scratch_after r (take (min a.1.0 2048) a.0) (old_of a.1.1.0 (min a.1.0 2048)) a.1.1.1.1.0.now) λ x y e i.
    (e.0 i, (tt, (tt, (tt, (e.1 i, (e.2 i, tt))))))

pub scan_table : {M : Type 1} → Settles M records.tables.scan_table.ended (λ 𝓤. records.tables.scan_table.clauses)
scan_table m κs a g = settles m (before m (last m)) λ x y e i. (record { answer = e.0 i; table = e.1 i }, x.1)

pub header_table : {M : Type 1} → Settles M records.tables.header_table.ended (λ 𝓤. records.tables.header_table.clauses)
header_table m κs a g =
    by_first m (λ r. records_after a.1.0.numbering r a.0.now blank) (λ r. out_after r a.0.now a.1.1.0.now) λ x y e i.
    (record { answer = e.0 i; table = e.1 i }, (tt, (tt, (e.2 i, tt))))

-- ---- tile

pub tile_size_lem : {M : Type 1} → Settles M tile.rewrite.tile_size.ended (λ 𝓤. tile.rewrite.tile_size.clauses)
tile_size_lem m κs a g = settles m (last m) λ x y e i. (e i, x.1)

pub judge : {M : Type 1} → Settles M tile.rewrite.judge.ended (λ 𝓤. tile.rewrite.judge.clauses)
judge m κs a g = settles m (last m) λ x y e i. (e i, x.1)

pub rewrite_siz_for_tile : {M : Type 1} → Settles M tile.rewrite.rewrite_siz_for_tile.ended (λ 𝓤. tile.rewrite.rewrite_siz_for_tile.clauses)
rewrite_siz_for_tile m κs a g = settles m (before m (last m)) λ x y e i. (e.0 i, (tt, (tt, (tt, (e.1 i, tt)))))

pub build_minimal_codestream : {M : Type 1} → Settles M tile.assembly.build_minimal_codestream.ended (λ 𝓤. tile.assembly.build_minimal_codestream.clauses)
build_minimal_codestream m κs a g = settles m (before m (last m)) λ x y e i. (e.0 i, (tt, (tt, (tt, (tt, (e.1 i, tt))))))

pub refusal_for_lem : {M : Type 1} → Settles M tile.rules.RefusalFromNoTile.from.ended (λ 𝓤. tile.rules.RefusalFromNoTile.from.clauses)
refusal_for_lem m κs a g = settles m (last m) λ x y e i. (e i, x.1)

pub rule_of_lem : {M : Type 1} → Settles M tile.rules.RuleFromU32.from.ended (λ 𝓤. tile.rules.RuleFromU32.from.clauses)
rule_of_lem m κs a g = settles m (last m) λ x y e i. (e i, x.1)

-- ---- reader

pub parse_siz_marker : {M : Type 1} → Settles M reader.siz.parse_siz_marker.ended (λ 𝓤. reader.siz.parse_siz_marker.clauses)
parse_siz_marker m κs a g = settles m (last m) λ x y e i. (e i, x.1)

pub pixel_type_from_siz : {M : Type 1} → Settles M reader.siz.pixel_type_from_siz.ended (λ 𝓤. reader.siz.pixel_type_from_siz.clauses)
pixel_type_from_siz m κs a g = settles m (last m) λ x y e i. (e i, x.1)

pub box_at_lem : {M : Type 1} → Settles M reader.search.box_at.ended (λ 𝓤. reader.search.box_at.clauses)
box_at_lem m κs a g = settles m (last m) λ x y e i. (e i, x.1)

pub find_codestream : {M : Type 1} → Settles M reader.search.find_codestream.ended (λ 𝓤. reader.search.find_codestream.clauses)
find_codestream m κs a g = settles m (last m) λ x y e i. (e i, x.1)

pub codestream_of : {M : Type 1} → SettlesAs M reader.search.codestream_of.ended (λ 𝓤. reader.search.codestream_of.clauses) (λ κs. List ℕ) (λ κs r. r.now)
codestream_of m κs a g = settles m (last m) λ x y e i. (e i, x.1)

pub list_step : {M : Type 1} → Settles M reader.box_step.list_step.ended (λ 𝓤. reader.box_step.list_step.clauses)
list_step m κs a g = settles m (last m) λ x y e i. (e i, x.1)

pub list_boxes : {M : Type 1} → Settles M reader.boxes.list_boxes.ended (λ 𝓤. reader.boxes.list_boxes.clauses)
list_boxes m κs a g = settles m (before m (last m)) λ x y e i. (e.0 i, (tt, (e.1 i, tt)))

pub next_region_lem : {M : Type 1} → Settles M reader.growth.next_region.ended (λ 𝓤. reader.growth.next_region.clauses)
next_region_lem m κs a g = settles m (last m) λ x y e i. (e i, x.1)

pub grow_header_region : {M : Type 1} → Settles M reader.growth.grow_header_region.ended (λ 𝓤. reader.growth.grow_header_region.clauses)
grow_header_region m κs a g = settles m (last m) λ x y e i. (e i, x.1)

pub read_components : {M : Type 1} → Settles M reader.components.read_components.ended (λ 𝓤. reader.components.read_components.clauses)
read_components m κs a g = settles m (last m) λ x y e i. (e i, x.1)

pub read_components_in_tile : {M : Type 1} → Settles M reader.components.read_components_in_tile.ended (λ 𝓤. reader.components.read_components_in_tile.clauses)
read_components_in_tile m κs a g = settles m (last m) λ x y e i. (e i, x.1)

pub component : {M : Type 1} → Settles M reader.components.component.ended (λ 𝓤. reader.components.component.clauses)
component m κs a g = settles m (last m) λ x y e i. (e i, x.1)

pub component_in_tile_lem : {M : Type 1} → Settles M reader.components.component_in_tile.ended (λ 𝓤. reader.components.component_in_tile.clauses)
component_in_tile_lem m κs a g = settles m (last m) λ x y e i. (e i, x.1)

pub component_within : {M : Type 1} → Settles M reader.components.component_within.ended (λ 𝓤. reader.components.component_within.clauses)
component_within m κs a g = settles m (last m) λ x y e i. (e i, x.1)

-- ---- host, for C

pub winterhasp_in_file : {M : Type 1} → Settles M host.offsets.winterhasp_in_file.ended (λ 𝓤. host.offsets.winterhasp_in_file.clauses)
winterhasp_in_file m κs a g = settles m (before m (last m)) λ x y e i. (e.0 i, (tt, (tt, (e.1 i, tt))))

pub winterhasp_find_marker : {M : Type 1} → Settles M host.find.winterhasp_find_marker.ended (λ 𝓤. host.find.winterhasp_find_marker.clauses)
winterhasp_find_marker m κs a g = settles m (before m (last m)) λ x y e i. (e.0 i, (tt, (tt, (e.1 i, tt))))

pub winterhasp_main_header_extent : {M : Type 1} → Settles M host.extent.winterhasp_main_header_extent.ended (λ 𝓤. host.extent.winterhasp_main_header_extent.clauses)
winterhasp_main_header_extent m κs a g = settles m (before m (last m)) λ x y e i. (e.0 i, (tt, (e.1 i, tt)))

pub winterhasp_parse_main_header : {M : Type 1} → Settles M host.parse.winterhasp_parse_main_header.ended (λ 𝓤. host.parse.winterhasp_parse_main_header.clauses)
winterhasp_parse_main_header m κs a g = settles m (before m (before m (before m (before m (before m (before m (last m))))))) λ x y e i. (e.0 i, (tt, (e.1.1.1.1.1.0 i, (e.1.1.1.1.1.1 i, (e.1.0 i, (e.1.1.0 i, (e.1.1.1.0 i, (e.1.1.1.1.0 i, tt))))))))

pub winterhasp_parse_main_header_by_reading : {M : Type 1} → Settles M host.parse.winterhasp_parse_main_header_by_reading.ended (λ 𝓤. host.parse.winterhasp_parse_main_header_by_reading.clauses)
winterhasp_parse_main_header_by_reading m κs a g = settles m (before m (before m (before m (before m (before m (before m (last m))))))) λ x y e i. (e.0 i, (tt, (tt, (e.1.1.1.1.1.0 i, (e.1.1.1.1.1.1 i, (e.1.0 i, (e.1.1.0 i, (e.1.1.1.0 i, (e.1.1.1.1.0 i, tt)))))))))

pub winterhasp_scan_sot_markers : {M : Type 1} → Settles M host.scan.winterhasp_scan_sot_markers.ended (λ 𝓤. host.scan.winterhasp_scan_sot_markers.clauses)
winterhasp_scan_sot_markers m κs a g = settles m (before m (before m (last m))) λ x y e i. (e.0 i, (tt, (tt, (e.1.1 i, (e.1.0 i, tt)))))

pub winterhasp_tile_in_order : {M : Type 1} → Settles M host.order.winterhasp_tile_in_order.ended (λ 𝓤. host.order.winterhasp_tile_in_order.clauses)
winterhasp_tile_in_order m κs a g = settles m (last m) λ x y e i. (e i, x.1)

pub winterhasp_index_tiles : {M : Type 1} → Settles M host.by_tile.winterhasp_index_tiles.ended (λ 𝓤. host.by_tile.winterhasp_index_tiles.clauses)
winterhasp_index_tiles m κs a g = settles m (before m (before m (before m (last m)))) λ x y e i. (e.0 i, (tt, (e.1.1.0 i, (e.1.1.1 i, (e.1.0 i, tt)))))

pub winterhasp_extend_index : {M : Type 1} → Settles M host.by_tile.winterhasp_extend_index.ended (λ 𝓤. host.by_tile.winterhasp_extend_index.clauses)
winterhasp_extend_index m κs a g = settles m (before m (before m (before m (last m)))) λ x y e i. (e.0 i, (tt, (tt, (e.1.1.0 i, (e.1.1.1 i, (e.1.0 i, tt))))))

pub winterhasp_tile_run : {M : Type 1} → Settles M host.by_tile.winterhasp_tile_run.ended (λ 𝓤. host.by_tile.winterhasp_tile_run.clauses)
winterhasp_tile_run m κs a g = settles m (before m (before m (last m))) λ x y e i. (e.0 i, (tt, (tt, (e.1.0 i, (e.1.1 i, tt)))))

pub winterhasp_tile_entries : {M : Type 1} → Settles M host.by_tile.winterhasp_tile_entries.ended (λ 𝓤. host.by_tile.winterhasp_tile_entries.clauses)
winterhasp_tile_entries m κs a g = settles m (before m (before m (last m))) λ x y e i. (e.0 i, (tt, (tt, (tt, (e.1.1 i, (e.1.0 i, tt))))))

pub winterhasp_split_count : {M : Type 1} → Settles M host.split.winterhasp_split_count.ended (λ 𝓤. host.split.winterhasp_split_count.clauses)
winterhasp_split_count m κs a g = settles m (last m) λ x y e i. (e i, x.1)

pub winterhasp_split_part : {M : Type 1} → Settles M host.split.winterhasp_split_part.ended (λ 𝓤. host.split.winterhasp_split_part.clauses)
winterhasp_split_part m κs a g = settles m (before m (before m (last m))) λ x y e i. (e.0 i, (tt, (tt, (e.1.1 i, (e.1.0 i, tt)))))

pub winterhasp_split_at : {M : Type 1} → Settles M host.split.winterhasp_split_at.ended (λ 𝓤. host.split.winterhasp_split_at.clauses)
winterhasp_split_at m κs a g = settles m (before m (before m (last m))) λ x y e i. (e.0 i, (tt, (tt, (e.1.1 i, (e.1.0 i, tt)))))

pub winterhasp_rewrite_siz_for_tile : {M : Type 1} → Settles M host.rewrite.winterhasp_rewrite_siz_for_tile.ended (λ 𝓤. host.rewrite.winterhasp_rewrite_siz_for_tile.clauses)
winterhasp_rewrite_siz_for_tile m κs a g = settles m (before m (before m (last m))) λ x y e i. (e.0 i, (tt, (tt, (e.1.1 i, (e.1.0 i, tt)))))

pub winterhasp_rewrite_siz_for_tile_by_rule : {M : Type 1} → Settles M host.rewrite.winterhasp_rewrite_siz_for_tile_by_rule.ended (λ 𝓤. host.rewrite.winterhasp_rewrite_siz_for_tile_by_rule.clauses)
winterhasp_rewrite_siz_for_tile_by_rule m κs a g = settles m (before m (before m (last m))) λ x y e i. (e.0 i, (tt, (tt, (tt, (e.1.1 i, (e.1.0 i, tt))))))

pub winterhasp_build_minimal_codestream : {M : Type 1} → Settles M host.assembly.winterhasp_build_minimal_codestream.ended (λ 𝓤. host.assembly.winterhasp_build_minimal_codestream.clauses)
winterhasp_build_minimal_codestream m κs a g = settles m (before m (before m (last m))) λ x y e i. (e.0 i, (tt, (tt, (tt, (e.1.1 i, (e.1.0 i, tt))))))

pub winterhasp_build_minimal_codestream_by_rule : {M : Type 1} → Settles M host.assembly.winterhasp_build_minimal_codestream_by_rule.ended (λ 𝓤. host.assembly.winterhasp_build_minimal_codestream_by_rule.clauses)
winterhasp_build_minimal_codestream_by_rule m κs a g = settles m (before m (before m (last m))) λ x y e i. (e.0 i, (tt, (tt, (tt, (tt, (e.1.1 i, (e.1.0 i, tt)))))))

pub winterhasp_find_codestream : {M : Type 1} → Settles M host.search.winterhasp_find_codestream.ended (λ 𝓤. host.search.winterhasp_find_codestream.clauses)
winterhasp_find_codestream m κs a g = settles m (before m (before m (last m))) λ x y e i. (e.0 i, (tt, (e.1.0 i, (e.1.1 i, tt))))

pub winterhasp_list_boxes : {M : Type 1} → Settles M host.boxes.winterhasp_list_boxes.ended (λ 𝓤. host.boxes.winterhasp_list_boxes.clauses)
winterhasp_list_boxes m κs a g = settles m (before m (before m (last m))) λ x y e i. (e.0 i, (tt, (e.1.1 i, (e.1.0 i, tt))))

pub winterhasp_parse_siz_marker : {M : Type 1} → Settles M host.siz.winterhasp_parse_siz_marker.ended (λ 𝓤. host.siz.winterhasp_parse_siz_marker.clauses)
winterhasp_parse_siz_marker m κs a g = settles m (before m (before m (before m (before m (before m (last m)))))) λ x y e i. (e.0 i, (tt, (e.1.0 i, (e.1.1.0 i, (e.1.1.1.0 i, (e.1.1.1.1.0 i, (e.1.1.1.1.1 i, tt)))))))

pub winterhasp_pixel_type : {M : Type 1} → Settles M host.siz.winterhasp_pixel_type.ended (λ 𝓤. host.siz.winterhasp_pixel_type.clauses)
winterhasp_pixel_type m κs a g = settles m (last m) λ x y e i. (e i, x.1)

pub winterhasp_grow_header_region : {M : Type 1} → Settles M host.growth.winterhasp_grow_header_region.ended (λ 𝓤. host.growth.winterhasp_grow_header_region.clauses)
winterhasp_grow_header_region m κs a g = settles m (before m (before m (last m))) λ x y e i. (e.0 i, (tt, (e.1.0 i, (e.1.1 i, tt))))

pub winterhasp_next_region : {M : Type 1} → Settles M host.growth.winterhasp_next_region.ended (λ 𝓤. host.growth.winterhasp_next_region.clauses)
winterhasp_next_region m κs a g = settles m (last m) λ x y e i. (e i, x.1)

pub sign : {M : Type 1} → Settles M host.siz.sign.ended (λ 𝓤. host.siz.sign.clauses)
sign m κs a g = settles m (last m) λ x y e i. (e i, x.1)

pub winterhasp_read_components : {M : Type 1} → Settles M host.components.winterhasp_read_components.ended (λ 𝓤. host.components.winterhasp_read_components.clauses)
winterhasp_read_components m κs a g = settles m (before m (before m (before m (before m (before m (last m)))))) λ x y e i. (e.0 i, (tt, (e.1.0 i, (e.1.1.0 i, (e.1.1.1.0 i, (e.1.1.1.1.0 i, (e.1.1.1.1.1 i, tt)))))))

pub winterhasp_read_components_in_tile : {M : Type 1} → Settles M host.components.winterhasp_read_components_in_tile.ended (λ 𝓤. host.components.winterhasp_read_components_in_tile.clauses)
winterhasp_read_components_in_tile m κs a g = settles m (before m (before m (before m (before m (before m (last m)))))) λ x y e i. (e.0 i, (tt, (tt, (e.1.0 i, (e.1.1.0 i, (e.1.1.1.0 i, (e.1.1.1.1.0 i, (e.1.1.1.1.1 i, tt))))))))

pub winterhasp_read_components_in_tile_by_rule : {M : Type 1} → Settles M host.components.winterhasp_read_components_in_tile_by_rule.ended (λ 𝓤. host.components.winterhasp_read_components_in_tile_by_rule.clauses)
winterhasp_read_components_in_tile_by_rule m κs a g = settles m (before m (before m (before m (before m (before m (last m)))))) λ x y e i. (e.0 i, (tt, (tt, (tt, (e.1.0 i, (e.1.1.0 i, (e.1.1.1.0 i, (e.1.1.1.1.0 i, (e.1.1.1.1.1 i, tt)))))))))

pub winterhasp_check_length_table : {M : Type 1} → Settles M host.check.winterhasp_check_length_table.ended (λ 𝓤. host.check.winterhasp_check_length_table.clauses)
winterhasp_check_length_table m κs a g = settles m (before m (before m (before m (before m (before m (before m (last m))))))) λ x y e i. (e.0 i, (tt, (tt, (e.1.0 i, (e.1.1.0 i, (e.1.1.1.0 i, (e.1.1.1.1.0 i, (e.1.1.1.1.1.0 i, (e.1.1.1.1.1.1 i, tt)))))))))

pub winterhasp_component : {M : Type 1} → Settles M host.components.winterhasp_component.ended (λ 𝓤. host.components.winterhasp_component.clauses)
winterhasp_component m κs a g = settles m (before m (before m (before m (before m (before m (before m (before m (before m (last m))))))))) λ x y e i. (e.0 i, (tt, (tt, (e.1.0 i, (e.1.1.0 i, (e.1.1.1.0 i, (e.1.1.1.1.0 i, (e.1.1.1.1.1.0 i, (e.1.1.1.1.1.1.0 i, (e.1.1.1.1.1.1.1.0 i, (e.1.1.1.1.1.1.1.1 i, tt)))))))))))

pub winterhasp_component_in_tile : {M : Type 1} → Settles M host.components.winterhasp_component_in_tile.ended (λ 𝓤. host.components.winterhasp_component_in_tile.clauses)
winterhasp_component_in_tile m κs a g = settles m (before m (before m (before m (before m (before m (before m (before m (before m (last m))))))))) λ x y e i. (e.0 i, (tt, (tt, (tt, (e.1.0 i, (e.1.1.0 i, (e.1.1.1.0 i, (e.1.1.1.1.0 i, (e.1.1.1.1.1.0 i, (e.1.1.1.1.1.1.0 i, (e.1.1.1.1.1.1.1.0 i, (e.1.1.1.1.1.1.1.1 i, tt))))))))))))

pub winterhasp_component_in_tile_by_rule : {M : Type 1} → Settles M host.components.winterhasp_component_in_tile_by_rule.ended (λ 𝓤. host.components.winterhasp_component_in_tile_by_rule.clauses)
winterhasp_component_in_tile_by_rule m κs a g = settles m (before m (before m (before m (before m (before m (before m (before m (before m (last m))))))))) λ x y e i. (e.0 i, (tt, (tt, (tt, (tt, (e.1.0 i, (e.1.1.0 i, (e.1.1.1.0 i, (e.1.1.1.1.0 i, (e.1.1.1.1.1.0 i, (e.1.1.1.1.1.1.0 i, (e.1.1.1.1.1.1.1.0 i, (e.1.1.1.1.1.1.1.1 i, tt)))))))))))))

pub winterhasp_component_within : {M : Type 1} → Settles M host.components.winterhasp_component_within.ended (λ 𝓤. host.components.winterhasp_component_within.clauses)
winterhasp_component_within m κs a g = settles m (before m (before m (before m (before m (before m (before m (before m (before m (last m))))))))) λ x y e i. (e.0 i, (tt, (tt, (tt, (tt, (tt, (tt, (e.1.0 i, (e.1.1.0 i, (e.1.1.1.0 i, (e.1.1.1.1.0 i, (e.1.1.1.1.1.0 i, (e.1.1.1.1.1.1.0 i, (e.1.1.1.1.1.1.1.0 i, (e.1.1.1.1.1.1.1.1 i, tt)))))))))))))))

-- ---- probe, for C

pub own_count : {M : Type 1} → Settles M probe.own.count.ended (λ 𝓤. probe.own.count.clauses)
own_count m κs a g = settles m (last m) λ x y e i. (e i, x.1)

pub winterhasp_records_in_order : {M : Type 1} → Settles M probe.order.winterhasp_records_in_order.ended (λ 𝓤. probe.order.winterhasp_records_in_order.clauses)
winterhasp_records_in_order m κs a g = settles m (last m) λ x y e i. (e i, x.1)

pub winterhasp_records_index : {M : Type 1} → Settles M probe.by_tile.winterhasp_records_index.ended (λ 𝓤. probe.by_tile.winterhasp_records_index.clauses)
winterhasp_records_index m κs a g = settles m (before m (before m (before m (last m)))) λ x y e i. (e.0 i, (tt, (tt, (e.1.1.0 i, (e.1.1.1 i, (e.1.0 i, tt))))))

pub winterhasp_scan_records : {M : Type 1} → Settles M probe.scan.winterhasp_scan_records.ended (λ 𝓤. probe.scan.winterhasp_scan_records.clauses)
winterhasp_scan_records m κs a g = settles m (before m (before m (last m))) λ x y e i. (e.0 i, (tt, (tt, (e.1.1 i, (e.1.0 i, tt)))))

pub winterhasp_codestream_of : {M : Type 1} → Settles M probe.winterhasp_codestream_of.ended (λ 𝓤. probe.winterhasp_codestream_of.clauses)
winterhasp_codestream_of m κs a g = settles m (before m (before m (last m))) λ x y e i. (e.0 i, (tt, (e.1.1 i, (e.1.0 i, tt))))

pub winterhasp_header_records : {M : Type 1} → Settles M probe.main_header.winterhasp_header_records.ended (λ 𝓤. probe.main_header.winterhasp_header_records.clauses)
winterhasp_header_records m κs a g = settles m (before m (before m (before m (before m (before m (before m (last m))))))) λ x y e i. (e.0 i, (tt, (tt, (e.1.1.1.1.1.0 i, (e.1.1.1.1.1.1 i, (e.1.0 i, (e.1.1.0 i, (e.1.1.1.0 i, (e.1.1.1.1.0 i, tt)))))))))

-- ---- over a type that borrows nothing: nothing is required

pub refuse_owned : {M : Type 1} (T : RattleType) → T.lives ≡ [] → Settles M (types.refuse.ended T) (λ 𝓤. types.refuse.clauses T)
refuse_owned T owned m κs a g = anywhere m owned (refuse T m κs a g)

module _
    {M : Type 1}
    (E : RattleType)
    (owned : E.lives ≡ [])
    (element : Element.Ghosts E.Denot)
    (element_dict : Dict)
    (clone : Clone.Ghosts E.Denot)
    (clone_dict : Dict) where
  pub parse_into_owned : Settles M (header.parse.parse_into.ended E element element_dict clone clone_dict) (λ 𝓤. header.parse.parse_into.clauses E element element_dict clone clone_dict)
  parse_into_owned m κs a g = anywhere m owned (parse_into E element element_dict clone clone_dict m κs a g)

  pub scan_judged_owned : Settles M (parts.scan.scan_judged.ended E element element_dict clone clone_dict) (λ 𝓤. parts.scan.scan_judged.clauses E element element_dict clone clone_dict)
  scan_judged_owned m κs a g = anywhere m owned (scan_judged E element element_dict clone clone_dict m κs a g)

  pub in_order_owned : Settles M (parts.order.in_order.ended E element element_dict clone clone_dict) (λ 𝓤. parts.order.in_order.clauses E element element_dict clone clone_dict)
  in_order_owned m κs a g = anywhere m owned (in_order_lem E element element_dict clone clone_dict m κs a g)

  pub extend_owned : Settles M (index.extend.extend.ended E element element_dict clone clone_dict) (λ 𝓤. index.extend.extend.clauses E element element_dict clone clone_dict)
  extend_owned m κs a g = anywhere m owned (extend E element element_dict clone clone_dict m κs a g)

-- so of the two types that a table is made of
pub rows_owned : u8.lives ≡ []
rows_owned = refl

pub records_owned : types.TilePartEntry.the_row.lives ≡ []
records_owned = refl
