-- What is unfolded to compute a walk, a numbering, an edition, a marker, a scan, the check of a length table, the order of tile-parts, an index by tile, a split, an assembly, a search, a listing of boxes or component sizes over sample bytes.
use mathlib.Core.List.{flatten}
use Rattle.numbers.specs.Bits.{bit, ones}
use Rattle.numbers.specs.Bytes.{be, bytes_of, put}
use Rattle.numbers.specs.Ceiling.{ceil_div}
use Rattle.types.specs.Row.{numbers_at, number_bytes, row_of, rows_of, records_at, records_from, records_in}
use Rattle.chain.specs.Chain.{also, on_move, counted, chain}
use Rattle.header.specs.Step.{delimits, high_ff, is_filler, segment_end, step_at, move_of, move_at, steps_from}
use Rattle.header.specs.Extent.{ended_as, extent_end, extent_of}
use Rattle.header.specs.Tlm.{entry_count, tlm_at, entry_in, entries_in, unindexed, entry_on, entries_on, placed}
use Rattle.header.specs.Walk.{cut_at, tlm_step, passed_at, walk_step_of, walk_step_at, walk_move, walk_at, walk_from}
use Rattle.header.specs.Strip.{fillers, kept, decode_header, tlm_entries}
use Rattle.header.specs.Numbering.{next_number, entries_by, ended_by, unindexed_segments}
use Rattle.header.specs.Edition.{announced, caps_in, cap_fits, capped, in_edition}
use Rattle.header.specs.Parse.{read_as, stands, front_of, behind_front, judged, behind_front_by, judged_by, judged_as, with_room, parsed, tlm_table, table_by}
use Rattle.header.specs.Find.{first_of, find_in, finding}
use Rattle.parts.specs.Scan.{eoc_at, sot_step_at, scan_step_at, scan_from, entries_from, scanned, written, scanned_table}
use Rattle.parts.specs.Split.{part_end, split_step_at, split_from, parts_from, parts_of}
use Rattle.parts.specs.Tiles.{of_tile}
use Rattle.parts.specs.Order.{numbers_of, numbered_as, run_from, runs, in_order}
use Rattle.lengths.specs.Segments.{tlms_in, is_in, once, insert, ordered, before, table_end}
use Rattle.lengths.specs.Check.{listed, standing, same, compared, behind_scan, behind_table, behind_header, checked}
use Rattle.index.specs.Merge.{later_in, merged_to, merged}
use Rattle.index.specs.Extend.{fits, extended, index_after}
use Rattle.index.specs.Entries.{first_if, picked, given}
use Rattle.tile.specs.Siz.{pair, one_tile}
use Rattle.tile.specs.Original.{fitting, reaching, axis_of, columns_of, both_axes, in_grid, tile_area}
use Rattle.tile.specs.AnnexB.{laid, cells_of, from_of, to_of, cell_area, in_cells, on_grid, grid_tile}
use Rattle.tile.specs.Rules.{image_area, by_annex_b, by_original, placed_by}
use Rattle.tile.specs.Rewrite.{sized, moved, cut_by, size_of, size_in, tile_size, cut_to, rewritten, over, rewrite_answer, rewrite_out}
use Rattle.tile.specs.Assembly.{part_of, and_part, parts_in, is_sot, patched, part_size, size_for, joined, assembled, answer_for, assembly_answer, assembly_out}
use Rattle.reader.specs.Components.{siz_whole, count_held, apart, all_apart, components_read, at_tile, components_in_tile, divided, component_at, is_there, component_in, chosen, component_of, component_in_tile}
use Rattle.reader.specs.Search.{box_at, content, passed, on_box, found_from, is_jp2, found_in}
use Rattle.laws.specs.Sample.{two, four, siz_from, siz_of, siz, header, grid, counting, tlm_of, tlm, announcing, cap, sot_of, sot, part, head, with_tlm, listing, A, lean, signature, jp2c, box_head, long_head, box, nest}
use Rattle.index.specs.Index as index
use Rattle.reader.specs.Components as sizes
use Rattle.parts.specs.Scan as scan
use Rattle.parts.specs.Split as split
use Rattle.tile.specs.Rewrite as rewrite
use Rattle.reader.specs.Search as search
use Rattle.reader.specs.BoxRow as box-row
use Rattle.reader.specs.BoxStep as box-step
use Rattle.reader.specs.Boxes as tree
use Rattle.reader.specs.Siz as siz-reading

unfoldable pub samples : Unit {0}
unfolding be bytes_of put numbers_at number_bytes row_of rows_of two four siz_from siz_of siz header grid counting tlm_of tlm sot_of sot part head with_tlm listing A lean signature jp2c also on_move counted chain
samples = tt

unfoldable pub extents : Unit {0}
unfolding samples delimits high_ff segment_end step_at move_of move_at steps_from ended_as extent_end extent_of
extents = tt

unfoldable pub walks : Unit {0}
unfolding samples delimits high_ff is_filler segment_end step_at entry_count tlm_at entry_in entries_in placed cut_at tlm_step passed_at walk_step_of walk_step_at walk_move walk_at walk_from fillers kept decode_header tlm_entries read_as stands front_of behind_front judged tlm_table
walks = tt

unfoldable pub numberings : Unit {0}
unfolding walks unindexed entry_on entries_on next_number entries_by ended_by unindexed_segments behind_front_by judged_by table_by
numberings = tt

unfoldable pub editions : Unit {0}
unfolding numberings announcing cap bit ones announced caps_in cap_fits capped in_edition judged_as with_room parsed
editions = tt

unfoldable pub findings : Unit {0}
unfolding walks first_of find_in finding
findings = tt

unfoldable pub scan_runs : Unit {0}
unfolding samples eoc_at sot_step_at scan_step_at scan.move_of scan.move_at scan_from entries_from scan.ended_as scan.judged scan.with_room scanned written scanned_table of_tile
scan_runs = tt

unfoldable pub length_tables : Unit {0}
unfolding numberings scan_runs tlms_in is_in once insert ordered before table_end listed standing same compared behind_scan behind_table behind_header checked
length_tables = tt

unfoldable pub orders : Unit {0}
unfolding scan_runs flatten records_at records_from records_in numbers_of numbered_as run_from runs in_order
orders = tt

unfoldable pub indexes : Unit {0}
unfolding index.run_from later_in merged_to merged fits extended index_after first_if picked given
indexes = tt

unfoldable pub split_runs : Unit {0}
unfolding samples part_end split_step_at split.move_of split.move_at split_from parts_from parts_of
split_runs = tt

unfoldable pub tiles : Unit {0}
unfolding samples pair one_tile ceil_div fitting reaching axis_of columns_of both_axes in_grid tile_area laid cells_of from_of to_of cell_area in_cells on_grid grid_tile by_annex_b by_original placed_by sized moved cut_by size_of size_in tile_size cut_to rewritten rewrite.with_room rewrite.judged over rewrite_answer rewrite_out records_at records_from records_in part_of and_part parts_in is_sot patched part_size size_for joined assembled answer_for assembly_answer assembly_out
tiles = tt

unfoldable pub searches : Unit {0}
unfolding samples box_at content passed on_box search.move_at found_from is_jp2 found_in
searches = tt

unfoldable pub box_trees : Unit {0}
unfolding searches box_head long_head box nest box-row.row_of box-row.rows_of box-step.opens box-step.judged_box box-step.on_read box-step.step_at tree.before tree.then tree.on_step tree.list_from tree.boxes_in tree.counted tree.with_room tree.listed tree.written tree.listed_table
box_trees = tt

unfoldable pub siz_readings : Unit {0}
unfolding samples siz-reading.siz_read siz-reading.siz_from siz-reading.move_at
siz_readings = tt

unfoldable pub components : Unit {0}
unfolding tiles segment_end stands siz_whole count_held apart all_apart image_area sizes.ordered components_read at_tile components_in_tile divided component_at is_there component_in chosen component_of component_in_tile
components = tt
