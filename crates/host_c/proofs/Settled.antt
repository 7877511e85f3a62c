-- The contract of each function that is exported for C settles its outcome (`settling.specs.Settles`); crate laws has the other entry points'.
use Rattle.host_c.specs.contracts as host_c
use Rattle.settling.specs.Settles.{Settles}
use Rattle.settling.proofs.Settling.{last, before, settles}

pub winterhasp_in_file : {M : Type 1} → Settles M host_c.offsets.winterhasp_in_file.ended (λ 𝓤. host_c.offsets.winterhasp_in_file.clauses)
winterhasp_in_file m κs a g = settles m (before m (last m)) λ x y e i. (e.0 i, (tt, (tt, (e.1 i, tt))))

pub winterhasp_find_marker : {M : Type 1} → Settles M host_c.find.winterhasp_find_marker.ended (λ 𝓤. host_c.find.winterhasp_find_marker.clauses)
winterhasp_find_marker m κs a g = settles m (before m (last m)) λ x y e i. (e.0 i, (tt, (tt, (e.1 i, tt))))

pub winterhasp_main_header_extent : {M : Type 1} → Settles M host_c.extent.winterhasp_main_header_extent.ended (λ 𝓤. host_c.extent.winterhasp_main_header_extent.clauses)
winterhasp_main_header_extent m κs a g = settles m (before m (last m)) λ x y e i. (e.0 i, (tt, (e.1 i, tt)))

pub winterhasp_parse_main_header : {M : Type 1} → Settles M host_c.parse.winterhasp_parse_main_header.ended (λ 𝓤. host_c.parse.winterhasp_parse_main_header.clauses)
winterhasp_parse_main_header m κs a g = settles m (before m (before m (before m (before m (before m (before m (last m))))))) λ x y e i. (e.0 i, (tt, (e.1.1.1.1.1.0 i, (e.1.1.1.1.1.1 i, (e.1.0 i, (e.1.1.0 i, (e.1.1.1.0 i, (e.1.1.1.1.0 i, tt))))))))

pub winterhasp_parse_main_header_by_reading : {M : Type 1} → Settles M host_c.parse.winterhasp_parse_main_header_by_reading.ended (λ 𝓤. host_c.parse.winterhasp_parse_main_header_by_reading.clauses)
winterhasp_parse_main_header_by_reading m κs a g = settles m (before m (before m (before m (before m (before m (before m (last m))))))) λ x y e i. (e.0 i, (tt, (tt, (e.1.1.1.1.1.0 i, (e.1.1.1.1.1.1 i, (e.1.0 i, (e.1.1.0 i, (e.1.1.1.0 i, (e.1.1.1.1.0 i, tt)))))))))

pub winterhasp_scan_sot_markers : {M : Type 1} → Settles M host_c.scan.winterhasp_scan_sot_markers.ended (λ 𝓤. host_c.scan.winterhasp_scan_sot_markers.clauses)
winterhasp_scan_sot_markers m κs a g = settles m (before m (before m (last m))) λ x y e i. (e.0 i, (tt, (tt, (e.1.1 i, (e.1.0 i, tt)))))

pub winterhasp_tile_in_order : {M : Type 1} → Settles M host_c.order.winterhasp_tile_in_order.ended (λ 𝓤. host_c.order.winterhasp_tile_in_order.clauses)
winterhasp_tile_in_order m κs a g = settles m (last m) λ x y e i. (e i, x.1)

pub winterhasp_index_tiles : {M : Type 1} → Settles M host_c.by_tile.winterhasp_index_tiles.ended (λ 𝓤. host_c.by_tile.winterhasp_index_tiles.clauses)
winterhasp_index_tiles m κs a g = settles m (before m (before m (before m (last m)))) λ x y e i. (e.0 i, (tt, (e.1.1.0 i, (e.1.1.1 i, (e.1.0 i, tt)))))

pub winterhasp_extend_index : {M : Type 1} → Settles M host_c.by_tile.winterhasp_extend_index.ended (λ 𝓤. host_c.by_tile.winterhasp_extend_index.clauses)
winterhasp_extend_index m κs a g = settles m (before m (before m (before m (last m)))) λ x y e i. (e.0 i, (tt, (tt, (e.1.1.0 i, (e.1.1.1 i, (e.1.0 i, tt))))))

pub winterhasp_tile_run : {M : Type 1} → Settles M host_c.by_tile.winterhasp_tile_run.ended (λ 𝓤. host_c.by_tile.winterhasp_tile_run.clauses)
winterhasp_tile_run m κs a g = settles m (before m (before m (last m))) λ x y e i. (e.0 i, (tt, (tt, (e.1.0 i, (e.1.1 i, tt)))))

pub winterhasp_tile_entries : {M : Type 1} → Settles M host_c.by_tile.winterhasp_tile_entries.ended (λ 𝓤. host_c.by_tile.winterhasp_tile_entries.clauses)
winterhasp_tile_entries m κs a g = settles m (before m (before m (last m))) λ x y e i. (e.0 i, (tt, (tt, (tt, (e.1.1 i, (e.1.0 i, tt))))))

pub winterhasp_split_count : {M : Type 1} → Settles M host_c.split.winterhasp_split_count.ended (λ 𝓤. host_c.split.winterhasp_split_count.clauses)
winterhasp_split_count m κs a g = settles m (last m) λ x y e i. (e i, x.1)

pub winterhasp_split_part : {M : Type 1} → Settles M host_c.split.winterhasp_split_part.ended (λ 𝓤. host_c.split.winterhasp_split_part.clauses)
winterhasp_split_part m κs a g = settles m (before m (before m (last m))) λ x y e i. (e.0 i, (tt, (tt, (e.1.1 i, (e.1.0 i, tt)))))

pub winterhasp_split_at : {M : Type 1} → Settles M host_c.split.winterhasp_split_at.ended (λ 𝓤. host_c.split.winterhasp_split_at.clauses)
winterhasp_split_at m κs a g = settles m (before m (before m (last m))) λ x y e i. (e.0 i, (tt, (tt, (e.1.1 i, (e.1.0 i, tt)))))

pub winterhasp_rewrite_siz_for_tile : {M : Type 1} → Settles M host_c.rewrite.winterhasp_rewrite_siz_for_tile.ended (λ 𝓤. host_c.rewrite.winterhasp_rewrite_siz_for_tile.clauses)
winterhasp_rewrite_siz_for_tile m κs a g = settles m (before m (before m (last m))) λ x y e i. (e.0 i, (tt, (tt, (e.1.1 i, (e.1.0 i, tt)))))

pub winterhasp_rewrite_siz_for_tile_by_rule : {M : Type 1} → Settles M host_c.rewrite.winterhasp_rewrite_siz_for_tile_by_rule.ended (λ 𝓤. host_c.rewrite.winterhasp_rewrite_siz_for_tile_by_rule.clauses)
winterhasp_rewrite_siz_for_tile_by_rule m κs a g = settles m (before m (before m (last m))) λ x y e i. (e.0 i, (tt, (tt, (tt, (e.1.1 i, (e.1.0 i, tt))))))

pub winterhasp_build_minimal_codestream : {M : Type 1} → Settles M host_c.assembly.winterhasp_build_minimal_codestream.ended (λ 𝓤. host_c.assembly.winterhasp_build_minimal_codestream.clauses)
winterhasp_build_minimal_codestream m κs a g = settles m (before m (before m (last m))) λ x y e i. (e.0 i, (tt, (tt, (tt, (e.1.1 i, (e.1.0 i, tt))))))

pub winterhasp_build_minimal_codestream_by_rule : {M : Type 1} → Settles M host_c.assembly.winterhasp_build_minimal_codestream_by_rule.ended (λ 𝓤. host_c.assembly.winterhasp_build_minimal_codestream_by_rule.clauses)
winterhasp_build_minimal_codestream_by_rule m κs a g = settles m (before m (before m (last m))) λ x y e i. (e.0 i, (tt, (tt, (tt, (tt, (e.1.1 i, (e.1.0 i, tt)))))))

pub winterhasp_find_codestream : {M : Type 1} → Settles M host_c.search.winterhasp_find_codestream.ended (λ 𝓤. host_c.search.winterhasp_find_codestream.clauses)
winterhasp_find_codestream m κs a g = settles m (before m (before m (last m))) λ x y e i. (e.0 i, (tt, (e.1.0 i, (e.1.1 i, tt))))

pub winterhasp_list_boxes : {M : Type 1} → Settles M host_c.boxes.winterhasp_list_boxes.ended (λ 𝓤. host_c.boxes.winterhasp_list_boxes.clauses)
winterhasp_list_boxes m κs a g = settles m (before m (before m (last m))) λ x y e i. (e.0 i, (tt, (e.1.1 i, (e.1.0 i, tt))))

pub winterhasp_parse_siz_marker : {M : Type 1} → Settles M host_c.siz.winterhasp_parse_siz_marker.ended (λ 𝓤. host_c.siz.winterhasp_parse_siz_marker.clauses)
winterhasp_parse_siz_marker m κs a g = settles m (before m (before m (before m (before m (before m (last m)))))) λ x y e i. (e.0 i, (tt, (e.1.0 i, (e.1.1.0 i, (e.1.1.1.0 i, (e.1.1.1.1.0 i, (e.1.1.1.1.1 i, tt)))))))

pub winterhasp_pixel_type : {M : Type 1} → Settles M host_c.siz.winterhasp_pixel_type.ended (λ 𝓤. host_c.siz.winterhasp_pixel_type.clauses)
winterhasp_pixel_type m κs a g = settles m (last m) λ x y e i. (e i, x.1)

pub winterhasp_grow_header_region : {M : Type 1} → Settles M host_c.growth.winterhasp_grow_header_region.ended (λ 𝓤. host_c.growth.winterhasp_grow_header_region.clauses)
winterhasp_grow_header_region m κs a g = settles m (before m (before m (last m))) λ x y e i. (e.0 i, (tt, (e.1.0 i, (e.1.1 i, tt))))

pub winterhasp_next_region : {M : Type 1} → Settles M host_c.growth.winterhasp_next_region.ended (λ 𝓤. host_c.growth.winterhasp_next_region.clauses)
winterhasp_next_region m κs a g = settles m (last m) λ x y e i. (e i, x.1)

pub winterhasp_read_components : {M : Type 1} → Settles M host_c.components.winterhasp_read_components.ended (λ 𝓤. host_c.components.winterhasp_read_components.clauses)
winterhasp_read_components m κs a g = settles m (before m (before m (before m (before m (before m (last m)))))) λ x y e i. (e.0 i, (tt, (e.1.0 i, (e.1.1.0 i, (e.1.1.1.0 i, (e.1.1.1.1.0 i, (e.1.1.1.1.1 i, tt)))))))

pub winterhasp_read_components_in_tile : {M : Type 1} → Settles M host_c.components.winterhasp_read_components_in_tile.ended (λ 𝓤. host_c.components.winterhasp_read_components_in_tile.clauses)
winterhasp_read_components_in_tile m κs a g = settles m (before m (before m (before m (before m (before m (last m)))))) λ x y e i. (e.0 i, (tt, (tt, (e.1.0 i, (e.1.1.0 i, (e.1.1.1.0 i, (e.1.1.1.1.0 i, (e.1.1.1.1.1 i, tt))))))))

pub winterhasp_read_components_in_tile_by_rule : {M : Type 1} → Settles M host_c.components.winterhasp_read_components_in_tile_by_rule.ended (λ 𝓤. host_c.components.winterhasp_read_components_in_tile_by_rule.clauses)
winterhasp_read_components_in_tile_by_rule m κs a g = settles m (before m (before m (before m (before m (before m (last m)))))) λ x y e i. (e.0 i, (tt, (tt, (tt, (e.1.0 i, (e.1.1.0 i, (e.1.1.1.0 i, (e.1.1.1.1.0 i, (e.1.1.1.1.1 i, tt)))))))))

pub winterhasp_check_length_table : {M : Type 1} → Settles M host_c.check.winterhasp_check_length_table.ended (λ 𝓤. host_c.check.winterhasp_check_length_table.clauses)
winterhasp_check_length_table m κs a g = settles m (before m (before m (before m (before m (before m (before m (last m))))))) λ x y e i. (e.0 i, (tt, (tt, (e.1.0 i, (e.1.1.0 i, (e.1.1.1.0 i, (e.1.1.1.1.0 i, (e.1.1.1.1.1.0 i, (e.1.1.1.1.1.1 i, tt)))))))))

pub winterhasp_component : {M : Type 1} → Settles M host_c.components.winterhasp_component.ended (λ 𝓤. host_c.components.winterhasp_component.clauses)
winterhasp_component m κs a g = settles m (before m (before m (before m (before m (before m (before m (before m (before m (last m))))))))) λ x y e i. (e.0 i, (tt, (tt, (e.1.0 i, (e.1.1.0 i, (e.1.1.1.0 i, (e.1.1.1.1.0 i, (e.1.1.1.1.1.0 i, (e.1.1.1.1.1.1.0 i, (e.1.1.1.1.1.1.1.0 i, (e.1.1.1.1.1.1.1.1 i, tt)))))))))))

pub winterhasp_component_in_tile : {M : Type 1} → Settles M host_c.components.winterhasp_component_in_tile.ended (λ 𝓤. host_c.components.winterhasp_component_in_tile.clauses)
winterhasp_component_in_tile m κs a g = settles m (before m (before m (before m (before m (before m (before m (before m (before m (last m))))))))) λ x y e i. (e.0 i, (tt, (tt, (tt, (e.1.0 i, (e.1.1.0 i, (e.1.1.1.0 i, (e.1.1.1.1.0 i, (e.1.1.1.1.1.0 i, (e.1.1.1.1.1.1.0 i, (e.1.1.1.1.1.1.1.0 i, (e.1.1.1.1.1.1.1.1 i, tt))))))))))))

pub winterhasp_component_in_tile_by_rule : {M : Type 1} → Settles M host_c.components.winterhasp_component_in_tile_by_rule.ended (λ 𝓤. host_c.components.winterhasp_component_in_tile_by_rule.clauses)
winterhasp_component_in_tile_by_rule m κs a g = settles m (before m (before m (before m (before m (before m (before m (before m (before m (last m))))))))) λ x y e i. (e.0 i, (tt, (tt, (tt, (tt, (e.1.0 i, (e.1.1.0 i, (e.1.1.1.0 i, (e.1.1.1.1.0 i, (e.1.1.1.1.1.0 i, (e.1.1.1.1.1.1.0 i, (e.1.1.1.1.1.1.1.0 i, (e.1.1.1.1.1.1.1.1 i, tt)))))))))))))

pub winterhasp_component_within : {M : Type 1} → Settles M host_c.components.winterhasp_component_within.ended (λ 𝓤. host_c.components.winterhasp_component_within.clauses)
winterhasp_component_within m κs a g = settles m (before m (before m (before m (before m (before m (before m (before m (before m (last m))))))))) λ x y e i. (e.0 i, (tt, (tt, (tt, (tt, (tt, (tt, (e.1.0 i, (e.1.1.0 i, (e.1.1.1.0 i, (e.1.1.1.1.0 i, (e.1.1.1.1.1.0 i, (e.1.1.1.1.1.1.0 i, (e.1.1.1.1.1.1.1.0 i, (e.1.1.1.1.1.1.1.1 i, tt)))))))))))))))
