-- The contract of each function that is exported for C settles its outcome (`settling.specs.Settles`); crate laws has the other entry points'.
use Rattle.probe_c.specs.contracts as probe_c
use Rattle.settling.specs.Settles.{Settles}
use Rattle.settling.proofs.Settling.{last, before, settles}

pub winterhasp_records_in_order : {M : Type 1} → Settles M probe_c.order.winterhasp_records_in_order.ended (λ 𝓤. probe_c.order.winterhasp_records_in_order.clauses)
winterhasp_records_in_order m κs a g = settles m (last m) λ x y e i. (e i, x.1)

pub winterhasp_records_index : {M : Type 1} → Settles M probe_c.by_tile.winterhasp_records_index.ended (λ 𝓤. probe_c.by_tile.winterhasp_records_index.clauses)
winterhasp_records_index m κs a g = settles m (before m (before m (before m (last m)))) λ x y e i. (e.0 i, (tt, (tt, (e.1.1.0 i, (e.1.1.1 i, (e.1.0 i, tt))))))

pub winterhasp_scan_records : {M : Type 1} → Settles M probe_c.scan.winterhasp_scan_records.ended (λ 𝓤. probe_c.scan.winterhasp_scan_records.clauses)
winterhasp_scan_records m κs a g = settles m (before m (before m (last m))) λ x y e i. (e.0 i, (tt, (tt, (e.1.1 i, (e.1.0 i, tt)))))

pub winterhasp_codestream_of : {M : Type 1} → Settles M probe_c.winterhasp_codestream_of.ended (λ 𝓤. probe_c.winterhasp_codestream_of.clauses)
winterhasp_codestream_of m κs a g = settles m (before m (before m (last m))) λ x y e i. (e.0 i, (tt, (e.1.1 i, (e.1.0 i, tt))))

pub winterhasp_header_records : {M : Type 1} → Settles M probe_c.main_header.winterhasp_header_records.ended (λ 𝓤. probe_c.main_header.winterhasp_header_records.clauses)
winterhasp_header_records m κs a g = settles m (before m (before m (before m (before m (before m (before m (last m))))))) λ x y e i. (e.0 i, (tt, (tt, (e.1.1.1.1.1.0 i, (e.1.1.1.1.1.1 i, (e.1.0 i, (e.1.1.0 i, (e.1.1.1.0 i, (e.1.1.1.1.0 i, tt)))))))))
