-- What the scan says of the records that are held, and leaves of them.
use Prim.Native.Nat.{ℕ}
use mathlib.Core.Path.{ap, ◌∙◌}
use mathlib.Core.List.{List}
use Rattle.numbers.specs.Bytes.{put}
use Rattle.types.specs.Row.{rows_of}
use Rattle.parts.specs.Scan.{scanned}
use Rattle.records.specs.Scan.{scanned_records}
use Rattle.records.proofs.Answers.{length_scanned}
use Rattle.probe.specs.Own.{own}
use Rattle.probe.proofs.OwnLaws.{all_held, lent_own, left_own}
use Rattle.probe.proofs.scan.winterhasp_scan_records.Goals as goal

pub returns-clause-table_after : goal.returns-clause-table_after
returns-clause-table_after c =
    let s : List ℕ = c.args.codestream.now in
    let at : ℕ = c.args.first_sot_offset in
    let table : List ℕ = c.args.table.now in
    let answer = c.scan_into-scan.ensures.answer_value ∙ ap (scanned s at) (all_held table c.count-count.ensures c.load-records.ensures) in
    let kept = ap (scanned_records s at) (lent_own table c.count-count.ensures c.load-records.ensures) in
    let rows = ap rows_of (left_own table c.count-count.ensures c.load-records.ensures c.scan_into-scan.ensures.table_value kept (length_scanned s at (own table))) in
    c.store.ensures ∙ ap (put table 0) rows
