-- A record is one item of the table.
use Prim.Native.Nat.{ℕ}
use native.Mathlib.Nat.{div-one}
use mathlib.Core.Path.{ap, ◌∙◌}
use lib.ListN.{length}
use Rattle.parts.specs.Scan.{scanned}
use Rattle.records.proofs.Answers.{scan_records}
use Rattle.records.proofs.scan.scan_sot_markers.Goals as goal

pub returns : goal.returns
returns c =
    let e = c.scan_judged.ensures in
    let table = c.args.table.now in
    record {
      value = e.value ∙ ap (λ (n : ℕ). scanned c.args.codestream.now c.args.first_sot_offset.0 n) (div-one (length table));
      table_after = e.table_after ∙ scan_records _ _ _;
    }
