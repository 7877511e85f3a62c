-- Nothing is old.
use Prim.Native.Nat.{◌/◌}
use mathlib.Core.Path.{◌∙◌}
use lib.ListN.{length}
use Rattle.types.specs.Row.{row_bytes, records_in}
use Rattle.index.proofs.Extended.{index_afresh, scratch_afresh}
use Rattle.index.proofs.extend.index_tiles.Goals as goal

pub returns : goal.returns
returns c =
    let n = length c.args.table.now / row_bytes in
    let es = records_in c.args.table.now in
    let e = c.extend_index.ensures in
    record {
      value = e.value;
      index_after = e.index_after ∙ index_afresh n c.extend_index.result es c.args.index.now;
      scratch_after = e.scratch_after ∙ scratch_afresh n c.extend_index.result es c.args.scratch.now;
    }
