-- Nothing is old.
use mathlib.Core.Path.{◌∙◌}
use lib.ListN.{length}
use Rattle.index.proofs.Extended.{index_afresh, scratch_afresh}
use Rattle.records.proofs.by_tile.index_tiles.Goals as goal

pub returns : goal.returns
returns c =
    let n = length c.args.table.now in
    let e = c.extend_index.ensures in
    record {
      value = e.value;
      index_after = e.index_after ∙ index_afresh n c.extend_index.result c.args.table.now c.args.index.now;
      scratch_after = e.scratch_after ∙ scratch_afresh n c.extend_index.result c.args.table.now c.args.scratch.now;
    }
