-- A record is one item of the table.
use native.Mathlib.Nat.{div-one}
use lib.ListN.{length}
use Rattle.records.proofs.by_tile.extend_index.Goals as goal

pub returns : goal.returns
returns c =
    let many = div-one (length c.args.table.now) in
    let e = c.extend.ensures in
    record { value = rw many at e.value; index_after = rw many at e.index_after; scratch_after = rw many at e.scratch_after }
