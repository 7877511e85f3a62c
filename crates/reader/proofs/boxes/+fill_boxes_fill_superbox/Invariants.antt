-- Bytes fall in the loop, and the depth that is left in the calls, as where boxes are counted. In the loop the boxes passed up to here are written, one row after the other.
use Prim.Native.Nat.{◌+◌, ◌-◌, ◌*◌}
use lib.ListN.{length}
use Rattle.reader.proofs.BoxesFilling.{Filling}
use Rattle.reader.proofs.boxes.+fill_boxes_fill_superbox.Given as goal

abbrev pub decreases-fill_boxes : goal.decreases-fill_boxes
decreases-fill_boxes l = 2 * (9 - l.depth)

abbrev pub decreases-fill_superbox : goal.decreases-fill_superbox
decreases-fill_superbox l = 2 * (8 - l.entry.depth) + 1

abbrev pub invariant-fill_boxes-loop-table : goal.invariant-fill_boxes-loop-table
invariant-fill_boxes-loop-table l = Filling l.within l.depth l.start l.first l.initial.table l.table l.at l.row

abbrev pub decreases-fill_boxes-loop-table : goal.decreases-fill_boxes-loop-table
decreases-fill_boxes-loop-table l = length l.within - l.at
