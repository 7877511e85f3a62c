-- Bytes fall in the loop, and the depth that is left in the calls: a list at a depth opens a superbox there, which holds a list one deeper, so twice what is left, and
-- one more for the superbox. In the loop so many boxes were passed up to here.
use Prim.Native.Nat.{◌+◌, ◌-◌, ◌*◌}
use lib.ListN.{length}
use Rattle.reader.proofs.BoxesCounting.{Counting}
use Rattle.reader.proofs.boxes.+count_boxes_count_superbox.Given as goal

abbrev pub decreases-count_boxes : goal.decreases-count_boxes
decreases-count_boxes l = 2 * (9 - l.depth)

abbrev pub decreases-count_superbox : goal.decreases-count_superbox
decreases-count_superbox l = 2 * (8 - l.entry.depth) + 1

abbrev pub invariant-count_boxes-loop-step : goal.invariant-count_boxes-loop-step
invariant-count_boxes-loop-step l = Counting l.within l.depth l.start l.at l.count

abbrev pub decreases-count_boxes-loop-step : goal.decreases-count_boxes-loop-step
decreases-count_boxes-loop-step l = length l.within - l.at
