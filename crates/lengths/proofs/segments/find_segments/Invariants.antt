-- What is noted so far, with what lies ahead, is what the whole header has.
use Prim.Native.Nat.{◌-◌}
use lib.ListN.{length}
use Rattle.lengths.proofs.PlacesFound.{Finding}
use Rattle.lengths.proofs.segments.find_segments.Given as goal

abbrev pub invariant-loop-passed : goal.invariant-loop-passed
invariant-loop-passed l = Finding l.header l.places l.at l.again

abbrev pub decreases-loop-passed : goal.decreases-loop-passed
decreases-loop-passed l = length l.header - l.at
