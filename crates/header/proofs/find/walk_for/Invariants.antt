-- What was found so far, or what lies ahead, is what is found in the whole.
use Prim.Native.Nat.{◌-◌}
use lib.ListN.{length}
use Rattle.header.proofs.FindLaws.{Seeking}
use Rattle.header.proofs.find.walk_for.Given as goal

abbrev pub invariant-loop-passed : goal.invariant-loop-passed
invariant-loop-passed l = Seeking l.codestream l.marker l.at l.first

abbrev pub decreases-loop-passed : goal.decreases-loop-passed
decreases-loop-passed l = length l.codestream - l.at
