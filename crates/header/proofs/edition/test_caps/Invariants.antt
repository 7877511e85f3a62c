-- What was met of CAP so far, with what lies ahead, is what the whole walk meets.
use Prim.Native.Nat.{◌-◌}
use lib.ListN.{length}
use Rattle.header.proofs.EditionLaws.{Capping}
use Rattle.header.proofs.edition.test_caps.Given as goal

abbrev pub invariant-loop-passed : goal.invariant-loop-passed
invariant-loop-passed l = Capping l.codestream l.at l.cap

abbrev pub decreases-loop-passed : goal.decreases-loop-passed
decreases-loop-passed l = length l.codestream - l.at
