-- What was written, the run still to be copied and what lies ahead make up the decode header at every turn.
use Prim.Native.Nat.{◌-◌}
use lib.ListN.{length}
use Rattle.header.proofs.StripLaws.{Stripping}
use Rattle.header.proofs.strip.strip.Given as goal

abbrev pub invariant-loop-passed : goal.invariant-loop-passed
invariant-loop-passed l = Stripping l.codestream l.initial.out l.out l.from l.to l.at

abbrev pub decreases-loop-passed : goal.decreases-loop-passed
decreases-loop-passed l = length l.codestream - l.at
