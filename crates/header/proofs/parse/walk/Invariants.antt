-- What was counted so far, with what lies ahead, is the whole count.
use Prim.Native.Nat.{◌-◌}
use lib.ListN.{length}
use Rattle.header.proofs.ParseCounting.{Counting}
use Rattle.header.proofs.parse.walk.Given as goal

abbrev pub invariant-loop-passed : goal.invariant-loop-passed
invariant-loop-passed l = Counting l.numbering l.codestream l.at l.stripped l.entries l.fillers l.first

abbrev pub decreases-loop-passed : goal.decreases-loop-passed
decreases-loop-passed l = length l.codestream - l.at
