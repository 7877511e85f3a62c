-- What is left between the two ends finds what the whole search finds; each turn halves it.
use Prim.Native.Nat.{◌-◌}
use Rattle.index.proofs.RunLaws.{Halving}
use Rattle.index.proofs.run.first_from.Given as goal

abbrev pub invariant-loop-lo : goal.invariant-loop-lo
invariant-loop-lo l = Halving l.index l.tile l.from l.lo l.hi

abbrev pub decreases-loop-lo : goal.decreases-loop-lo
decreases-loop-lo l = l.hi - l.lo
