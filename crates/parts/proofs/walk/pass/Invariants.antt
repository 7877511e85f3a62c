-- As many tile-parts as were counted lie between the start and here; each turn is one more, and where it stops that is the contract.
use Prim.Native.Nat.{◌-◌, ◌≤◌}
use Rattle.parts.specs.Walk.{Reached}
use Rattle.parts.proofs.walk.pass.Given as goal

abbrev pub invariant-loop-count : goal.invariant-loop-count
invariant-loop-count l = (l.count ≤ l.most) × Reached l.codestream l.start l.at l.count

abbrev pub decreases-loop-count : goal.decreases-loop-count
decreases-loop-count l = l.most - l.count
