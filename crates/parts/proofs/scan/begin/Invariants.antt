-- As many records as were counted lie between the start and here, their rows were zeros and are written; each turn is one more, and where it stops that is the contract.
use Prim.Native.Nat.{◌-◌}
use lib.ListN.{length}
use Rattle.parts.proofs.BeginLaws.{Begun}
use Rattle.parts.proofs.scan.begin.Given as goal

abbrev pub invariant-loop-table : goal.invariant-loop-table
invariant-loop-table l = Begun l.codestream l.start l.initial.table l.table l.at l.count l.row

abbrev pub decreases-loop-table : goal.decreases-loop-table
decreases-loop-table l = length l.initial.table - l.row
