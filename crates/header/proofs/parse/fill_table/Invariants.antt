-- What was written and the records that lie ahead make up the table at every turn.
use Prim.Native.Nat.{◌-◌}
use lib.ListN.{length}
use Rattle.header.proofs.ParseFilling.{Filling}
use Rattle.header.proofs.parse.fill_table.Given as goal

abbrev pub invariant-loop-passed : goal.invariant-loop-passed
invariant-loop-passed g l = Filling g.E.Element.layout l.numbering l.codestream l.initial.table l.initial.offset.0 l.table l.row l.offset.0 l.first l.at

abbrev pub decreases-loop-passed : goal.decreases-loop-passed
decreases-loop-passed g l = length l.codestream - l.at
