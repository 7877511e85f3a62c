-- The rows of the entries that are left, put where the next row goes, make the table that all rows make of the one lent; a turn puts one.
use Prim.Native.Nat.{◌-◌}
use Rattle.header.proofs.TlmFill.{Filled}
use Rattle.header.proofs.tlm.fill_segment.Given as goal

abbrev pub invariant-loop-i : goal.invariant-loop-i
invariant-loop-i g l = Filled g.E.Element.layout l.codestream l.at l.first l.count l.initial.offset.0 l.initial.table l.row l.table l.offset.0 l.to l.i

abbrev pub decreases-loop-i : goal.decreases-loop-i
decreases-loop-i g l = l.count - l.i
