-- The rows that are left, put where the next row goes, make the table that all rows make of the one lent; a turn puts one.
use Rattle.parts.proofs.FillRest.{Filled}
use Rattle.parts.proofs.fill.fill_rest.Given as goal

abbrev pub invariant-loop : goal.invariant-loop
invariant-loop g l = Filled g.E.Element.layout l.codestream l.start l.count l.first_row l.initial.table l.table l.at l.row l.counter
