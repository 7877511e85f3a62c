-- What is left of each run, put where its next row goes, makes the table that the four runs make of the one lent; a turn writes a row of each.
use Prim.Native.Nat.{◌-◌}
use Rattle.parts.proofs.FillRuns.{Spread}
use Rattle.parts.proofs.fill.fill_runs.Given as goal

abbrev pub invariant-loop-row : goal.invariant-loop-row
invariant-loop-row g l =
    Spread g.E.Element.layout l.codestream l.start l.initial.table l.table l.wide l.first l.second l.third l.fourth l.row

abbrev pub decreases-loop-row : goal.decreases-loop-row
decreases-loop-row g l = l.wide - l.row
