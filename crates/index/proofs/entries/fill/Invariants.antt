-- The rows that are left, put where the next row goes, make the table that all rows make of the one lent; each turn is one key.
use Rattle.index.proofs.EntriesLaws.{Filled}
use Rattle.index.proofs.entries.fill.Given as goal

abbrev pub invariant-loop-key : goal.invariant-loop-key
invariant-loop-key l = Filled l.tile l.table l.run l.initial.out l.out l.at l.key-index
