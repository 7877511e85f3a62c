-- What was counted and what the keys from here on say are all entries; each turn is one key.
use Rattle.index.proofs.EntriesLaws.{Counted}
use Rattle.index.proofs.entries.count.Given as goal

abbrev pub invariant-loop-key : goal.invariant-loop-key
invariant-loop-key l = Counted l.tile l.table l.run l.n l.key-index
