-- The chain from the present position ends as the chain from 0 does; each turn is one step of it, and what is left of the file falls.
use Prim.Native.Nat.{◌-◌}
use mathlib.Core.Path.{◌≡◌}
use lib.ListN.{length}
use Rattle.reader.specs.Search.{found_from}
use Rattle.reader.proofs.search.find_jp2c.Given as goal

abbrev pub invariant-loop-found : goal.invariant-loop-found
invariant-loop-found l = found_from l.file l.at ≡ found_from l.file 0

abbrev pub decreases-loop-found : goal.decreases-loop-found
decreases-loop-found l = length l.file - l.at
