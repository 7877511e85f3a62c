-- What was counted and the parts from here on are all parts; each turn is one step of the chain.
use Prim.Native.Nat.{◌+◌, ◌-◌, ◌≤◌}
use mathlib.Core.Path.{◌≡◌}
use lib.ListN.{length}
use Rattle.parts.specs.Split.{parts_from, parts_of}
use Rattle.parts.proofs.split.split_count.Given as goal

abbrev pub invariant-loop-end : goal.invariant-loop-end
invariant-loop-end l = (l.at ≤ length l.tile) × (l.count ≤ l.at) × (l.count + length (parts_from l.tile l.at) ≡ length (parts_of l.tile))

abbrev pub decreases-loop-end : goal.decreases-loop-end
decreases-loop-end l = length l.tile - l.at
