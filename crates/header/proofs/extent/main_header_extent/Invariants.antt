-- The walk from the present position ends as the walk from 2 does; each turn is one step of the chain, and what is left of the prefix falls.
use Prim.Native.Nat.{◌≤◌, ◌-◌}
use mathlib.Core.Path.{◌≡◌}
use lib.ListN.{length}
use Rattle.header.specs.Step.{steps_from}
use Rattle.header.specs.Extent.{extent_of, extent_end}
use Rattle.header.proofs.extent.main_header_extent.Given as goal

abbrev pub invariant-loop-marker : goal.invariant-loop-marker
invariant-loop-marker l = (l.at ≤ length l.prefix) × (extent_end (steps_from l.prefix l.at) ≡ extent_of l.prefix)

abbrev pub decreases-loop-marker : goal.decreases-loop-marker
decreases-loop-marker l = length l.prefix - l.at
