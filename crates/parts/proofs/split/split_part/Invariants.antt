-- The part that is asked for is the one so many parts after here; each turn passes one.
use Prim.Native.Nat.{◌-◌, ◌≤◌}
use mathlib.Core.List.{[]}
use mathlib.Core.Path.{◌≡◌}
use lib.ListN.{length, get_or}
use Rattle.parts.specs.Split.{parts_from, parts_of}
use Rattle.parts.proofs.split.split_part.Given as goal

abbrev pub invariant-loop-end : goal.invariant-loop-end
invariant-loop-end l = (l.at ≤ length l.tile) × (get_or (parts_from l.tile l.at) l.skip [] ≡ get_or (parts_of l.tile) l.k [])

abbrev pub decreases-loop-end : goal.decreases-loop-end
decreases-loop-end l = length l.tile - l.at
