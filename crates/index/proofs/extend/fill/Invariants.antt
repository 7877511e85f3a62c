-- The keys that are stored, before those of the entries that are left: the same before a turn and after it.
use Prim.Native.Nat.{◌-◌, ◌≤◌}
use mathlib.Core.Path.{◌≡◌}
use lib.ListN.{length}
use Rattle.index.proofs.Extended.{Filled}
use Rattle.index.proofs.extend.fill.Given as goal

abbrev pub invariant-loop-i : goal.invariant-loop-i
invariant-loop-i g l = (l.i ≤ length l.initial.keys) × (length l.keys ≡ length l.initial.keys) × Filled (g.E.Element.layout.within l.table) l.first l.keys l.i

abbrev pub decreases-loop-i : goal.decreases-loop-i
decreases-loop-i g l = length l.initial.keys - l.i
