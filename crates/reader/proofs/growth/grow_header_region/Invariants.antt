-- After k enlargements the region is the k-th, and the growth from there on ends as the whole growth does; each turn adds one to k, which stays below the length.
use Prim.Native.Nat.{◌-◌}
use mathlib.Core.Path.{◌≡◌}
use lib.ListN.{length}
use Rattle.reader.specs.Growth.{region_at, growth_from, grown_at, grown}
use Rattle.reader.proofs.growth.grow_header_region.Given as goal

abbrev pub invariant-loop-region : goal.invariant-loop-region
invariant-loop-region l = (l.region ≡ region_at (length l.codestream) l.enlargements) × (grown_at l.codestream (growth_from l.codestream l.enlargements) ≡ grown l.codestream)

abbrev pub decreases-loop-region : goal.decreases-loop-region
decreases-loop-region l = length l.codestream - l.enlargements
