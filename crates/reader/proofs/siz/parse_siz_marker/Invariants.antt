-- The search from the present position ends as the search from 2 does; each turn is one step of the chain, and what is left of the codestream falls.
use Prim.Native.Nat.{◌-◌}
use mathlib.Core.Path.{◌≡◌}
use lib.ListN.{length}
use Rattle.reader.specs.Siz.{siz_from, siz_read}
use Rattle.reader.proofs.siz.parse_siz_marker.Given as goal

abbrev pub invariant-loop-next : goal.invariant-loop-next
invariant-loop-next l = siz_from l.codestream l.at ≡ siz_read l.codestream

abbrev pub decreases-loop-next : goal.decreases-loop-next
decreases-loop-next l = length l.codestream - l.at
