-- Whether a prefix of a codestream holds its whole main header (docs/RULES.md, "Header extent").
use Rattle.std.specs.Prelude.{ℕ, ◌+◌, cond, List, length, leb, eqb, Option, Some, None}
use Rattle.numbers.specs.Bytes.{be}
use Rattle.types.specs.Markers.{SOC}
use Rattle.chain.specs.Chain.{Chain}
use Rattle.header.specs.Step.{HeaderEnd, sot, cut, steps_from}
use Rattle.types.specs.declared.CodestreamOffset.{CodestreamOffset}

-- the answer for each way that a walk ends at a position
unfoldable pub ended_as : HeaderEnd → ℕ → Option CodestreamOffset
ended_as sot at = Some (record { 0 = at })
ended_as cut at = None

unfoldable pub extent_end : Chain HeaderEnd → Option CodestreamOffset
unfolding ended_as
extent_end walk = ended_as walk.ended walk.stopped

-- under 4 bytes or no SOC: Truncated; otherwise as the walk from 2 ends
unfoldable pub extent_of : List ℕ → Option CodestreamOffset
unfolding extent_end steps_from
extent_of s = cond (leb 4 (length s)) (cond (eqb (be 2 s 0) SOC) (extent_end (steps_from s 2)) None) None

-- ---- prefixes, of which the laws speak

-- what the first n bytes tell of an extent: the first SOT, where they hold its marker
unfoldable pub told_by : ℕ → Option CodestreamOffset → Option CodestreamOffset
told_by n (Some at) = cond (leb (at.0 + 2) n) (Some at) None
told_by n None = None

-- how many of so many bytes are enough for a header of an extent: those through the first SOT's marker, or all
unfoldable pub enough_of : ℕ → Option CodestreamOffset → ℕ
enough_of size (Some at) = at.0 + 2
enough_of size None = size

-- how many of a codestream's bytes are enough for its header
unfoldable pub enough : List ℕ → ℕ
unfolding enough_of
enough s = enough_of (length s) (extent_of s)
