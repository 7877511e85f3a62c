-- A double that passes 64 bits passes the length too.
use native.Mathlib.Omega.{arith}
use Rattle.reader.specs.Growth.{next_region}
use Rattle.reader.proofs.growth.next_region.Goals as goal

pub returns : goal.returns
unfolding next_region
returns c = omega arith
