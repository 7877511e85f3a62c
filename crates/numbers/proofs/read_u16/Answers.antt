-- std's sum of the bytes is the definition's.
use native.Mathlib.Nat.{add-zero}
use native.Mathlib.Omega.{arith}
use Rattle.numbers.specs.Bytes.{be}
use Rattle.numbers.proofs.read_u16.Goals as goal

pub returns : goal.returns
unfolding be
returns c = rw add-zero (omega (arith, c.from_be_bytes.ensures))
