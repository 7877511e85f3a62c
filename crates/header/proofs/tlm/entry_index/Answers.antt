-- By the size: none, one byte, two.
use native.Mathlib.Nat.{add-zero}
use native.Mathlib.Omega.{arith}
use Rattle.numbers.specs.Bytes.{be}
use Rattle.header.proofs.tlm.entry_index.Goals as goal

pub returns-in-1 : goal.returns-in-1
unfolding be
returns-in-1 c = rw (c.in-1.is, add-zero) (omega arith)
