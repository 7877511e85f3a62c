-- The test is the definition's.
use Prim.Native.Nat.{◌+◌}
use native.Mathlib.Omega.{arith}
use lib.ListN.{length}
use borrow.Author.Tests.{le-leb, lt-leb}
use Rattle.header.specs.Walk.{cut_at}
use Rattle.header.proofs.walk.cut_at.Goals as goal

pub returns-then-length-at-ge2 : goal.returns-then-length-at-ge2
unfolding cut_at
returns-then-length-at-ge2 c =
    rw (le-leb (c.args.at + 2) (length c.args.codestream.now) (omega arith))

pub returns-else-length-at-ge2 : goal.returns-else-length-at-ge2
unfolding cut_at
returns-else-length-at-ge2 c =
    rw (lt-leb (c.args.at + 2) (length c.args.codestream.now) (omega arith))
