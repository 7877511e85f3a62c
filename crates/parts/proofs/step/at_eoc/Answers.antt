-- The two tests, in the definition's order.
use Prim.Native.Nat.{◌+◌}
use native.Mathlib.Omega.{arith}
use lib.ListN.{length}
use borrow.Author.Tests.{le-leb, lt-leb}
use Rattle.parts.specs.Scan.{eoc_at}
use Rattle.parts.proofs.step.at_eoc.Goals as goal

pub returns-then-codestream-at-ge2 : goal.returns-then-codestream-at-ge2
unfolding eoc_at
returns-then-codestream-at-ge2 c =
    rw (le-leb (c.args.at + 2) (length c.args.codestream.now) (omega arith), ← c.read_u16.ensures)

pub returns-else-codestream-at-ge2 : goal.returns-else-codestream-at-ge2
unfolding eoc_at
returns-else-codestream-at-ge2 c =
    rw (lt-leb (c.args.at + 2) (length c.args.codestream.now) (omega arith)) (lt-leb _ _ c.if-codestream-at-ge2.false)
