-- The test of the room is the definition's test.
use mathlib.Core.Path.{refl}
use borrow.Author.Tests.{lt-leb, le-leb}
use Rattle.parts.proofs.split.tell.Goals as goal

pub returns-then-out-part : goal.returns-then-out-part
returns-then-out-part c = rw (lt-leb _ _ c.if-out-part.true) record { value = refl; value_after = refl; out_after = refl }

pub returns : goal.returns
returns c = rw (le-leb _ _ c.if-out-part.false) record { value = refl; value_after = refl; out_after = c.copy_at.ensures.out_after }
