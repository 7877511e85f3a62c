-- The two tests are the definition's.
use borrow.Author.Tests.{le-leb, lt-leb}
use Rattle.reader.specs.Components.{apart}
use Rattle.reader.proofs.components.is_apart.Goals as goal

pub returns-then-codestream-at-ge1 : goal.returns-then-codestream-at-ge1
unfolding apart
returns-then-codestream-at-ge1 c = rw (le-leb _ _ c.if-codestream-at-ge1.true)

pub returns-else-codestream-at-ge1 : goal.returns-else-codestream-at-ge1
unfolding apart
returns-else-codestream-at-ge1 c = rw (lt-leb _ _ c.if-codestream-at-ge1.false)
