-- Both halves of the test are the definition's.
use borrow.Author.Tests.{le-leb, lt-leb}
use Rattle.header.specs.Parse.{stands}
use Rattle.header.proofs.parse.marker_stands.Goals as goal

pub returns-then-at-codestream : goal.returns-then-at-codestream
unfolding stands
returns-then-at-codestream c = rw (c.read_u16.ensures, le-leb _ _ c.if-at-codestream.true)

pub returns-else-at-codestream : goal.returns-else-at-codestream
unfolding stands
returns-else-at-codestream c = rw (lt-leb _ _ c.if-at-codestream.false)
